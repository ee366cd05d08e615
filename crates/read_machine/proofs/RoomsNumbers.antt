-- Where areas have no limit, reading refuses with numbers of the rules only. Assumes nothing.
use Prim.Native.Nat.{ℕ, ◌≤◌}
use mathlib.Core.Path.{◌≡◌, refl, ap}
use mathlib.Core.List.{List, [], ◌∷◌}
use mathlib.Core.Bool.{Bool, true, false, cond, ◌&&◌}
use mathlib.Core.Logic.{inl, inr}
use native.Mathlib.Omega.{arith}
use lib.Dec.{eqb, lit≤}
use Rattle.text_pieces.specs.of_utf8.Utf8.{utf8}
use Rattle.text_pieces.specs.of_utf8.Characters.{encode}
use Rattle.read_content.specs.of_trim.Trim.{trimmed}
use Rattle.table_events.specs.of_names.Tags.{tag_of, testsuites, testsuite, testcase, properties, property, stack_trace, system-out, system-err}
use Rattle.text_pieces.specs.of_reference.Reference.{refs_ok, decoded, is_numeric, is_named, char_of, unnamed}
use Rattle.text_pieces.specs.of_refusal.Refusal.{number, OfRules, Refused, refused}
use Rattle.table_events.specs.of_table.Event.{Attribute, TagKind, Start, Empty, End, PieceKind, Text, CData, Ref, Other, Indent, Event, Tag, Piece, Eof, Fault}
use Rattle.read_path.specs.of_read_element.Outcome.{Place, there, unlimited}
use Rattle.read_path.proofs.of_read_element.Rooms.{IsShort, Short, short-refusal}
use Rattle.read_path.proofs.of_read_element.RoomsNumbers.{ByRules, fine, low, low-number, low-bind, low-need, low-cond, low-room, low-leaf, low-element}
use Rattle.read_path.specs.of_read_state.Control.{Level, top, suite, case, status, Output, Mode, at, gathering, listing, skipping, finished, Control}
use Rattle.read_path.specs.of_read_state.Control.{Act, pass, open_report, open_suite, open_case, open_status, close_suite, close_case, close_status, open_text, close_text, open_list, read_property, stop, missing, broken}
use Rattle.read_path.specs.of_read_state.Control.{is_status, or_skip, gathers}
use Rattle.read_path.specs.of_read_rules.Rules.{outputs, emptied, at_top, at_suite, at_case, child, at_status, tag_of_output, in_text, in_list_of, in_skip, plan_at, plan_eof, plan_fault}
use Rattle.read_path.specs.of_read_place.Marks.{Marks}
use Rattle.read_path.specs.Paths.{act_place}
use Rattle.read_content.specs.Content.{Content, kill_all, property_kind, piece_of, gather, adding, with_records, keeping, is_empty, describing, outputting, perform}
use Rattle.read_machine.specs.Machine.{Machine, act, step, run}
use Rattle.text_pieces.specs.of_refusal.declared.Cause.TheVariants as cause
use Rattle.text_pieces.specs.of_refusal.declared.Cause.{Cause}

-- ---- plans
-- the number that an action refuses with for itself
abbrev breaking : Act → ℕ
breaking (pass m) = 0
breaking (open_report e) = 0
breaking (open_suite e) = 0
breaking (open_case e) = 0
breaking (open_status k e) = 0
breaking close_suite = 0
breaking close_case = 0
breaking close_status = 0
breaking (open_text l o) = 0
breaking (close_text l o) = 0
breaking (open_list l e) = 0
breaking (read_property l e name) = 0
breaking stop = 0
breaking missing = 0
breaking (broken why) = number why

data LowAct : Act → Type 0 where
  low_act : {a : Act} → breaking a ≤ 10 → LowAct a

choosing : (b : Bool) {a c : Act} → LowAct a → LowAct c → LowAct (cond b a c)
choosing true h k = h
choosing false h k = k

low-outputs : (l : Level) (name : List ℕ) → LowAct (outputs l name)
unfolding outputs or_skip
low-outputs l name = choosing (eqb (tag_of name) system-out) (low_act (lit≤ tt)) (choosing (eqb (tag_of name) system-err) (low_act (lit≤ tt)) (low_act (lit≤ tt)))

low-emptied : (l : Level) (name : List ℕ) → LowAct (emptied l name)
unfolding emptied
low-emptied l name = choosing (eqb (tag_of name) system-out) (low_act (lit≤ tt)) (choosing (eqb (tag_of name) system-err) (low_act (lit≤ tt)) (low_act (lit≤ tt)))

low-top : (seen : Bool) (k : TagKind) (t : ℕ) → LowAct (at_top seen k t)
unfolding at_top
low-top seen Start t = choosing (eqb t testsuites) (low_act (lit≤ tt)) (choosing (eqb t testsuite && seen) (low_act (lit≤ tt)) (low_act (lit≤ tt)))
low-top seen Empty t = choosing (eqb t testsuites) (low_act (lit≤ tt)) (choosing (eqb t testsuite && seen) (low_act (lit≤ tt)) (low_act (lit≤ tt)))
low-top seen End t = choosing (eqb t testsuites) (choosing seen (low_act (lit≤ tt)) (low_act (lit≤ tt))) (low_act (lit≤ tt))

low-suite : (k : TagKind) (name : List ℕ) → LowAct (at_suite k name)
unfolding at_suite
low-suite Start name = choosing (eqb (tag_of name) testcase) (low_act (lit≤ tt)) (choosing (eqb (tag_of name) properties) (low_act (lit≤ tt)) (low-outputs suite name))
low-suite Empty name = choosing (eqb (tag_of name) testcase) (low_act (lit≤ tt)) (choosing (eqb (tag_of name) properties) (low_act (lit≤ tt)) (low-emptied suite name))
low-suite End name = choosing (eqb (tag_of name) testsuite) (low_act (lit≤ tt)) (low_act (lit≤ tt))

low-case : (k : TagKind) (name : List ℕ) → LowAct (at_case k name)
unfolding at_case
low-case Start name = choosing (is_status (tag_of name)) (low_act (lit≤ tt)) (choosing (eqb (tag_of name) properties) (low_act (lit≤ tt)) (low-outputs case name))
low-case Empty name = choosing (is_status (tag_of name)) (low_act (lit≤ tt)) (choosing (eqb (tag_of name) properties) (low_act (lit≤ tt)) (low-emptied case name))
low-case End name = choosing (eqb (tag_of name) testcase) (low_act (lit≤ tt)) (low_act (lit≤ tt))

low-child : (name : List ℕ) → LowAct (child name)
unfolding child
low-child name = choosing (eqb (tag_of name) stack_trace) (low_act (lit≤ tt)) (low-outputs status name)

low-status : (k : TagKind) (name : List ℕ) → LowAct (at_status k name)
unfolding at_status
low-status Start name = low-child name
low-status Empty name = choosing (eqb (tag_of name) stack_trace) (low_act (lit≤ tt)) (low-emptied status name)
low-status End name = choosing (is_status (tag_of name)) (low_act (lit≤ tt)) (low_act (lit≤ tt))

low-text : (l : Level) (o : Output) (k : TagKind) (t : ℕ) → LowAct (in_text l o k t)
unfolding in_text
low-text l o Start t = low_act (lit≤ tt)
low-text l o Empty t = low_act (lit≤ tt)
low-text l o End t = choosing (eqb t (tag_of_output o)) (low_act (lit≤ tt)) (low_act (lit≤ tt))

low-list : (l : Level) (k : TagKind) (name : List ℕ) → LowAct (in_list_of l k name)
unfolding in_list_of
low-list l Start name = choosing (eqb (tag_of name) property) (low_act (lit≤ tt)) (low_act (lit≤ tt))
low-list l Empty name = choosing (eqb (tag_of name) property) (low_act (lit≤ tt)) (low_act (lit≤ tt))
low-list l End name = choosing (eqb (tag_of name) properties) (low_act (lit≤ tt)) (low_act (lit≤ tt))

low-skip : (m : Mode) (skipped : List ℕ) (depth : ℕ) (k : TagKind) (name : List ℕ) → LowAct (in_skip m skipped depth k name)
unfolding in_skip
low-skip m skipped depth Start name = low_act (lit≤ tt)
low-skip m skipped depth Empty name = low_act (lit≤ tt)
low-skip m skipped depth End name = low_act (lit≤ tt)

low-plan : (m : Mode) (seen : Bool) (k : TagKind) (name : List ℕ) → LowAct (plan_at m seen k name)
unfolding plan_at
low-plan (at top) seen k name = low-top seen k (tag_of name)
low-plan (at suite) seen k name = low-suite k name
low-plan (at case) seen k name = low-case k name
low-plan (at status) seen k name = low-status k name
low-plan (gathering l o) seen k name = low-text l o k (tag_of name)
low-plan (listing l) seen k name = low-list l k name
low-plan (skipping m skipped depth) seen k name = low-skip m skipped depth k name
low-plan finished seen k name = low_act (lit≤ tt)

low-eof : (m : Mode) (seen closed : Bool) → LowAct (plan_eof m seen closed)
unfolding plan_eof
low-eof (at top) seen closed = choosing seen (choosing closed (low_act (lit≤ tt)) (low_act (lit≤ tt))) (low_act (lit≤ tt))
low-eof (at suite) seen closed = low_act (lit≤ tt)
low-eof (at case) seen closed = low_act (lit≤ tt)
low-eof (at status) seen closed = low_act (lit≤ tt)
low-eof (gathering l o) seen closed = low_act (lit≤ tt)
low-eof (listing l) seen closed = low_act (lit≤ tt)
low-eof (skipping m skipped depth) seen closed = low_act (lit≤ tt)
low-eof finished seen closed = low_act (lit≤ tt)

low-fault : (m : Mode) → LowAct (plan_fault m)
unfolding plan_fault
low-fault (at l) = low_act (lit≤ tt)
low-fault (gathering l o) = low_act (lit≤ tt)
low-fault (listing l) = low_act (lit≤ tt)
low-fault (skipping m skipped depth) = low_act (lit≤ tt)
low-fault finished = low_act (lit≤ tt)

-- ---- actions
rules-unnamed : (name : List ℕ) → OfRules (number (unnamed name))
rules-unnamed name = go (is_numeric name)
  where
    go : (t : Bool) → OfRules (number (cond t cause.BadReference cause.UnknownEntity))
    go true = inl (lit≤ tt)
    go false = inr (inr refl)

low-piece : (p : Place) (k : PieceKind) (s : List ℕ) → ByRules (there p (piece_of k s))
unfolding piece_of there
low-piece p Text s = low-leaf p (utf8 s) (refs_ok s 0) (decoded s 0) cause.BadReference (inl (lit≤ tt))
low-piece p CData s = low-leaf p (utf8 s) true s cause.NotUtf8 (inl (lit≤ tt))
low-piece p Ref s = low-leaf p (utf8 s) (is_named s) (encode (char_of s)) (unnamed s) (rules-unnamed s)
low-piece p Indent s = fine
low-piece p Other s = fine

low-gather : (p : Place) (mode : Mode) (k : PieceKind) (s : List ℕ) (c : Content) → ByRules (gather unlimited p mode k s c)
unfolding gather
low-gather p mode k s c = low-bind (low-piece p k s) λ v. low-room _ p cause.ScratchFull fine

low-adding : (p : Place) (kind j : ℕ) (xs : List Attribute) (c : Content) → ByRules (adding unlimited p kind j xs c)
unfolding adding
low-adding p kind j xs c = low-bind (low-element p kind j xs c.records c.texts) λ g. fine

low-keeping : (p : Place) (taken : Bool) (i o k : ℕ) (v : List ℕ) (c : Content) → ByRules (keeping unlimited p taken i o k v c)
unfolding keeping
low-keeping p taken i o k v c = low-room _ p cause.TextFull fine

low-describing : (p : Place) (m : Marks) (c : Content) → ByRules (describing unlimited p m c)
unfolding describing
low-describing p m c = low-cond (is_empty (trimmed c.description)) fine (low-bind (low-keeping p true m.status_at_of 20 6 c.description c) λ d. fine)

low-outputting : (p : Place) (l : Level) (o : Output) (m : Marks) (c : Content) → ByRules (outputting unlimited p l o m c)
unfolding outputting
low-outputting p l o m c = low-bind (low-keeping p _ _ _ _ c.gathered c) λ d. fine

low-perform : (p : Place) (a : Act) (j : ℕ) (xs : List Attribute) (k : Control) (m : Marks) (c : Content) → breaking a ≤ 10 → ByRules (perform unlimited p a j xs k m c)
unfolding perform
low-perform p (pass n) j xs k m c h = fine
low-perform p (open_report e) j xs k m c h = low-adding p 1 j xs (with_records c (kill_all c.records))
low-perform p (open_suite e) j xs k m c h = low-adding p 2 j xs c
low-perform p (open_case e) j xs k m c h = low-adding p 3 j xs c
low-perform p (open_status s e) j xs k m c h = low-adding p s j xs c
low-perform p close_suite j xs k m c h = fine
low-perform p close_case j xs k m c h = low-need _ p cause.StatusRule (inr (inl refl)) fine
low-perform p close_status j xs k m c h = low-describing p m c
low-perform p (open_text l o) j xs k m c h = fine
low-perform p (close_text l o) j xs k m c h = low-outputting p l o m c
low-perform p (open_list l e) j xs k m c h = fine
low-perform p (read_property l e name) j xs k m c h = low-adding p (property_kind l) j xs c
low-perform p stop j xs k m c h = fine
low-perform p missing j xs k m c h = low (inl (lit≤ tt))
low-perform p (broken n) j xs k m c h = low (inl h)

low-act : (a : Act) (j : ℕ) (xs : List Attribute) (s : Machine) → LowAct a → ByRules (act unlimited a j xs s)
unfolding act
low-act a j xs s (low_act h) = low-bind (low-perform (act_place a s.control.mode s.marks) a j xs s.control s.marks s.content h) λ c. fine

low_step : (e : Event) (s : Machine) → ByRules (step unlimited e s)
unfolding step
low_step (Tag k name j xs) s = low-act _ j xs s (low-plan s.control.mode s.control.seen k name)
low_step (Piece k bytes) s = low-bind (low-cond (gathers s.control.mode) (low-gather _ s.control.mode k bytes s.content) fine) λ c. fine
low_step Eof s = low-act _ 0 [] s (low-eof s.control.mode s.control.seen s.control.closed)
low_step Fault s = low-act _ 0 [] s (low-fault s.control.mode)

low_run : (es : List Event) (s : Machine) → ByRules (run unlimited es s)
unfolding run
low_run [] s = low_step Eof s
low_run (e ∷ es) s = low-bind (low_step e s) λ t. low_run es t

-- with no limit, a table is refused with a number of the rules only
pub run-number : (es : List Event) (s : Machine) (r : Refused) → run unlimited es s ≡ refused r → OfRules (number r.cause)
run-number es s r e = low-number r (low_run es s) e

-- so 12, 13 and 14 always say that room is lacking
not-room : {n : ℕ} → OfRules n → 12 ≤ n → ¬ (n ≤ 14)
not-room (inl h) l m = omega arith
not-room (inr (inl e)) l m = omega arith
not-room (inr (inr e)) l m = omega arith

-- a number of the rules is none of 12 to 14
pub rules-not-short : (why : Cause) → OfRules (number why) → ¬ IsShort why
rules-not-short why h (inl e) = let z : number why ≡ 12 = ap number e in not-room h (omega arith) (omega arith)
rules-not-short why h (inr (inl e)) = let z : number why ≡ 13 = ap number e in not-room h (omega arith) (omega arith)
rules-not-short why h (inr (inr e)) = let z : number why ≡ 14 = ap number e in not-room h (omega arith) (omega arith)

pub never-short : (es : List Event) (s : Machine) → ¬ Short (run unlimited es s)
never-short es s h = let q = short-refusal h in rules-not-short q.0.cause (run-number es s q.0 q.1) q.2
