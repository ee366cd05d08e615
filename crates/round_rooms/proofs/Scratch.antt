-- A description and a child's text together are never longer than the pieces that were read. Assumes nothing.
use Prim.Native.Nat.{ℕ, ◌+◌, ◌≤◌}
use mathlib.Core.Path.{◌≡◌, refl, ap, subst}
use mathlib.Core.List.{List, []}
use mathlib.Core.Bool.{Bool, true, false, cond}
use native.Mathlib.Omega.{arith}
use lib.ListN.{length, length-append}
use Rattle.read_machine.specs.of_area.Answer.{gives, refuses}
use Rattle.read_machine.specs.of_utf8.Utf8.{utf8}
use Rattle.read_machine.specs.of_utf8.Characters.{encode}
use Rattle.read_machine.specs.of_reference.Reference.{refs_ok, decoded, is_named, char_of, unnamed}
use Rattle.read_machine.proofs.of_reference.Decoding.{decoded-length}
use Rattle.read_machine.proofs.of_reference.Sizes.{char-size}
use Rattle.read_machine.specs.of_refusal.Refusal.{Outcome, accepted, refused}
use Rattle.write_report.specs.of_table.Event.{Attribute, PieceKind, Text, CData, Ref, Other, Indent, Event, Tag, Piece, Eof, Fault}
use Rattle.read_machine.specs.of_trim.Trim.{trimmed}
use Rattle.read_machine.specs.of_read_element.Outcome.{Place, unlimited, fits}
use Rattle.read_machine.proofs.of_read_element.TreeOutcome.{Holds, accept, refuse, bind, needed, answered, either}
use Rattle.read_machine.specs.of_read_state.Control.{Level, Output, Mode, at, gathering, listing, skipping, finished, Control, gathers}
use Rattle.read_machine.specs.of_read_state.Control.{Act, pass, open_report, open_suite, open_case, open_status, close_suite, close_case, close_status, open_text, close_text, open_list, read_property, stop, missing, broken}
use Rattle.read_machine.specs.of_read_rules.Rules.{plan_at, plan_eof, plan_fault}
use Rattle.read_machine.specs.of_read_place.Marks.{Marks}
use Rattle.read_machine.specs.of_read_path.Paths.{act_place}
use Rattle.read_machine.specs.of_read_content.Content.{Content, kill_all, kill_kind, property_kind, record_of_it, word_of, bit_of, takes, piece_of}
use Rattle.read_machine.specs.of_read_content.Content.{join_piece, own, gather, adding, with_records, keeping, is_empty, describing, outputting, perform}
use Rattle.read_machine.specs.Machine.{Machine, act, step}
use Rattle.round_rooms.specs.Pieces.{piece_size, event_size}
use Rattle.read_machine.specs.of_tree_status.Status.{ruled}
use Rattle.read_machine.specs.of_refusal.declared.Cause.TheVariants as cause
use Rattle.read_machine.specs.of_refusal.declared.Cause.{Cause}

-- ---- a piece, decoded
given-size : (t : Bool) (x v : List ℕ) (why : Cause) (n : ℕ) → (t ≡ true → length x ≤ n) → cond t (gives x) (refuses why) ≡ gives v → length v ≤ n
given-size true x v why n h e = let q : x ≡ v = cc in subst (λ (y : List ℕ). length y ≤ n) q (h refl)
given-size false x v why n h e = let z : ◌≡◌ {A = ℕ} 0 1 = cc in absurd (omega arith)

both-size : (b t : Bool) (x v : List ℕ) (why why' : Cause) (n : ℕ) → (t ≡ true → length x ≤ n) → cond b (cond t (gives x) (refuses why)) (refuses why') ≡ gives v → length v ≤ n
both-size true t x v why why' n h e = given-size t x v why n h e
both-size false t x v why why' n h e = let z : ◌≡◌ {A = ℕ} 0 1 = cc in absurd (omega arith)

pub piece-size : (k : PieceKind) (s v : List ℕ) → piece_of k s ≡ gives v → length v ≤ piece_size k s
unfolding piece_of
piece-size Text s v e = both-size (utf8 s) (refs_ok s 0) (decoded s 0) v cause.BadReference cause.NotUtf8 (length s) (λ t. decoded-length s) e
piece-size CData s v e = given-size (utf8 s) s v cause.NotUtf8 (length s) (λ t. omega arith) e
piece-size Ref s v e = both-size (utf8 s) (is_named s) (encode (char_of s)) v (unnamed s) cause.NotUtf8 (length s) (char-size s) e
piece-size Other s v e = given-size true [] v cause.NotUtf8 0 (λ t. omega arith) e
piece-size Indent s v e = given-size true s v cause.NotUtf8 (length s) (λ t. omega arith) e

-- ---- what is open
abbrev pub taken : Content → ℕ
taken c = length c.description + length c.gathered

-- at most n bytes are open
abbrev pub Opens : ℕ → Content → Type 0
Opens n c = taken c ≤ n

pub own-size : (mode : Mode) (c : Content) → length (own mode c) ≤ taken c
own-size (at l) c = omega arith
own-size (gathering l o) c = omega arith
own-size (listing l) c = omega arith
own-size (skipping m name depth) c = omega arith
own-size finished c = omega arith

pub join-size : (mode : Mode) (v : List ℕ) (c : Content) → taken (join_piece mode v c) ≤ taken c + length v
join-size (at l) v c = omega (arith, length-append c.description v)
join-size (gathering l o) v c = omega (arith, length-append c.gathered v)
join-size (listing l) v c = omega arith
join-size (skipping m name depth) v c = omega arith
join-size finished v c = omega arith

gather-opens : (p : Place) (mode : Mode) (k : PieceKind) (s : List ℕ) (c : Content) → Holds (Opens (taken c + piece_size k s)) (gather unlimited p mode k s c)
unfolding gather
gather-opens p mode k s c =
    bind (answered p (piece_of k s)) λ v e.
    needed (fits unlimited.scratch (length (own mode c) + length v)) p cause.ScratchFull λ z.
    accept (omega (arith, join-size mode v c, piece-size k s v e))

-- ---- actions never lengthen what is open
abbrev Any : {A : Type 0} → A → Type 0
Any a = Unit {0}

any : {A : Type 0} (m : Outcome A) → Holds Any m
any (accepted a) = accept tt
any (refused r) = refuse

adding-opens : (p : Place) (kind j : ℕ) (xs : List Attribute) (c : Content) → Holds (Opens (taken c)) (adding unlimited p kind j xs c)
unfolding adding
adding-opens p kind j xs c = bind (any _) λ g u. accept (omega arith)

keeping-opens : (p : Place) (b : Bool) (i o k : ℕ) (v : List ℕ) (c : Content) → Holds (λ (d : Content). d.description ≡ c.description) (keeping unlimited p b i o k v c)
unfolding keeping
keeping-opens p b i o k v c = needed _ p cause.TextFull λ z. accept refl

describing-opens : (p : Place) (m : Marks) (c : Content) → Holds (Opens (taken c)) (describing unlimited p m c)
unfolding describing
describing-opens p m c = either (is_empty (trimmed c.description)) (λ e. accept (omega arith)) (λ e. bind (any _) λ d u. accept (omega arith))

outputting-opens : (p : Place) (l : Level) (o : Output) (m : Marks) (c : Content) → Holds (Opens (taken c)) (outputting unlimited p l o m c)
unfolding outputting
outputting-opens p l o m c =
    bind (keeping-opens p (takes l m) (record_of_it l m) (word_of o) (bit_of o) c.gathered c) λ d e.
    accept (let z : length d.description ≡ length c.description = ap length e in omega arith)

unchanged : (c : Content) → Holds (Opens (taken c)) (accepted c)
unchanged c = accept {a = c} (omega arith)

perform-opens : (p : Place) (a : Act) (j : ℕ) (xs : List Attribute) (k : Control) (m : Marks) (c : Content) → Holds (Opens (taken c)) (perform unlimited p a j xs k m c)
unfolding perform
perform-opens p (pass n) j xs k m c = unchanged c
perform-opens p (open_report e) j xs k m c = adding-opens p 1 j xs (with_records c (kill_all c.records))
perform-opens p (open_suite e) j xs k m c = adding-opens p 2 j xs c
perform-opens p (open_case e) j xs k m c = adding-opens p 3 j xs c
perform-opens p (open_status s e) j xs k m c = adding-opens p s j xs c
perform-opens p close_suite j xs k m c = unchanged c
perform-opens p close_case j xs k m c = needed (ruled k.tally) p cause.StatusRule λ z. unchanged c
perform-opens p close_status j xs k m c = describing-opens p m c
perform-opens p (open_text l o) j xs k m c = unchanged c
perform-opens p (close_text l o) j xs k m c = outputting-opens p l o m c
perform-opens p (open_list l e) j xs k m c = unchanged (with_records c (kill_kind (property_kind l) (record_of_it l m) c.records))
perform-opens p (read_property l e name) j xs k m c = adding-opens p (property_kind l) j xs c
perform-opens p stop j xs k m c = unchanged c
perform-opens p missing j xs k m c = refuse
perform-opens p (broken n) j xs k m c = refuse

-- ---- steps
abbrev pub Reaches : ℕ → Machine → Type 0
Reaches n s = Opens n s.content

act-reaches : (a : Act) (j : ℕ) (xs : List Attribute) (s : Machine) → Holds (Reaches (taken s.content)) (act unlimited a j xs s)
unfolding act
act-reaches a j xs s = bind (perform-opens (act_place a s.control.mode s.marks) a j xs s.control s.marks s.content) λ c h. accept h

more : {n : ℕ} {m : Outcome Machine} → Holds (Reaches n) m → Holds (Reaches (n + 0)) m
more (accept {a = s} h) = accept {a = s} (omega (arith, h))
more refuse = refuse

pub step-reaches : (e : Event) (s : Machine) → Holds (Reaches (taken s.content + event_size e)) (step unlimited e s)
unfolding step
step-reaches (Tag k name j xs) s = more (act-reaches (plan_at s.control.mode s.control.seen k name) j xs s)
step-reaches (Piece k bytes) s =
    bind (either (gathers s.control.mode) (λ e. gather-opens _ s.control.mode k bytes s.content) (λ e. accept (omega arith))) λ c h. accept h
step-reaches Eof s = more (act-reaches (plan_eof s.control.mode s.control.seen s.control.closed) 0 [] s)
step-reaches Fault s = more (act-reaches (plan_fault s.control.mode) 0 [] s)
