-- What the machine does at an event, by the event's kind. Assumes nothing.
use Prim.Native.Nat.{ℕ, zero, suc, ◌≤◌, ◌<◌}
use mathlib.Core.Path.{◌≡◌, refl, sym, ap, subst, ◌∙◌}
use mathlib.Core.List.{List, []}
use mathlib.Core.Bool.{Bool, true, false, cond}
use native.Mathlib.Omega.{arith}
use borrow.Author.Tests.{ne_eqb}
use lib.Dec.{eqb}
use Rattle.read_actions.specs.of_names.Tags.{tag_of, properties, property}
use Rattle.read_actions.specs.of_refusal.Refusal.{accepted}
use Rattle.read_actions.specs.of_table.Event.{Attribute, TagKind, Start, Empty, End, Piece, event_of, tag_kind, piece_kind, piece_bytes}
use Rattle.read_actions.specs.of_read_element.Outcome.{◌>>=◌, Rooms}
use Rattle.read_actions.specs.of_read_state.Control.{Level, top, suite, case, status, Output, Mode, at, gathering, listing, skipping, finished, Control, or_skip}
use Rattle.read_actions.specs.of_read_rules.Rules.{plan_at, plan_eof, plan_fault, in_text, in_list_of, tag_of_output}
use Rattle.read_actions.specs.of_read_state.Control.{Act, pass, open_report, open_suite, open_case, open_status, close_suite, close_case, close_status, open_text, close_text, open_list, read_property, stop, missing, broken}
use Rattle.read_actions.specs.of_read_state.inside.Coded.{level_of, output_of, mode_at, mode_of, level_in_of, closing, act_in, control_of, act_of, is_step}
use Rattle.read_actions.specs.of_read_state.declared.Control.{Control as CodedControl}
use Rattle.read_actions.specs.of_read_state.declared.Act.{Act as CodedAct}
use Rattle.read_actions.specs.of_read_state.declared.Act.TheVariants.{Pass, Skip, Open, Close, OpenText, CloseText, OpenList, CloseList, ReadProperty, Stop, Missing, Broken}
use Rattle.read_actions.specs.of_read_state.declared.Mode.{Mode as CodedMode}
use Rattle.read_actions.specs.of_read_state.declared.Mode.TheVariants.{At, Text, List as Listing}
use Rattle.read_again.specs.of_read_path.inside.Coded.{has_room}
use Rattle.read_again.proofs.of_read_path.Lengths.{planned-room, eof-room, fault-room}
use Rattle.read_actions.specs.of_read_content.Content.{perform}
use Rattle.read_actions.specs.of_read_content.inside.Holds.{is_list, apt}
use Rattle.read_again.specs.of_read_machine.Machine.{Machine, act, step}
use Rattle.read_again.specs.of_table_events.inside.Pieces.{is_piece}
use Rattle.read_step.specs.inside.Planned.{planned, name_in, is_skip, is_stop, has_content, plain_of}
use Rattle.read_step.proofs.Acting.{act-none}
use Rattle.read_actions.specs.of_refusal.declared.Cause.TheVariants as cause

other-act : true ≡ false → ⊥
other-act e = let z : ◌≡◌ {A = ℕ} 0 1 = cc in omega arith

skip_is : (a : CodedAct) → is_skip a ≡ true → a ≡ Skip
skip_is Skip e = refl
skip_is Pass e = absurd (other-act (sym e))
skip_is (Open k x) e = absurd (other-act (sym e))
skip_is Close e = absurd (other-act (sym e))
skip_is (OpenText o) e = absurd (other-act (sym e))
skip_is (CloseText o) e = absurd (other-act (sym e))
skip_is (OpenList x) e = absurd (other-act (sym e))
skip_is CloseList e = absurd (other-act (sym e))
skip_is (ReadProperty x) e = absurd (other-act (sym e))
skip_is Stop e = absurd (other-act (sym e))
skip_is Missing e = absurd (other-act (sym e))
skip_is (Broken why) e = absurd (other-act (sym e))

stop_is : (a : CodedAct) → is_stop a ≡ true → a ≡ Stop
stop_is Stop e = refl
stop_is Pass e = absurd (other-act (sym e))
stop_is (Open k x) e = absurd (other-act (sym e))
stop_is Close e = absurd (other-act (sym e))
stop_is (OpenText o) e = absurd (other-act (sym e))
stop_is (CloseText o) e = absurd (other-act (sym e))
stop_is (OpenList x) e = absurd (other-act (sym e))
stop_is CloseList e = absurd (other-act (sym e))
stop_is (ReadProperty x) e = absurd (other-act (sym e))
stop_is Skip e = absurd (other-act (sym e))
stop_is Missing e = absurd (other-act (sym e))
stop_is (Broken why) e = absurd (other-act (sym e))

pub content-is : (a : CodedAct) → has_content a ≡ true → a ≡ ReadProperty false
content-is Pass e = absurd (other-act (sym e))
content-is Skip e = absurd (other-act (sym e))
content-is (Open k x) e = absurd (other-act (sym e))
content-is Close e = absurd (other-act (sym e))
content-is (OpenText o) e = absurd (other-act (sym e))
content-is (CloseText o) e = absurd (other-act (sym e))
content-is (OpenList x) e = absurd (other-act (sym e))
content-is CloseList e = absurd (other-act (sym e))
content-is (ReadProperty true) e = absurd (other-act (sym e))
content-is (ReadProperty false) e = refl
content-is Stop e = absurd (other-act (sym e))
content-is Missing e = absurd (other-act (sym e))
content-is (Broken why) e = absurd (other-act (sym e))

-- a Fault is refused in every mode that the code has
pub fault-plans : (m : CodedMode) (l : Level) (o : Output) → plan_fault (mode_at m l o) ≡ broken cause.XmlFault
unfolding plan_fault
fault-plans At l o = refl
fault-plans Text l o = refl
fault-plans Listing l o = refl

module _ (rooms : Rooms) (bytes : List ℕ) (first : ℕ) (xs : List Attribute) (s : Machine) where
  none : (a : Act) → xs ≡ [] → act rooms a 0 [] s ≡ act rooms a first xs s
  none a e = act-none rooms a 0 first s ∙ ap (λ (ys : List Attribute). act rooms a first ys s) (sym e)

  -- tags, Eof and Fault act; only Start and Empty have attributes
  pub other-steps : (kind : ℕ) → is_piece kind ≡ false → kind ≤ 9 → (1 < kind → xs ≡ []) → step rooms (event_of kind bytes first xs) s ≡ act rooms (planned s.control kind bytes) first xs s
  unfolding event_of step
  other-steps zero p h n = refl
  other-steps (suc zero) p h n = refl
  other-steps (suc (suc zero)) p h n = none (planned s.control 2 bytes) (n (omega arith))
  other-steps (suc (suc (suc zero))) p h n = absurd (other-act p)
  other-steps (suc (suc (suc (suc zero)))) p h n = absurd (other-act p)
  other-steps (suc (suc (suc (suc (suc zero))))) p h n = absurd (other-act p)
  other-steps (suc (suc (suc (suc (suc (suc zero)))))) p h n = absurd (other-act p)
  other-steps (suc (suc (suc (suc (suc (suc (suc zero))))))) p h n = none (planned s.control 7 bytes) (n (omega arith))
  other-steps (suc (suc (suc (suc (suc (suc (suc (suc zero)))))))) p h n = none (planned s.control 8 bytes) (n (omega arith))
  other-steps (suc (suc (suc (suc (suc (suc (suc (suc (suc zero))))))))) p h n = absurd (other-act p)
  other-steps (suc (suc (suc (suc (suc (suc (suc (suc (suc (suc k)))))))))) p h n = absurd (omega arith)

-- pieces
pub piece-event : (kind : ℕ) (bytes : List ℕ) (first : ℕ) (xs : List Attribute) → is_piece kind ≡ true → kind ≤ 9 → event_of kind bytes first xs ≡ Piece (piece_kind kind) (piece_bytes kind bytes)
unfolding event_of
piece-event zero bytes first xs p h = absurd (other-act (sym p))
piece-event (suc zero) bytes first xs p h = absurd (other-act (sym p))
piece-event (suc (suc zero)) bytes first xs p h = absurd (other-act (sym p))
piece-event (suc (suc (suc zero))) bytes first xs p h = refl
piece-event (suc (suc (suc (suc zero)))) bytes first xs p h = refl
piece-event (suc (suc (suc (suc (suc zero))))) bytes first xs p h = refl
piece-event (suc (suc (suc (suc (suc (suc zero)))))) bytes first xs p h = refl
piece-event (suc (suc (suc (suc (suc (suc (suc zero))))))) bytes first xs p h = absurd (other-act (sym p))
piece-event (suc (suc (suc (suc (suc (suc (suc (suc zero)))))))) bytes first xs p h = absurd (other-act (sym p))
piece-event (suc (suc (suc (suc (suc (suc (suc (suc (suc zero))))))))) bytes first xs p h = refl
piece-event (suc (suc (suc (suc (suc (suc (suc (suc (suc (suc k)))))))))) bytes first xs p h = absurd (omega arith)

-- ---- skips
-- the acts behind which a skip begins
unfoldable pub begins : Act → Bool
begins (pass (skipping m name depth)) = true
begins (pass (at l)) = false
begins (pass (gathering l o)) = false
begins (pass (listing l)) = false
begins (pass finished) = false
begins (read_property l e name) = true
begins stop = false
begins (open_report e) = false
begins (open_suite e) = false
begins (open_case e) = false
begins (open_status k e) = false
begins close_suite = false
begins close_case = false
begins close_status = false
begins (open_text l o) = false
begins (close_text l o) = false
begins (open_list l e) = false
begins missing = false
begins (broken n) = false

eof-begins : (m : CodedMode) (l : Level) (o : Output) (seen closed : Bool) → begins (plan_eof (mode_at m l o) seen closed) ≡ false
unfolding begins plan_eof
eof-begins At top o true true = refl
eof-begins At top o true false = refl
eof-begins At top o false closed = refl
eof-begins At suite o seen closed = refl
eof-begins At case o seen closed = refl
eof-begins At status o seen closed = refl
eof-begins Text l o seen closed = refl
eof-begins Listing l o seen closed = refl

fault-begins : (m : CodedMode) (l : Level) (o : Output) → begins (plan_fault (mode_at m l o)) ≡ false
unfolding begins
fault-begins m l o = ap begins (fault-plans m l o)

-- they stand at a tag
module _ (c : CodedControl) (kind : ℕ) (name : List ℕ) (a : Act) (q : a ≡ planned (control_of c) kind name) (b : begins a ≡ true) where
  pub no-eof : kind ≡ 7 → ⊥
  no-eof e = other-act (sym b ∙ ap begins q ∙ ap (λ (k : ℕ). begins (planned (control_of c) k name)) e ∙ eof-begins c.mode (level_of c.level) (output_of c.output) c.seen c.closed)

  no-fault : kind ≡ 8 → ⊥
  no-fault e = other-act (sym b ∙ ap begins q ∙ ap (λ (k : ℕ). begins (planned (control_of c) k name)) e ∙ fault-begins c.mode (level_of c.level) (output_of c.output))

  pub tag-name : name_in kind name ≡ name
  tag-name = rw (ne_eqb kind 7 no-eof, ne_eqb kind 8 no-fault) refl

  pub tag-plan : a ≡ plan_at (mode_of c) c.seen (tag_kind kind) name
  tag-plan = q ∙ (rw (ne_eqb kind 7 no-eof, ne_eqb kind 8 no-fault) refl)

-- nothing unknown is skipped in a gathered text or in properties
pub skip-inside : (m : CodedMode) (l : Level) (o : Output) (seen : Bool) (k : TagKind) (i : Level) (name tag : List ℕ)
    → or_skip i tag ≡ plan_at (mode_at m l o) seen k name → at (level_in_of (mode_at m l o)) ≡ mode_at m l o
unfolding or_skip plan_at in_text in_list_of
skip-inside At l o seen k i name tag e = refl
skip-inside Text l o seen Start i name tag e = let z : ◌≡◌ {A = ℕ} 0 1 = cc in absurd (omega arith)
skip-inside Text l o seen Empty i name tag e = let z : ◌≡◌ {A = ℕ} 0 1 = cc in absurd (omega arith)
skip-inside Text l o seen End i name tag e = absurd (go (eqb (tag_of name) (tag_of_output o)) e)
  where
    go : (b : Bool) → pass (skipping (at i) tag 0) ≡ cond b (close_text l o) (pass (gathering l o)) → ⊥
    go true q = let z : ◌≡◌ {A = ℕ} 0 1 = cc in omega arith
    go false q = let z : ◌≡◌ {A = ℕ} 0 1 = cc in omega arith
skip-inside Listing l o seen Start i name tag e = absurd (go (eqb (tag_of name) property) e)
  where
    go : (b : Bool) → pass (skipping (at i) tag 0) ≡ cond b (read_property l false name) (pass (listing l)) → ⊥
    go true q = let z : ◌≡◌ {A = ℕ} 0 1 = cc in omega arith
    go false q = let z : ◌≡◌ {A = ℕ} 0 1 = cc in omega arith
skip-inside Listing l o seen Empty i name tag e = absurd (go (eqb (tag_of name) property) e)
  where
    go : (b : Bool) → pass (skipping (at i) tag 0) ≡ cond b (read_property l true name) (pass (listing l)) → ⊥
    go true q = let z : ◌≡◌ {A = ℕ} 0 1 = cc in omega arith
    go false q = let z : ◌≡◌ {A = ℕ} 0 1 = cc in omega arith
skip-inside Listing l o seen End i name tag e = absurd (go (eqb (tag_of name) properties) e)
  where
    go : (b : Bool) → pass (skipping (at i) tag 0) ≡ cond b (pass (at l)) (pass (listing l)) → ⊥
    go true q = let z : ◌≡◌ {A = ℕ} 0 1 = cc in omega arith
    go false q = let z : ◌≡◌ {A = ℕ} 0 1 = cc in omega arith

-- ---- the end
unfoldable stopping : Act → Bool
stopping stop = true
stopping (pass m) = false
stopping (open_report e) = false
stopping (open_suite e) = false
stopping (open_case e) = false
stopping (open_status k e) = false
stopping close_suite = false
stopping close_case = false
stopping close_status = false
stopping (open_text l o) = false
stopping (close_text l o) = false
stopping (open_list l e) = false
stopping (read_property l e name) = false
stopping missing = false
stopping (broken n) = false

stops : (m : Mode) (name : List ℕ) (a : CodedAct) → stopping (act_in m name a) ≡ is_stop a
unfolding or_skip stopping
stops m name Pass = refl
stops m name Skip = refl
stops m name (Open k e) = go (eqb k 1) (eqb k 2) (eqb k 3)
  where
    go : (a b c : Bool) → stopping (cond a (open_report e) (cond b (open_suite e) (cond c (open_case e) (open_status k e)))) ≡ false
    go true b c = refl
    go false true c = refl
    go false false true = refl
    go false false false = refl
stops m name Close = go (level_in_of m)
  where
    go : (l : Level) → stopping (closing l) ≡ false
    go top = refl
    go suite = refl
    go case = refl
    go status = refl
stops m name (OpenText o) = refl
stops m name (CloseText o) = refl
stops m name (OpenList e) = refl
stops m name CloseList = refl
stops m name (ReadProperty e) = refl
stops m name Stop = refl
stops m name Missing = refl
stops m name (Broken why) = refl

pub stop-only : (m : Mode) (name : List ℕ) (a : CodedAct) → is_stop a ≡ false → act_in m name a ≡ stop → ⊥
unfolding stopping
stop-only m name a e q = other-act (ap stopping (sym q) ∙ stops m name a ∙ e)

-- reading doesn't go on behind Eof, which the table's end is, too (rule T5)
pub eof-ends : (rooms : Rooms) (j : ℕ) (xs : List Attribute) (s t : Machine) (m : CodedMode) (l : Level) (o : Output) (seen closed : Bool)
    → (plan_eof (mode_at m l o) seen closed ≡ stop → ⊥) → act rooms (plan_eof (mode_at m l o) seen closed) j xs s ≡ accepted t → ⊥
unfolding plan_eof act perform ◌>>=◌
eof-ends rooms j xs s t At top o true true n e = n refl
eof-ends rooms j xs s t At top o true false n e = let z : ◌≡◌ {A = ℕ} 0 1 = cc in omega arith
eof-ends rooms j xs s t At top o false closed n e = let z : ◌≡◌ {A = ℕ} 0 1 = cc in omega arith
eof-ends rooms j xs s t At suite o seen closed n e = let z : ◌≡◌ {A = ℕ} 0 1 = cc in omega arith
eof-ends rooms j xs s t At case o seen closed n e = let z : ◌≡◌ {A = ℕ} 0 1 = cc in omega arith
eof-ends rooms j xs s t At status o seen closed n e = let z : ◌≡◌ {A = ℕ} 0 1 = cc in omega arith
eof-ends rooms j xs s t Text l o seen closed n e = let z : ◌≡◌ {A = ℕ} 0 1 = cc in omega arith
eof-ends rooms j xs s t Listing l o seen closed n e = let z : ◌≡◌ {A = ℕ} 0 1 = cc in omega arith

-- ---- the path of what is planned has room for an Attribute
pub planned-fits : (k : Control) (kind : ℕ) (name : List ℕ) → (k.mode ≡ listing status → ⊥) → has_room (planned k kind name) ≡ true
planned-fits k kind name n = go (eqb kind 7) (eqb kind 8)
  where
    go : (a b : Bool) → has_room (cond a (plan_eof k.mode k.seen k.closed) (cond b (plan_fault k.mode) (plan_at k.mode k.seen (tag_kind kind) name))) ≡ true
    go true b = eof-room k.mode k.seen k.closed
    go false true = fault-room k.mode
    go false false = planned-room k.mode k.seen (tag_kind kind) name n

-- all acts but skipping, a Start `property` and stopping go on with the control that `turn` gives
pub is-step : (a : CodedAct) → is_skip a ≡ false → is_stop a ≡ false → has_content a ≡ false → is_step a ≡ true
is-step Pass e f g = refl
is-step Skip e f g = absurd (other-act e)
is-step (Open k x) e f g = refl
is-step Close e f g = refl
is-step (OpenText o) e f g = refl
is-step (CloseText o) e f g = refl
is-step (OpenList x) e f g = refl
is-step CloseList e f g = refl
is-step (ReadProperty true) e f g = refl
is-step (ReadProperty false) e f g = absurd (other-act g)
is-step Stop e f g = absurd (other-act f)
is-step Missing e f g = refl
is-step (Broken why) e f g = refl

-- what the code's tests of an act that was planned tell
module _ (c : CodedControl) (kind : ℕ) (name : List ℕ) (a : CodedAct) (q : act_of c (name_in kind name) a ≡ planned (control_of c) kind name) where
  pub skips : is_skip a ≡ true → act_of c (name_in kind name) Skip ≡ planned (control_of c) kind name
  skips e = subst (λ (x : CodedAct). act_of c (name_in kind name) x ≡ planned (control_of c) kind name) (skip_is a e) q

  pub reads : has_content a ≡ true → act_of c (name_in kind name) (ReadProperty false) ≡ planned (control_of c) kind name
  reads e = subst (λ (x : CodedAct). act_of c (name_in kind name) x ≡ planned (control_of c) kind name) (content-is a e) q

  pub stops-there : is_stop a ≡ true → stop ≡ planned (control_of c) kind name
  stops-there e = subst (λ (x : CodedAct). act_of c (name_in kind name) x ≡ planned (control_of c) kind name) (stop_is a e) q

  pub lists : has_content a ≡ true → apt a (mode_of c) ≡ true → is_list (mode_of c) ≡ true
  lists e h = subst (λ (x : CodedAct). apt x (mode_of c) ≡ true) (content-is a e) h

-- ---- a Start `property`, read as an Empty one
module _ (a : CodedAct) where
  pub plain-read : has_content a ≡ true → plain_of a ≡ ReadProperty true
  plain-read e = ap (λ (b : Bool). cond b (ReadProperty true) a) e

  pub plain-same : has_content a ≡ false → plain_of a ≡ a
  plain-same e = ap (λ (b : Bool). cond b (ReadProperty true) a) e

  pub plain-apt : (m : Mode) → apt a m ≡ true → apt (plain_of a) m ≡ true
  plain-apt m h = go (has_content a) refl
    where
      go : (b : Bool) → has_content a ≡ b → apt (plain_of a) m ≡ true
      go true e = ap (λ (x : CodedAct). apt x m) (plain-read e) ∙ sym (ap (λ (x : CodedAct). apt x m) (content-is a e)) ∙ h
      go false e = ap (λ (x : CodedAct). apt x m) (plain-same e) ∙ h

  pub plain_step : is_skip a ≡ false → is_stop a ≡ false → is_step (plain_of a) ≡ true
  plain_step s t = go (has_content a) refl
    where
      go : (b : Bool) → has_content a ≡ b → is_step (plain_of a) ≡ true
      go true e = ap is_step (plain-read e)
      go false e = ap is_step (plain-same e) ∙ is-step a s t e

  pub plain-close : plain_of a ≡ Close → a ≡ Close
  plain-close q = go (has_content a) refl
    where
      go : (b : Bool) → has_content a ≡ b → a ≡ Close
      go true e = let y : ReadProperty true ≡ Close = sym (plain-read e) ∙ q in let z : ◌≡◌ {A = ℕ} 0 1 = cc in absurd (omega arith)
      go false e = sym (plain-same e) ∙ q
