-- Reading, on values, from another event number: the same, or refused alike. Assumes nothing.
use Prim.Native.Nat.{ℕ, ◌+◌}
use mathlib.Core.List.{List, []}
use mathlib.Core.Path.{◌≡◌, refl}
use Rattle.read_report.specs.of_trim.Trim.{trimmed}
use Rattle.read_report.specs.of_refusal.Refusal.{Refused, Outcome, accepted, refused}
use Rattle.read_report.specs.of_refusal.declared.Cause.TheVariants as cause
use Rattle.read_report.specs.of_table.Event.{Attribute, PieceKind, Event, Tag, Piece, Eof, Fault}
use Rattle.read_report.specs.of_tree_status.Status.{ruled}
use Rattle.read_report.specs.of_read_element.Outcome.{◌>>=◌, Place, Rooms}
use Rattle.read_report.specs.of_read_state.Control.{Mode, Control, gathers, turn}
use Rattle.read_report.specs.of_read_state.Control.{Act, pass, open_report, open_suite, open_case, open_status, close_suite, close_case, close_status, open_text, close_text, open_list, read_property, stop, missing, broken}
use Rattle.read_report.specs.of_read_rules.Rules.{plan_at, plan_eof, plan_fault}
use Rattle.read_report.specs.of_read_place.Marks.{marks_after, onward}
use Rattle.read_report.specs.of_read_content.Content.{piece_of, cleaned, is_empty}
use Rattle.read_report.specs.Deserialize.{a_report, a_suite, a_case_of, a_property, a_status, Draft, describing, perform, gather, Reader, act, step}
use Rattle.read_spelling.specs.Spelling.{SameRefusal}
use Rattle.read_spelling.proofs.Places.{Moves, same, halts, Near, bind, told, needing, choosing}
use Rattle.read_spelling.proofs.ValueElements.{storing-moves, element-moves}
use Rattle.read_spelling.proofs.Numbers.{renumbered, mode-near, place-near}

abbrev pub elsewhere : (event suite_start_of case_start_of : ℕ) → Reader → Reader
elsewhere e ss cs s = record { control = s.control; draft = s.draft; marks = renumbered e ss cs s.marks }

-- ---- actions
module _ (rooms : Rooms) {p q : Place} (n : Near p q) where
  gather-moves : (mode : Mode) (k : PieceKind) (s : List ℕ) (d : Draft) → Moves (gather rooms p mode k s d) (gather rooms q mode k s d)
  unfolding gather
  gather-moves mode k s d = bind (told n (piece_of k s)) λ v. needing n _ cause.ScratchFull same

  describing-moves : (d : Draft) → Moves (describing rooms p d) (describing rooms q d)
  describing-moves d = choosing (is_empty (trimmed d.description)) same (bind (storing-moves rooms n (cleaned d.description) d.used) λ u. same)

  pub perform-moves : (a : Act) (j : ℕ) (xs : List Attribute) (k : Control) (d : Draft) → Moves (perform rooms p a j xs k d) (perform rooms q a j xs k d)
  unfolding perform
  perform-moves (pass x) j xs k d = same
  perform-moves (open_report x) j xs k d = bind (element-moves rooms n a_report j xs d.used) λ t. same
  perform-moves (open_suite x) j xs k d = bind (element-moves rooms n a_suite j xs d.used) λ t. same
  perform-moves (open_case x) j xs k d = bind (element-moves rooms n a_case_of j xs d.used) λ t. same
  perform-moves (open_status s x) j xs k d = bind (element-moves rooms n a_status j xs d.used) λ t. same
  perform-moves close_suite j xs k d = same
  perform-moves close_case j xs k d = needing n (ruled k.tally) cause.StatusRule same
  perform-moves close_status j xs k d = describing-moves d
  perform-moves (open_text l o) j xs k d = same
  perform-moves (close_text l o) j xs k d = bind (storing-moves rooms n (cleaned d.text) d.used) λ u. same
  perform-moves (open_list l x) j xs k d = same
  perform-moves (read_property l x name) j xs k d = bind (element-moves rooms n a_property j xs d.used) λ t. same
  perform-moves stop j xs k d = same
  perform-moves missing j xs k d = halts (record { cause = refl; path = n.path; attribute = n.attribute })
  perform-moves (broken why) j xs k d = halts (record { cause = refl; path = n.path; attribute = n.attribute })

-- ---- steps
pub data Shifted : Outcome Reader → Outcome Reader → Type 0 where
  goes : {t : Reader} (e ss cs : ℕ) → Shifted (accepted t) (accepted (elsewhere e ss cs t))
  stops : {r q : Refused} → SameRefusal r q → Shifted (refused r) (refused q)

pub then : {A : Type 0} {m n : Outcome A} {f g : A → Outcome Reader} → Moves m n → ((a : A) → Shifted (f a) (g a)) → Shifted (m >>= f) (n >>= g)
unfolding ◌>>=◌
then (same {a = a}) h = h a
then (halts s) h = stops s

module _ (rooms : Rooms) (e ss cs : ℕ) (s : Reader) where
  abbrev t : Reader
  t = elsewhere e ss cs s

  -- an element that opens takes the number of its event
  left : (a : Act) (d : Draft) → Shifted (accepted (record { control = turn a s.control; draft = d; marks = onward (marks_after a 0 s.marks) }))
      (accepted (record { control = turn a s.control; draft = d; marks = onward (marks_after a 0 (renumbered e ss cs s.marks)) }))
  unfolding marks_after
  left (pass n) d = goes (e + 1) ss cs
  left (open_report x) d = goes (e + 1) 0 0
  left (open_suite x) d = goes (e + 1) e 0
  left (open_case x) d = goes (e + 1) ss e
  left (open_status k x) d = goes (e + 1) ss cs
  left close_suite d = goes (e + 1) ss cs
  left close_case d = goes (e + 1) ss cs
  left close_status d = goes (e + 1) ss cs
  left (open_text l o) d = goes (e + 1) ss cs
  left (close_text l o) d = goes (e + 1) ss cs
  left (open_list l x) d = goes (e + 1) ss cs
  left (read_property l x name) d = goes (e + 1) ss cs
  left stop d = goes (e + 1) ss cs
  left missing d = goes (e + 1) ss cs
  left (broken n) d = goes (e + 1) ss cs

  act-shifts : (a : Act) (j : ℕ) (xs : List Attribute) → Shifted (act rooms a j xs s) (act rooms a j xs t)
  unfolding act
  act-shifts a j xs =
      then (perform-moves rooms (place-near e ss cs s.marks a s.control.mode) a j xs s.control s.draft) λ d. left a d

  pub step-shifts : (ev : Event) → Shifted (step rooms ev s) (step rooms ev t)
  unfolding step
  step-shifts (Tag k name j xs) = act-shifts (plan_at s.control.mode s.control.seen k name) j xs
  step-shifts (Piece k bytes) =
      then (choosing (gathers s.control.mode)
      (gather-moves rooms (record { path = mode-near e ss cs s.marks s.control.mode; attribute = refl }) s.control.mode k bytes s.draft) same) λ d. goes (e + 1) ss cs
  step-shifts Eof = act-shifts (plan_eof s.control.mode s.control.seen s.control.closed) 0 []
  step-shifts Fault = act-shifts (plan_fault s.control.mode) 0 []

-- ---- runs
-- the same report, or the same refusal
abbrev pub Alike : Outcome Reader → Outcome Reader → Type 0
Alike (accepted s) (accepted t) = s.draft.report ≡ t.draft.report
Alike (accepted s) (refused q) = ⊥
Alike (refused r) (accepted t) = ⊥
Alike (refused r) (refused q) = SameRefusal r q
