-- Reading from another event number: the same, or refused alike. Assumes nothing.
use Prim.Native.Nat.{ℕ, ◌+◌}
use mathlib.Core.Bool.{Bool, true}
use mathlib.Core.List.{List, [], ◌∷◌}
use mathlib.Core.Path.{◌≡◌, refl}
use lib.ListN.{length}
use Rattle.read_report.specs.of_trim.Trim.{trimmed}
use Rattle.read_report.specs.of_refusal.Refusal.{nowhere, Refused, Outcome, accepted, refused}
use Rattle.read_report.specs.of_refusal.declared.Cause.TheVariants as cause
use Rattle.read_report.specs.of_table.Event.{Attribute, PieceKind, Event, Tag, Piece, Eof, Fault}
use Rattle.read_report.specs.of_tree_status.Status.{ruled}
use Rattle.read_report.specs.of_tree_record.Words as word
use Rattle.read_report.specs.of_tree_record.Bits as bit
use Rattle.read_report.specs.of_tree_record.Kinds as kind
use Rattle.read_report.specs.of_read_element.Outcome.{◌>>=◌, Place, element, Rooms}
use Rattle.read_report.specs.of_read_state.Control.{Level, top, suite, case, status, Output, Mode, at, gathering, listing, skipping, finished, Control, gathers, turn}
use Rattle.read_report.specs.of_read_state.Control.{Act, pass, open_report, open_suite, open_case, open_status, close_suite, close_case, close_status, open_text, close_text, open_list, read_property, stop, missing, broken}
use Rattle.read_report.specs.of_read_rules.Rules.{plan_at, plan_eof, plan_fault}
use Rattle.read_report.specs.of_read_place.Marks.{Marks, marks, marks_after, onward}
use Rattle.read_report.specs.of_read_path.Paths.{level_path, output_element, mode_path, path_of, act_place}
use Rattle.read_report.specs.of_read_content.Content.{Content, kill_all, with_records, property_kind, record_of_it, word_of, bit_of, takes, piece_of, gather, adding, keeping, is_empty, describing, outputting, perform}
use Rattle.read_report.specs.of_read_machine.Machine.{Machine, act, step}
use Rattle.read_spelling.specs.Spelling.{unnumbered, SameRefusal}
use Rattle.read_spelling.proofs.Places.{Moves, same, halts, Near, longer, bind, told, needing, choosing}
use Rattle.read_spelling.proofs.Elements.{element-moves}

-- the marks with other event numbers: of the event, and of the Starts of suite and case
abbrev pub renumbered : (event suite_start_of case_start_of : ℕ) → Marks → Marks
renumbered e ss cs m = marks e m.suite_index_of ss m.case_index_of cs m.status_kind_of m.property_index_of m.suite_at_of m.case_at_of m.status_at_of

abbrev pub elsewhere : (event suite_start_of case_start_of : ℕ) → Machine → Machine
elsewhere e ss cs s = record { control = s.control; content = s.content; marks = renumbered e ss cs s.marks }

-- ---- paths
module _ (e ss cs : ℕ) (m : Marks) where
  level-near : (l : Level) → unnumbered (level_path l m) ≡ unnumbered (level_path l (renumbered e ss cs m))
  level-near top = refl
  level-near suite = refl
  level-near case = refl
  level-near status = refl

  pub mode-near : (mode : Mode) → unnumbered (mode_path mode m) ≡ unnumbered (mode_path mode (renumbered e ss cs m))
  mode-near (at l) = level-near l
  mode-near (gathering l o) = longer (level_path l m) (level_path l (renumbered e ss cs m)) (output_element o ∷ []) (level-near l)
  mode-near (listing l) = longer (level_path l m) (level_path l (renumbered e ss cs m)) (element 4 nowhere nowhere ∷ []) (level-near l)
  mode-near (skipping outer name depth) = mode-near outer
  mode-near finished = refl

  act-near : (a : Act) (mode : Mode) → unnumbered (path_of a mode m) ≡ unnumbered (path_of a mode (renumbered e ss cs m))
  act-near (pass n) mode = refl
  act-near (open_report x) mode = refl
  act-near (open_suite x) mode = refl
  act-near (open_case x) mode = refl
  act-near (open_status k x) mode = refl
  act-near close_suite mode = refl
  act-near close_case mode = refl
  act-near close_status mode = refl
  act-near (open_text l o) mode = refl
  act-near (close_text l o) mode = longer (level_path l m) (level_path l (renumbered e ss cs m)) (output_element o ∷ []) (level-near l)
  act-near (open_list l x) mode = refl
  act-near (read_property l x name) mode =
      longer (level_path l m) (level_path l (renumbered e ss cs m)) (element 4 nowhere nowhere ∷ element 5 m.property_index_of nowhere ∷ []) (level-near l)
  act-near stop mode = refl
  act-near missing mode = refl
  act-near (broken n) mode = mode-near mode

  pub place-near : (a : Act) (mode : Mode) → Near (act_place a mode m) (act_place a mode (renumbered e ss cs m))
  place-near a mode = record { path = act-near a mode; attribute = refl }

-- ---- actions
module _ (rooms : Rooms) {p q : Place} (n : Near p q) where
  gather-moves : (mode : Mode) (k : PieceKind) (s : List ℕ) (c : Content) → Moves (gather rooms p mode k s c) (gather rooms q mode k s c)
  unfolding gather
  gather-moves mode k s c = bind (told n (piece_of k s)) λ v. needing n _ cause.ScratchFull same

  adding-moves : (kind j : ℕ) (xs : List Attribute) (c : Content) → Moves (adding rooms p kind j xs c) (adding rooms q kind j xs c)
  unfolding adding
  adding-moves kind j xs c = bind (element-moves rooms n kind j xs c.records c.texts) λ g. same

  keeping-moves : (taken : Bool) (i o k : ℕ) (v : List ℕ) (c : Content) → Moves (keeping rooms p taken i o k v c) (keeping rooms q taken i o k v c)
  unfolding keeping
  keeping-moves taken i o k v c = needing n _ cause.TextFull same

  module _ (e ss cs : ℕ) (m : Marks) (c : Content) where
    describing-moves : Moves (describing rooms p m c) (describing rooms q (renumbered e ss cs m) c)
    unfolding describing
    describing-moves = choosing (is_empty (trimmed c.description)) same (bind (keeping-moves true m.status_at_of word.description bit.description c.description c) λ d. same)

    pub outputting-moves : (l : Level) (o : Output) → Moves (outputting rooms p l o m c) (outputting rooms q l o (renumbered e ss cs m) c)
    unfolding outputting
    outputting-moves top o = bind (keeping-moves (takes top m) (record_of_it top m) (word_of o) (bit_of o) c.gathered c) λ d. same
    outputting-moves suite o = bind (keeping-moves (takes suite m) (record_of_it suite m) (word_of o) (bit_of o) c.gathered c) λ d. same
    outputting-moves case o = bind (keeping-moves (takes case m) (record_of_it case m) (word_of o) (bit_of o) c.gathered c) λ d. same
    outputting-moves status o = bind (keeping-moves (takes status m) (record_of_it status m) (word_of o) (bit_of o) c.gathered c) λ d. same

    perform-moves : (a : Act) (j : ℕ) (xs : List Attribute) (k : Control) → Moves (perform rooms p a j xs k m c) (perform rooms q a j xs k (renumbered e ss cs m) c)
    unfolding perform
    perform-moves (pass x) j xs k = same
    perform-moves (open_report x) j xs k = adding-moves kind.report j xs (with_records c (kill_all c.records))
    perform-moves (open_suite x) j xs k = adding-moves kind.suite j xs c
    perform-moves (open_case x) j xs k = adding-moves kind.case j xs c
    perform-moves (open_status s x) j xs k = adding-moves s j xs c
    perform-moves close_suite j xs k = same
    perform-moves close_case j xs k = needing n (ruled k.tally) cause.StatusRule same
    perform-moves close_status j xs k = describing-moves
    perform-moves (open_text l o) j xs k = same
    perform-moves (close_text l o) j xs k = outputting-moves l o
    perform-moves (open_list top x) j xs k = same
    perform-moves (open_list suite x) j xs k = same
    perform-moves (open_list case x) j xs k = same
    perform-moves (open_list status x) j xs k = same
    perform-moves (read_property l x name) j xs k = adding-moves (property_kind l) j xs c
    perform-moves stop j xs k = same
    perform-moves missing j xs k = halts (record { cause = refl; path = n.path; attribute = n.attribute })
    perform-moves (broken why) j xs k = halts (record { cause = refl; path = n.path; attribute = n.attribute })

-- ---- steps
pub data Shifted : Outcome Machine → Outcome Machine → Type 0 where
  goes : {t : Machine} (e ss cs : ℕ) → Shifted (accepted t) (accepted (elsewhere e ss cs t))
  stops : {r q : Refused} → SameRefusal r q → Shifted (refused r) (refused q)

pub then : {A : Type 0} {m n : Outcome A} {f g : A → Outcome Machine} → Moves m n → ((a : A) → Shifted (f a) (g a)) → Shifted (m >>= f) (n >>= g)
unfolding ◌>>=◌
then (same {a = a}) h = h a
then (halts s) h = stops s

module _ (rooms : Rooms) (e ss cs : ℕ) (s : Machine) where
  abbrev t : Machine
  t = elsewhere e ss cs s

  -- an element that opens takes the number of its event
  left : (a : Act) (c : Content) → Shifted (accepted (record { control = turn a s.control; content = c; marks = onward (marks_after a (length s.content.records) s.marks) }))
      (accepted (record { control = turn a s.control; content = c; marks = onward (marks_after a (length s.content.records) (renumbered e ss cs s.marks)) }))
  unfolding marks_after
  left (pass n) c = goes (e + 1) ss cs
  left (open_report x) c = goes (e + 1) 0 0
  left (open_suite x) c = goes (e + 1) e 0
  left (open_case x) c = goes (e + 1) ss e
  left (open_status k x) c = goes (e + 1) ss cs
  left close_suite c = goes (e + 1) ss cs
  left close_case c = goes (e + 1) ss cs
  left close_status c = goes (e + 1) ss cs
  left (open_text l o) c = goes (e + 1) ss cs
  left (close_text l o) c = goes (e + 1) ss cs
  left (open_list l x) c = goes (e + 1) ss cs
  left (read_property l x name) c = goes (e + 1) ss cs
  left stop c = goes (e + 1) ss cs
  left missing c = goes (e + 1) ss cs
  left (broken n) c = goes (e + 1) ss cs

  act-shifts : (a : Act) (j : ℕ) (xs : List Attribute) → Shifted (act rooms a j xs s) (act rooms a j xs t)
  unfolding act
  act-shifts a j xs =
      then (perform-moves rooms (place-near e ss cs s.marks a s.control.mode) e ss cs s.marks s.content a j xs s.control) λ c. left a c

  pub step-shifts : (ev : Event) → Shifted (step rooms ev s) (step rooms ev t)
  unfolding step
  step-shifts (Tag k name j xs) = act-shifts (plan_at s.control.mode s.control.seen k name) j xs
  step-shifts (Piece k bytes) =
      then (choosing (gathers s.control.mode)
      (gather-moves rooms (record { path = mode-near e ss cs s.marks s.control.mode; attribute = refl }) s.control.mode k bytes s.content) same) λ c. goes (e + 1) ss cs
  step-shifts Eof = act-shifts (plan_eof s.control.mode s.control.seen s.control.closed) 0 []
  step-shifts Fault = act-shifts (plan_fault s.control.mode) 0 []

-- ---- runs
-- the same records and texts, or the same refusal
abbrev pub Alike : Outcome Machine → Outcome Machine → Type 0
Alike (accepted s) (accepted t) = s.content ≡ t.content
Alike (accepted s) (refused q) = ⊥
Alike (refused r) (accepted t) = ⊥
Alike (refused r) (refused q) = SameRefusal r q
