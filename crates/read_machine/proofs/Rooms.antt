-- How the areas' lengths enter reading: with less room it comes to the same, or to 12, 13 or 14. Assumes nothing.
use Prim.Native.Nat.{ℕ}
use mathlib.Core.Path.{◌≡◌}
use mathlib.Core.List.{List, [], ◌∷◌}
use mathlib.Core.Bool.{Bool, true}
use mathlib.Core.Logic.{◌⊎◌}
use Rattle.table_events.specs.of_table.Event.{Attribute, PieceKind, Event, Tag, Piece, Eof, Fault}
use Rattle.read_content.specs.of_trim.Trim.{trimmed}
use Rattle.read_path.specs.of_read_element.Outcome.{Place, Rooms, unlimited}
use Rattle.read_path.proofs.of_read_element.Rooms.{Short, Agrees, same, agreed, suffices, bind, choosing, Wider, wider-unlimited, text-fits, scratch-fits, element-agrees}
use Rattle.read_path.specs.of_read_state.Control.{Level, Output, Mode, Control, gathers}
use Rattle.read_path.specs.of_read_rules.Rules.{plan_at, plan_eof, plan_fault}
use Rattle.read_path.specs.of_read_state.Control.{Act, pass, open_report, open_suite, open_case, open_status, close_suite, close_case, close_status, open_text, close_text, open_list, read_property, stop, missing, broken}
use Rattle.read_path.specs.of_read_place.Marks.{Marks}
use Rattle.read_path.specs.Paths.{act_place}
use Rattle.read_content.specs.Content.{Content, kill_all, property_kind, record_of_it, word_of, bit_of, takes, gather, adding, with_records, keeping, is_empty, describing, outputting, perform}
use Rattle.read_machine.specs.Machine.{Machine, act, step, run}

module _ (rooms rooms' : Rooms) (w : Wider rooms rooms') where
  gather-agrees : (p : Place) (mode : Mode) (k : PieceKind) (s : List ℕ) (c : Content) → Agrees (gather rooms p mode k s c) (gather rooms' p mode k s c)
  unfolding gather
  gather-agrees p mode k s c = bind same λ v. scratch-fits rooms rooms' w _ p same

  adding-agrees : (p : Place) (kind j : ℕ) (xs : List Attribute) (c : Content) → Agrees (adding rooms p kind j xs c) (adding rooms' p kind j xs c)
  unfolding adding
  adding-agrees p kind j xs c = bind (element-agrees rooms rooms' w p kind j xs c.records c.texts) λ g. same

  keeping-agrees : (p : Place) (taken : Bool) (i o k : ℕ) (v : List ℕ) (c : Content) → Agrees (keeping rooms p taken i o k v c) (keeping rooms' p taken i o k v c)
  unfolding keeping
  keeping-agrees p taken i o k v c = text-fits rooms rooms' w _ p same

  describing-agrees : (p : Place) (m : Marks) (c : Content) → Agrees (describing rooms p m c) (describing rooms' p m c)
  unfolding describing
  describing-agrees p m c = choosing (is_empty (trimmed c.description)) same (bind (keeping-agrees p true m.status_at_of 20 6 c.description c) λ d. same)

  outputting-agrees : (p : Place) (l : Level) (o : Output) (m : Marks) (c : Content) → Agrees (outputting rooms p l o m c) (outputting rooms' p l o m c)
  unfolding outputting
  outputting-agrees p l o m c = bind (keeping-agrees p (takes l m) (record_of_it l m) (word_of o) (bit_of o) c.gathered c) λ d. same

  perform-agrees : (p : Place) (a : Act) (j : ℕ) (xs : List Attribute) (k : Control) (m : Marks) (c : Content) → Agrees (perform rooms p a j xs k m c) (perform rooms' p a j xs k m c)
  unfolding perform
  perform-agrees p (pass n) j xs k m c = same
  perform-agrees p (open_report e) j xs k m c = adding-agrees p 1 j xs (with_records c (kill_all c.records))
  perform-agrees p (open_suite e) j xs k m c = adding-agrees p 2 j xs c
  perform-agrees p (open_case e) j xs k m c = adding-agrees p 3 j xs c
  perform-agrees p (open_status s e) j xs k m c = adding-agrees p s j xs c
  perform-agrees p close_suite j xs k m c = same
  perform-agrees p close_case j xs k m c = same
  perform-agrees p close_status j xs k m c = describing-agrees p m c
  perform-agrees p (open_text l o) j xs k m c = same
  perform-agrees p (close_text l o) j xs k m c = outputting-agrees p l o m c
  perform-agrees p (open_list l e) j xs k m c = same
  perform-agrees p (read_property l e name) j xs k m c = adding-agrees p (property_kind l) j xs c
  perform-agrees p stop j xs k m c = same
  perform-agrees p missing j xs k m c = same
  perform-agrees p (broken n) j xs k m c = same

  act-agrees : (a : Act) (j : ℕ) (xs : List Attribute) (s : Machine) → Agrees (act rooms a j xs s) (act rooms' a j xs s)
  unfolding act
  act-agrees a j xs s = bind (perform-agrees (act_place a s.control.mode s.marks) a j xs s.control s.marks s.content) λ c. same

  step-agrees : (e : Event) (s : Machine) → Agrees (step rooms e s) (step rooms' e s)
  unfolding step
  step-agrees (Tag k name j xs) s = act-agrees (plan_at s.control.mode s.control.seen k name) j xs s
  step-agrees (Piece k bytes) s = bind (choosing (gathers s.control.mode) (gather-agrees _ s.control.mode k bytes s.content) same) λ c. same
  step-agrees Eof s = act-agrees (plan_eof s.control.mode s.control.seen s.control.closed) 0 [] s
  step-agrees Fault s = act-agrees (plan_fault s.control.mode) 0 [] s

  pub run-agrees : (es : List Event) (s : Machine) → Agrees (run rooms es s) (run rooms' es s)
  unfolding run
  run-agrees [] s = step-agrees Eof s
  run-agrees (e ∷ es) s = bind (step-agrees e s) λ t. run-agrees es t

-- with areas, reading comes to what it comes to without, or lacks room
pub rooms-or-short : (rooms : Rooms) (es : List Event) (s : Machine) → (run rooms es s ≡ run unlimited es s) ⊎ Short (run rooms es s)
rooms-or-short rooms es s = agreed (run-agrees rooms unlimited (wider-unlimited rooms) es s)

-- where the rooms suffice, wider ones change nothing
pub rooms-suffice : (rooms rooms' : Rooms) → Wider rooms rooms' → (es : List Event) (s : Machine) → ¬ Short (run rooms es s) → run rooms' es s ≡ run rooms es s
rooms-suffice rooms rooms' w es s h = suffices (run-agrees rooms rooms' w es s) h
