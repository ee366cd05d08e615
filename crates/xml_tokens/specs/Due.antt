-- The records of a source as they come due, each at the last byte of what it tells of, closing mark included, whatever the rooms (rule N9).
-- Definitions only.
use Rattle.std.specs.Prelude.{ℕ, ◌+◌, List, [], ◌∷◌, length}
use Rattle.xml_complete.specs.of_table.Event.{Event, Tag, Piece, Eof, Fault}
use Rattle.xml_complete.specs.of_xml_machine.State.{State, fresh, Next, no, go}
use Rattle.xml_complete.specs.of_xml_machine.Machine.{step}
use Rattle.xml_complete.specs.of_xml_machine.Tokens.{Rec, Marks, no_marks, marks_by, Due, nothing, event, attribute, due, open_run}

-- the number of attributes, with what is due
abbrev pub counted : ℕ → Due → ℕ
counted count nothing = count
counted count (event r) = count
counted count (attribute r) = count + 1

-- at a byte what it ends; before a refused byte the run of text that is open
abbrev pub due_by : Next → State → ℕ → ℕ → Marks → (State → ℕ → Marks → List Due) → List Due
due_by no s at count m f = open_run s m.mark at ∷ []
due_by (go a u) s at count m f = due a at count m ∷ f u (counted count (due a at count m)) (marks_by a at count m)

-- from a state on, at the byte at `at`, where `count` attributes stand; a text run that is broken off, even within a character,
-- counts as ended
unfoldable pub due_from : List ℕ → State → ℕ → ℕ → Marks → List Due
due_from [] s at count m = open_run s m.mark at ∷ []
due_from (b ∷ t) s at count m = due_by (step s b) s at count m (λ u n k. due_from t u (at + 1) n k)

-- all that is due in the first bytes of a source
abbrev pub due_in_of : List ℕ → List Due
due_in_of p = due_from p fresh 0 0 no_marks

abbrev pub events_due : List Due → List Rec
events_due [] = []
events_due (nothing ∷ ds) = events_due ds
events_due (event r ∷ ds) = r ∷ events_due ds
events_due (attribute r ∷ ds) = events_due ds

abbrev pub attributes_due : List Due → List Rec
attributes_due [] = []
attributes_due (nothing ∷ ds) = attributes_due ds
attributes_due (event r ∷ ds) = attributes_due ds
attributes_due (attribute r ∷ ds) = r ∷ attributes_due ds

-- how many attributes events have
abbrev pub attributes_in : List Event → ℕ
attributes_in [] = 0
attributes_in (Tag k n f attributes ∷ es) = length attributes + attributes_in es
attributes_in (Piece k s ∷ es) = attributes_in es
attributes_in (Eof ∷ es) = attributes_in es
attributes_in (Fault ∷ es) = attributes_in es
