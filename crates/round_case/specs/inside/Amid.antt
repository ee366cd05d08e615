-- Where reading stands amid a case. Definitions only.
use Rattle.std.specs.Prelude.{ℕ, List, [], ◌∷◌, ◌++◌, Bool, true, false, ◌≡◌, leb}
use Rattle.round_elements.specs.of_refusal.Refusal.{Outcome, accepted}
use Rattle.round_elements.specs.of_table.Event.{Event}
use Rattle.round_elements.specs.of_tree_record.Kinds as kind
use Rattle.round_elements.specs.of_tree_status.declared.Tally.{Tally}
use Rattle.round_elements.specs.of_read_state.Control.{Level, top, suite, case, status, Mode, at, control}
use Rattle.round_elements.specs.of_read_place.Marks.{Marks}
use Rattle.round_elements.specs.of_read_content.Content.{Content}
use Rattle.round_elements.specs.of_read_machine.Machine.{Machine}
use Rattle.round_elements.specs.of_write_report.Written.{numbered}
use Rattle.round_elements.specs.inside.Read.{Leads}

-- a report has begun, and isn't closed by an Empty
abbrev pub machine : Mode → Tally → Content → Marks → Machine
machine mode tally c m = record { control = control mode true false tally; content = c; marks = m }

abbrev pub holding : List (List ℕ) → List ℕ → List ℕ → List ℕ → Content
holding records texts description gathered = record { records = records; texts = texts; description = description; gathered = gathered }

-- the records of the open suite, case and status element, and the status element's kind
pub record Spots : Type 0 where
  pub suite_at_of : ℕ
  pub case_at_of : ℕ
  pub status_at_of : ℕ
  pub status_kind_of : ℕ

-- in a status element of kind κ, whose record has number n
abbrev pub in_status : Spots → ℕ → ℕ → Spots
in_status spots n κ = record { suite_at_of = spots.suite_at_of; case_at_of = spots.case_at_of; status_at_of = n; status_kind_of = κ }

abbrev pub spots_of : Marks → Spots
spots_of m = record { suite_at_of = m.suite_at_of; case_at_of = m.case_at_of; status_at_of = m.status_at_of; status_kind_of = m.status_kind_of }

pub record Amid (mode : Mode) (tally : Tally) (c : Content) (spots : Spots) (s : Machine) : Type 0 where
  pub marks : Marks
  pub here : s ≡ machine mode tally c marks
  pub same : spots_of marks ≡ spots

-- these events, the first attribute of which has number n, lead from s to a machine with P
pub record Reads (n : ℕ) (es : List Event) (s : Machine) (P : Machine → Type 0) : Type 0 where
  pub after : Machine
  pub leads : Leads (numbered n es) s after
  pub holds : P after

-- an action comes to a content with Q
pub record Performs (o : Outcome Content) (Q : Content → Type 0) : Type 0 where
  pub after : Content
  pub answer : o ≡ accepted after
  pub holds : Q after

-- the record that takes an element's texts, and whether it does
abbrev pub record_in : Level → Spots → ℕ
record_in top spots = 0
record_in suite spots = spots.suite_at_of
record_in case spots = spots.case_at_of
record_in status spots = spots.status_at_of

abbrev pub takes_in : Level → Spots → Bool
takes_in top spots = false
takes_in suite spots = true
takes_in case spots = true
takes_in status spots = leb kind.flaky_failure spots.status_kind_of

-- inside the element whose record stands between xs and ys, with what that record shows; texts were added to those at its start
pub record Holder (l : Level) (tally : Tally) (base : List ℕ) (xs ys : List (List ℕ)) (d : List ℕ) (spots : Spots) (Shown : List ℕ → List ℕ → Type 0) (s : Machine) : Type 0 where
  pub row : List ℕ
  pub added : List ℕ
  pub shown : Shown (base ++ added) row
  pub amid : Amid (at l) tally (holding (xs ++ (row ∷ ys)) (base ++ added) d []) spots s

-- in a mode of a case, between its elements; the records of suite and case have numbers i and k
pub record Between (mode : Mode) (tally : Tally) (i k : ℕ) (records : List (List ℕ)) (texts : List ℕ) (s : Machine) : Type 0 where
  pub spots : Spots
  pub amid : Amid mode tally (holding records texts [] []) spots s
  pub suite_at_of : spots.suite_at_of ≡ i
  pub case_at_of : spots.case_at_of ≡ k

-- the same with rows more, and what they show
pub record Adds (mode : Mode) (tally : Tally) (i k : ℕ) (records : List (List ℕ)) (texts : List ℕ) (Shown : List ℕ → List (List ℕ) → Type 0) (s : Machine) : Type 0 where
  pub rows : List (List ℕ)
  pub added : List ℕ
  pub shown : Shown (texts ++ added) rows
  pub stands : Between mode tally i k (records ++ rows) (texts ++ added) s
