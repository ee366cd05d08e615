-- The records that belong to an element, and those of some kinds among them. Definitions only.
use Rattle.std.specs.Prelude.{ℕ, List, [], ◌∷◌, Bool, ◌&&◌, ◌||◌, leb, eqb}
use Rattle.write_report.specs.of_tree_record.Kinds as kind
use Rattle.write_report.specs.of_tree_report.Fields.{kind_of}
use Rattle.write_report.specs.of_tree_report.ReportOf.{only, until}

-- level 1 is a suite, whose records end at the next suite; 2 a case, whose records end at the next suite or case
abbrev pub ends_at : ℕ → ℕ → Bool
ends_at level k = (eqb k kind.suite && leb 1 level) || (eqb k kind.case && eqb level 2)

abbrev pub is_between : ℕ → ℕ → ℕ → Bool
is_between low high k = leb low k && leb k high

abbrev pub own_of : ℕ → List (List ℕ) → List (List ℕ)
own_of level rs = until (λ (r : List ℕ). ends_at level (kind_of r)) rs

abbrev pub between : ℕ → ℕ → List (List ℕ) → List (List ℕ)
between low high rs = only (λ (r : List ℕ). is_between low high (kind_of r)) rs

abbrev pub first_of : List (List ℕ) → List ℕ
first_of [] = []
first_of (r ∷ rs) = r
