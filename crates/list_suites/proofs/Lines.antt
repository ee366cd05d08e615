-- The line of a suite, by the parts in which it is put. Assumes nothing.
use Prim.Native.Nat.{ℕ}
use mathlib.Core.Path.{◌≡◌, sym, ap}
use mathlib.Core.List.{List, ◌∷◌, ◌++◌, append_assoc}
use Rattle.list_case.specs.of_names.Bytes.{bytes}
use Rattle.list_case.specs.of_tree_report.Fields.{text_at, counts}
use Rattle.list_case.specs.of_list_text.Listing.{quoted, fields, count_fields, close, suite_text}
use Rattle.list_suites.specs.inside.Shown.{cases_shown, suite_shown}

module _ (text r : List ℕ) (rs : List (List ℕ)) where
  pub suite-parts : bytes "\n(suite" ++ ((32 ∷ quoted (text_at text r 2)) ++ (fields (count_fields (counts r)) ++ (cases_shown text rs ++ close))) ≡ suite_shown text r rs
  unfolding suite_text suite_shown cases_shown
  suite-parts = ap (λ (x : List ℕ). bytes "\n(suite" ++ (32 ∷ x)) (sym (append_assoc (quoted (text_at text r 2)) (fields (count_fields (counts r))) (cases_shown text rs ++ close)))
