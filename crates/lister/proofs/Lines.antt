-- The line of the report, by the parts in which it is put. Assumes nothing.
use Prim.Native.Nat.{ℕ}
use mathlib.Core.Path.{◌≡◌, sym, ap}
use mathlib.Core.List.{List, ◌∷◌, ◌++◌, append_assoc}
use Rattle.tree_layout.specs.of_names.Bytes.{bytes}
use Rattle.tree_layout.specs.of_tree_report.Fields.{first, counts}
use Rattle.list_suites.specs.of_list_text.Listing.{quoted, or_dash, fields, count_fields, header, ending}
use Rattle.list_suites.specs.inside.Shown.{suites_shown}
use Rattle.lister.specs.inside.Shown.{whole_shown}

module _ (text r : List ℕ) (rs : List (List ℕ)) where
  pub whole_parts : bytes "(report" ++ ((32 ∷ or_dash quoted (first text r)) ++ (fields (count_fields (counts r)) ++ (suites_shown text rs ++ ending))) ≡ whole_shown text r rs
  unfolding header whole_shown
  whole_parts = ap (λ (x : List ℕ). bytes "(report" ++ (32 ∷ x)) (sym (append_assoc (or_dash quoted (first text r)) (fields (count_fields (counts r))) (suites_shown text rs ++ ending)))
