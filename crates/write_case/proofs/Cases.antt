-- What is written of a case, by the parts in which it is put. Assumes nothing.
use Prim.Native.Nat.{ℕ, ◌+◌, ◌-◌}
use mathlib.Core.Path.{◌≡◌, refl, ap}
use mathlib.Core.List.{List, ◌∷◌, ◌++◌}
use mathlib.Core.Bool.{true, false}
use lib.ListN.{length}
use Rattle.write_marks.specs.of_write_table.Laid.{entry, pairs_of_it}
use Rattle.write_walk.specs.of_write_items.inside.Values.{tag_name}
use Rattle.write_walk.specs.of_write_items.inside.Slots.{slots}
use Rattle.write_walk.specs.of_write_items.inside.Walk.{own_of, between}
use Rattle.write_walk.specs.of_write_items.inside.Rows.{rows_items}
use Rattle.write_walk.specs.of_write_items.inside.Case.{case_codes, is_childless, closing_items, opening_items, inside_items, case_items}

module _ (rs : List (List ℕ)) (text : List ℕ) where
  pub opening-items : (r : List ℕ) (kind n : ℕ) → n ≡ length (between 14 14 (own_of 2 rs))
      → (entry kind (tag_name 3) (length (slots text r case_codes) + n) ∷ pairs_of_it (slots text r case_codes)) ++ rows_items text false 2 14 14 rs ≡ opening_items text r rs kind
  unfolding opening_items
  opening-items r kind n e = ap (λ (m : ℕ). entry kind (tag_name 3) (length (slots text r case_codes) + m) ∷ (pairs_of_it (slots text r case_codes) ++ rows_items text false 2 14 14 rs)) e

  pub case-childless : (r : List ℕ) → is_childless r rs ≡ true → opening_items text r rs 1 ≡ case_items text r rs
  unfolding case_items
  case-childless r e = rw e refl

  pub case-parent : (r : List ℕ) → is_childless r rs ≡ false → opening_items text r rs 0 ++ (inside_items text rs ++ closing_items text r 3) ≡ case_items text r rs
  unfolding case_items
  case-parent r e = rw e refl
