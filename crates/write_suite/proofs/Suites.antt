-- What is written of suites, one record after the other. Assumes nothing.
use Prim.Native.Nat.{ℕ, ◌+◌}
use mathlib.Core.Path.{◌≡◌, refl, ap}
use mathlib.Core.List.{List, [], ◌∷◌, ◌++◌}
use mathlib.Core.Bool.{true, false, ◌&&◌, ◌||◌}
use borrow.Author.Tests.{eq-eqb, ne_eqb}
use lib.Dec.{eqb}
use lib.ListN.{length}
use Rattle.list_sums.specs.of_tree_report.Fields.{kind_of, has_bit}
use Rattle.write_marks.specs.of_write_table.Laid.{entry, pairs_of_it}
use Rattle.write_walk.specs.of_write_items.inside.Values.{tag_name}
use Rattle.write_walk.specs.of_write_items.inside.Slots.{slots}
use Rattle.write_walk.specs.of_write_items.inside.Walk.{own_of, between}
use Rattle.write_walk.specs.of_write_items.inside.Rows.{rows_items}
use Rattle.write_walk.specs.of_write_items.inside.Case.{first_kind, closing_items, case_items}
use Rattle.write_walk.specs.of_write_items.inside.Suite.{suite_codes, is_childless, cases_items, opening_items, inside_items, suite_items, suites_items}

module _ (rs : List (List ℕ)) where
  pub childless-not : (r : List ℕ) → (has_bit 1 r || has_bit 2 r) ≡ true → false ≡ is_childless r rs
  unfolding is_childless
  childless-not r e = rw e refl

  pub childless-may : (r : List ℕ) (a b : ℕ) → (has_bit 1 r || has_bit 2 r) ≡ false → a ≡ first_kind 1 4 4 rs → b ≡ first_kind 1 3 3 rs → (eqb a 0 && eqb b 0) ≡ is_childless r rs
  unfolding is_childless
  childless-may r a b e p q = rw (e, p, q) refl

module _ (text : List ℕ) where
  pub cases-over : cases_items text [] ≡ []
  unfolding cases_items
  cases-over = refl

  pub suites-over : suites_items text [] ≡ []
  unfolding suites_items
  suites-over = refl

  module _ (r : List ℕ) (rs : List (List ℕ)) where
    pub cases_end : kind_of r ≡ 2 → cases_items text (r ∷ rs) ≡ []
    unfolding cases_items
    cases_end e = rw (eq-eqb (kind_of r) 2 e) refl

    pub cases-case : (kind_of r ≡ 2 → ⊥) → kind_of r ≡ 3 → cases_items text (r ∷ rs) ≡ case_items text r rs ++ cases_items text rs
    unfolding cases_items
    cases-case e h = rw (ne_eqb (kind_of r) 2 e, eq-eqb (kind_of r) 3 h) refl

    pub cases_other : (kind_of r ≡ 2 → ⊥) → (kind_of r ≡ 3 → ⊥) → cases_items text (r ∷ rs) ≡ cases_items text rs
    unfolding cases_items
    cases_other e h = rw (ne_eqb (kind_of r) 2 e, ne_eqb (kind_of r) 3 h) refl

    pub suites-suite : kind_of r ≡ 2 → suites_items text (r ∷ rs) ≡ suite_items text r rs ++ suites_items text rs
    unfolding suites_items
    suites-suite e = rw (eq-eqb (kind_of r) 2 e) refl

    pub suites-other : (kind_of r ≡ 2 → ⊥) → suites_items text (r ∷ rs) ≡ suites_items text rs
    unfolding suites_items
    suites-other e = rw (ne_eqb (kind_of r) 2 e) refl

    pub opening-items : (kind n : ℕ) → n ≡ length (between 13 13 (own_of 1 rs))
        → (entry kind (tag_name 2) (length (slots text r suite_codes) + n) ∷ pairs_of_it (slots text r suite_codes)) ++ rows_items text false 1 13 13 rs ≡ opening_items text r rs kind
    unfolding opening_items
    opening-items kind n e = ap (λ (m : ℕ). entry kind (tag_name 2) (length (slots text r suite_codes) + m) ∷ (pairs_of_it (slots text r suite_codes) ++ rows_items text false 1 13 13 rs)) e

    pub suite-childless : is_childless r rs ≡ true → opening_items text r rs 1 ≡ suite_items text r rs
    unfolding suite_items
    suite-childless e = rw e refl

    pub suite-parent : is_childless r rs ≡ false → opening_items text r rs 0 ++ (inside_items text rs ++ closing_items text r 2) ≡ suite_items text r rs
    unfolding suite_items
    suite-parent e = rw e refl
