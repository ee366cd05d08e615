-- What is written of suites, from their records and those behind them. Definitions only.
use Rattle.std.specs.Prelude.{ℕ, ◌+◌, List, [], ◌∷◌, ◌++◌, Bool, false, cond, ◌&&◌, ◌||◌, length, eqb}
use Rattle.write_report.specs.of_table.Kinds as event
use Rattle.write_report.specs.of_names.Tags as tag
use Rattle.write_report.specs.of_tree_record.Bits as bit
use Rattle.write_report.specs.of_tree_record.Kinds as kind
use Rattle.write_report.specs.of_schema.Schema as table
use Rattle.write_report.specs.of_tree_report.Fields.{kind_of, has_bit}
use Rattle.write_table.specs.Laid.{Item, entry, pairs_of_it}
use Rattle.write_items.specs.inside.Values.{tag_name, codes_of}
use Rattle.write_items.specs.inside.Slots.{slots}
use Rattle.write_items.specs.inside.Walk.{own_of, between}
use Rattle.write_items.specs.inside.Rows.{rows_items}
use Rattle.write_items.specs.inside.Case.{first_kind, properties_items, closing_items, case_items}

abbrev pub suite_codes : List ℕ
suite_codes = codes_of table.suite

unfoldable pub is_childless : List ℕ → List (List ℕ) → Bool
is_childless r rs = cond (has_bit bit.out r || has_bit bit.err r) false
    (eqb (first_kind 1 kind.suite_property kind.suite_property rs) 0 && eqb (first_kind 1 kind.case kind.case rs) 0)

module _ (text : List ℕ) where
  -- the cases of a suite: those before the next suite
  unfoldable pub cases_items : List (List ℕ) → List Item
  cases_items [] = []
  cases_items (r ∷ rs) = cond (eqb (kind_of r) kind.suite) [] (cond (eqb (kind_of r) kind.case) (case_items text r rs ++ cases_items rs) (cases_items rs))

  unfoldable pub opening_items : List ℕ → List (List ℕ) → ℕ → List Item
  opening_items r rs k =
      entry k (tag_name tag.testsuite) (length (slots text r suite_codes) + length (between kind.suite_extra kind.suite_extra (own_of 1 rs)))
      ∷ (pairs_of_it (slots text r suite_codes) ++ rows_items text false 1 kind.suite_extra kind.suite_extra rs)

  unfoldable pub inside_items : List (List ℕ) → List Item
  inside_items rs = properties_items text 1 kind.suite_property rs ++ cases_items rs

  unfoldable pub suite_items : List ℕ → List (List ℕ) → List Item
  suite_items r rs =
      cond (is_childless r rs) (opening_items r rs event.empty)
      (opening_items r rs event.start ++ (inside_items rs ++ closing_items text r tag.testsuite))

  unfoldable pub suites_items : List (List ℕ) → List Item
  suites_items [] = []
  suites_items (r ∷ rs) = cond (eqb (kind_of r) kind.suite) (suite_items r rs ++ suites_items rs) (suites_items rs)
