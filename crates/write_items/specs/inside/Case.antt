-- What is written of a case, from its record and those behind it. Definitions only.
use Rattle.std.specs.Prelude.{ℕ, ◌+◌, List, [], ◌∷◌, ◌++◌, Bool, true, false, cond, ◌&&◌, ◌||◌, length, leb, eqb}
use Rattle.write_report.specs.of_table.Kinds as event
use Rattle.write_report.specs.of_names.Tags as tag
use Rattle.write_report.specs.of_tree_record.Bits as bit
use Rattle.write_report.specs.of_tree_record.Kinds as kind
use Rattle.write_report.specs.of_schema.Schema as table
use Rattle.write_report.specs.of_tree_report.Fields.{kind_of, has_bit, system_out, system_err}
use Rattle.write_report.specs.of_tree_report.ReportOf.{reason_of}
use Rattle.write_report.specs.Written.{serialize_outputs, serialize_status}
use Rattle.write_table.specs.Laid.{Item, entry, pairs_of_it, items_of}
use Rattle.write_items.specs.inside.Values.{tag_name, codes_of}
use Rattle.write_items.specs.inside.Slots.{slots}
use Rattle.write_items.specs.inside.Walk.{own_of, between, first_of}
use Rattle.write_items.specs.inside.Rows.{rows_items}

-- the kind of the first record of these kinds, 0 where there is none
abbrev pub first_kind : ℕ → ℕ → ℕ → List (List ℕ) → ℕ
first_kind level low high rs = kind_of (first_of (between low high (own_of level rs)))

abbrev pub case_codes : List ℕ
case_codes = codes_of table.case

abbrev pub first_run : List (List ℕ) → ℕ
first_run rs = first_kind 2 kind.flaky_failure kind.rerun_error rs

-- by the first of the runs, and without any by the main's bit
unfoldable pub runs_flaky : List ℕ → List (List ℕ) → Bool
runs_flaky main rs = cond (eqb (first_run rs) 0) (has_bit bit.flaky main) (leb (first_run rs) kind.flaky_error)

abbrev pub main_tag : ℕ → ℕ
main_tag k = cond (eqb k kind.failure) tag.failure tag.error

unfoldable pub is_childless : List ℕ → List (List ℕ) → Bool
is_childless r rs = cond (has_bit bit.out r || has_bit bit.err r) false
    (eqb (first_kind 2 kind.case_property kind.case_property rs) 0 && eqb (first_kind 2 kind.failure kind.rerun_error rs) 0)

module _ (text : List ℕ) where
  unfoldable pub properties_items : ℕ → ℕ → List (List ℕ) → List Item
  properties_items level k rs =
      cond (eqb (first_kind level k k rs) 0) []
      (entry event.start (tag_name tag.properties) 0 ∷ (rows_items text false level k k rs ++ (entry event.end (tag_name tag.properties) 0 ∷ [])))

  unfoldable pub closing_items : List ℕ → ℕ → List Item
  closing_items r t = items_of (serialize_outputs (system_out text r) (system_err text r)) ++ (entry event.end (tag_name t) 0 ∷ [])

  abbrev pub runs_items : Bool → List (List ℕ) → List Item
  runs_items flaky rs = rows_items text flaky 2 kind.flaky_failure kind.rerun_error rs

  unfoldable pub main_items : List ℕ → List (List ℕ) → List Item
  main_items r rs =
      cond (eqb (kind_of r) kind.skipped) (items_of (serialize_status (tag_name tag.skipped) (reason_of text r)))
      (items_of (serialize_status (tag_name (main_tag (kind_of r))) (reason_of text r)) ++ runs_items (runs_flaky r rs) rs)

  unfoldable pub elements_items : List (List ℕ) → List Item
  elements_items rs =
      cond (eqb (first_kind 2 kind.failure kind.skipped rs) 0) (runs_items true rs)
      (main_items (first_of (between kind.failure kind.skipped (own_of 2 rs))) rs)

  unfoldable pub opening_items : List ℕ → List (List ℕ) → ℕ → List Item
  opening_items r rs k =
      entry k (tag_name tag.testcase) (length (slots text r case_codes) + length (between kind.case_extra kind.case_extra (own_of 2 rs)))
      ∷ (pairs_of_it (slots text r case_codes) ++ rows_items text false 2 kind.case_extra kind.case_extra rs)

  unfoldable pub inside_items : List (List ℕ) → List Item
  inside_items rs = properties_items 2 kind.case_property rs ++ elements_items rs

  unfoldable pub case_items : List ℕ → List (List ℕ) → List Item
  case_items r rs = cond (is_childless r rs) (opening_items r rs event.empty) (opening_items r rs event.start ++ (inside_items rs ++ closing_items r tag.testcase))
