-- Whether a suite or a case is open, read off its record. Assumes nothing.
use Prim.Native.Nat.{ℕ}
use mathlib.Core.Bool.{Bool, true, false, ◌&&◌, ◌||◌}
use mathlib.Core.List.{List, [], ◌∷◌, ◌++◌, map}
use mathlib.Core.Option.{Option, none, some}
use mathlib.Core.Path.{◌≡◌, refl, sym, ap, ◌∙◌}
use lib.Dec.{eqb}
use lib.ListN.{length}
use Rattle.tree_placed.specs.of_refusal.Refusal.{nowhere}
use Rattle.tree_placed.specs.of_tree_record.Kinds as kind
use Rattle.tree_placed.specs.of_tree_report.Report.{TestCase, TestSuite, Report}
use Rattle.tree_placed.specs.of_tree_report.inside.Cells.{Row, pair_row_of, status_rows, case_row, case_rows, rows_of_each, suite_row, suite_rows, report_row, rows_of}
use Rattle.build_draft.specs.declared.Builder.{Builder}
use Rattle.build_draft.specs.declared.Element.TheVariants as element
use Rattle.build_draft.specs.declared.TextField.TheVariants as field
use Rattle.build_draft.specs.Draft.{kind_at, is_of}
use Rattle.build_draft.specs.Parts.{is_run}
use Rattle.build_report.specs.Operations.{last_in, open_case, suite_target, case_target}
use Rattle.build_report.specs.Stands.{Stored, Stands}
use Rattle.build_report.specs.Builders.{is_some, has_open_suite, has_open_case}
use Rattle.build_report.proofs.Openings.{before_suite, up_to_case, length-before-suite, length-up_to-case, rows-suite, rows-case}
use Rattle.build_report.proofs.PlaceTypes.{Place, at-suite, at-case, at_pair, at_none}
use Rattle.build_report.proofs.PlaceOf.{place-of}
use Rattle.build_report.proofs.Storing.{holding, nowhere-record, rows-many, parted, is-of-there}

or_left : (a b : Bool) → (a || b) ≡ false → a ≡ false
or_left true b e = e
or_left false b e = refl

module _ {b : Builder} {words text : List ℕ} {r : Report} (s : Stored b words text r) {i : ℕ} where
  -- the number that stands for none
  not_there : (k : ℕ) → i ≡ nowhere → is_of b words i k ≡ false
  unfolding is_of
  not_there k n = ap (λ (j : ℕ). is_of b words j k) n ∙ ap (λ (t : Bool). t && eqb (kind_at words nowhere) k) (nowhere-record s)

  -- the row of number i
  row-there : (front : List Row) (row : Row) (back : List Row) → rows_of r ≡ front ++ (row ∷ back) → length front ≡ i → (k : ℕ) → is_of b words i k ≡ eqb row.kind k
  row-there front row back h at k = is-of-there (parted front row back (holding s) (s.rows ∙ h)) at k

  suite-there : (q : Option TestSuite) → Place r i (suite_target q) → is_of b words i kind.suite ≡ is_some q
  suite-there none (at_pair front back κ p h at same) = row-there front (pair_row_of κ p) back h at 2 ∙ or_left (eqb κ 2) (eqb κ 3 || is_run κ) (same.text field.SystemOut)
  suite-there none (at_none n) = not_there 2 n
  suite-there (some u) (at-suite {s = v} e n) =
      row-there (before_suite r) (suite_row v) (map (pair_row_of kind.suite_extra) v.extra ++ (map (pair_row_of kind.suite_property) v.properties ++ rows_of_each case_rows v.cases))
      (rows-suite r e) (length-before-suite r ∙ sym n) 2

  case-there : (q : Option TestCase) → Place r i (case_target q) → is_of b words i kind.case ≡ is_some q
  case-there none (at_pair front back κ p h at same) = row-there front (pair_row_of κ p) back h at 3 ∙ same.text field.Classname
  case-there none (at_none n) = not_there 3 n
  case-there (some u) (at-case {s = v} {c = c} e d n) =
      row-there (up_to_case r v) (case_row c) (map (pair_row_of kind.case_extra) c.extra ++ (map (pair_row_of kind.case_property) c.properties ++ status_rows c.status))
      (rows-case r e d) (length-up_to-case r v ∙ sym n) 3

module _ {b : Builder} {words text : List ℕ} {r : Report} (h : Stands b words text r) where
  pub report-open : is_of b words b.report kind.report ≡ true
  report-open = row-there h.stored [] (report_row r) (rows_of_each suite_rows r.suites) refl (sym h.marks.report) 1

  pub suite-open : is_of b words b.suite kind.suite ≡ has_open_suite r
  suite-open = suite-there h.stored (last_in r.suites) (place-of r h.marks (sym (rows-many h.stored)) element.Suite)

  pub case_open : is_of b words b.case kind.case ≡ has_open_case r
  case_open = case-there h.stored (open_case (last_in r.suites)) (place-of r h.marks (sym (rows-many h.stored)) element.Case)
