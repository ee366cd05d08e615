-- The areas that hold a report, and when it fits them. Definitions only.
use Rattle.std.specs.Prelude.{ℕ, ◌+◌, ◌*◌, List, [], ◌∷◌, ◌++◌, map, Bool, true, false, ◌&&◌, length, leb}
use Rattle.schema.specs.of_area.Area.{zeros, laid}
use Rattle.schema.specs.of_area.Limits.{most_records, most_bytes}
use Rattle.schema.specs.of_utf8.Characters.{joined}
use Rattle.tree_status.specs.of_tree_record.Kinds as kind
use Rattle.schema.specs.Schema as schema
use Rattle.schema.specs.Records.{Fields}
use Rattle.schema.specs.Texts as texts
use Rattle.schema.specs.Elements as named
use Rattle.tree_report.specs.Report.{Text, Pair, NonSuccessKind, failure, error, FlakyOrRerun, flaky, rerun, TestRerun}
use Rattle.tree_report.specs.Report.{Reason, TestCaseStatus, success, non_success, skipped, TestCase, TestSuite, Report}

-- ---- one record
-- its kind, its element's table (crate schema), and the fields
pub record Row : Type 0 where
  pub kind : ℕ
  pub table : List schema.Row
  pub fields : Fields Text table

-- what it adds to the text area
abbrev pub texts_of : Row → List ℕ
texts_of r = texts.stored_in r.table r.fields

-- the 32 words, with so many bytes in the text area before
abbrev pub record_at : ℕ → Row → List ℕ
record_at fill r = texts.record_at r.kind fill r.table r.fields

-- ---- the records of a report, in their order: an element, its extras, its properties, and what else it holds
-- a property or an extra
abbrev pub pair_row_of : ℕ → Pair → Row
pair_row_of k p = record { kind = k; table = schema.property; fields = named.pair_fields p }

abbrev pub kind_of_main : NonSuccessKind → ℕ
kind_of_main failure = kind.failure
kind_of_main error = kind.error

-- a failure or error
abbrev pub main_row : NonSuccessKind → Bool → Reason → Row
main_row k is_flaky r = record { kind = kind_of_main k; table = schema.main; fields = named.main_fields is_flaky r }

abbrev pub skipped_row : Reason → Row
skipped_row r = record { kind = kind.skipped; table = schema.skipped; fields = named.skipped_fields r }

abbrev pub kind_of_run : FlakyOrRerun → NonSuccessKind → ℕ
kind_of_run flaky failure = kind.flaky_failure
kind_of_run flaky error = kind.flaky_error
kind_of_run rerun failure = kind.rerun_failure
kind_of_run rerun error = kind.rerun_error

abbrev pub run_row : FlakyOrRerun → TestRerun → Row
run_row family r = record { kind = kind_of_run family r.kind; table = schema.run; fields = named.run_fields r }

-- the flaky bit is for a failure or error of kind flaky without runs
abbrev pub is_flaky_alone : FlakyOrRerun → List TestRerun → Bool
is_flaky_alone flaky [] = true
is_flaky_alone flaky (r ∷ rs) = false
is_flaky_alone rerun rs = false

abbrev pub status_rows : TestCaseStatus → List Row
status_rows (success runs) = map (run_row flaky) runs
status_rows (non_success k reason family runs) = main_row k (is_flaky_alone family runs) reason ∷ map (run_row family) runs
status_rows (skipped reason) = skipped_row reason ∷ []

abbrev pub case_row : TestCase → Row
case_row c = record { kind = kind.case; table = schema.case; fields = named.case_fields c }

abbrev pub case_rows : TestCase → List Row
case_rows c = case_row c ∷ (map (pair_row_of kind.case_extra) c.extra ++ (map (pair_row_of kind.case_property) c.properties ++ status_rows c.status))

abbrev pub rows_of_each : {A B : Type 0} → (A → List B) → List A → List B
rows_of_each f [] = []
rows_of_each f (x ∷ xs) = f x ++ rows_of_each f xs

abbrev pub suite_row : TestSuite → Row
suite_row s = record { kind = kind.suite; table = schema.suite; fields = named.suite_fields s }

abbrev pub suite_rows : TestSuite → List Row
suite_rows s = suite_row s ∷ (map (pair_row_of kind.suite_extra) s.extra ++ (map (pair_row_of kind.suite_property) s.properties ++ rows_of_each case_rows s.cases))

abbrev pub report_row : Report → Row
report_row r = record { kind = kind.report; table = schema.report; fields = named.report_fields r }

abbrev pub rows_of : Report → List Row
rows_of r = report_row r ∷ rows_of_each suite_rows r.suites

-- ---- the areas
-- the texts, one behind the other
abbrev pub stored_in : List Row → List ℕ
stored_in [] = []
stored_in (r ∷ rs) = texts_of r ++ stored_in rs

abbrev pub records_at : ℕ → List Row → List (List ℕ)
records_at fill [] = []
records_at fill (r ∷ rs) = record_at fill r ∷ records_at (fill + length (texts_of r)) rs

pub record Encoding : Type 0 where
  pub records : List (List ℕ)
  pub texts : List ℕ

unfoldable pub encode : Report → Encoding
encode r = record { records = records_at 0 (rows_of r); texts = stored_in (rows_of r) }

-- areas of so many words or bytes, zero behind the encoding (rule M9)
unfoldable pub words_of : Report → ℕ → List ℕ
words_of r n = laid (zeros n) (joined (encode r).records)

-- rule M9
unfoldable pub text_of : Report → ℕ → List ℕ
text_of r n = laid (zeros n) (encode r).texts

-- ---- what fits
abbrev pub every : {A : Type 0} → (A → Bool) → List A → Bool
every p [] = true
every p (x ∷ xs) = p x && every p xs

-- its texts, times and timestamps are such as a layout may have, its counts have 64 bits
unfoldable pub fits_row : Row → Bool
fits_row r = texts.sound r.table r.fields

-- its records, one for each suite, case, status element, property, extra and the report, and its texts fit the areas
-- and the limits (rule M9)
unfoldable pub fits : Report → ℕ → ℕ → Bool
fits r words bytes =
    let rows = rows_of r in
    let size = length (stored_in rows) in
    leb (length rows) most_records
    && (leb (length rows * 32) words
    && (leb size most_bytes
    && (leb size bytes && every fits_row rows)))
