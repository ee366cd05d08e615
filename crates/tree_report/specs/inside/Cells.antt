-- A record by its cells of two words: rows of which one part at a time is stored. Definitions only.
use Rattle.std.specs.Prelude.{ℕ, ◌/◌, ◌%◌, List, [], ◌∷◌, ◌++◌, map, Bool, true, false, ◌&&◌, length, leb}
use Rattle.std.proofs.Math.Option.{Option, none, some}
use Rattle.schema.specs.of_utf8.Utf8.{utf8}
use Rattle.schema.specs.of_text_filter.Filter.{unfiltered}
use Rattle.schema.specs.of_timestamp.Timestamp.{in_range}
use Rattle.schema.specs.of_timestamp.declared.Moment.{Moment}
use Rattle.schema.specs.of_uuids.declared.Words.{Words}
use Rattle.tree_status.specs.of_tree_record.Kinds as kind
pub use Rattle.schema.specs.Records.{is_some, flags_of}
use Rattle.tree_report.specs.Report.{Text, Duration, Pair, FlakyOrRerun, flaky, TestRerun}
use Rattle.tree_report.specs.Report.{Reason, TestCaseStatus, success, non_success, skipped, TestCase, TestSuite, Report}
pub use Rattle.tree_report.specs.Encode.{kind_of_main, kind_of_run, is_flaky_alone, rows_of_each, every}

-- ---- two words of a record
-- words of zero; a text; two words that may be missing; two words that have no presence bit
pub data Cell : Type 0 where
  absent : Cell
  written : Text → Cell
  valued : ℕ → ℕ → Cell
  constant : ℕ → ℕ → Cell

-- what it adds to the text area
abbrev pub stored : Cell → Text
stored absent = []
stored (written t) = t
stored (valued a b) = []
stored (constant a b) = []

-- its presence bit
abbrev pub is_given : Cell → Bool
is_given absent = false
is_given (written t) = true
is_given (valued a b) = true
is_given (constant a b) = false

-- the words, with so many bytes in the text area before
abbrev pub first_word : ℕ → Cell → ℕ
first_word fill absent = 0
first_word fill (written t) = fill
first_word fill (valued a b) = a
first_word fill (constant a b) = a

abbrev pub second_word : Cell → ℕ
second_word absent = 0
second_word (written t) = length t
second_word (valued a b) = b
second_word (constant a b) = b

abbrev pub of_text : Option Text → Cell
of_text none = absent
of_text (some t) = written t

-- a number of 64 bits: the low word and the high word
abbrev pub low_word : ℕ → ℕ
low_word n = n % 4294967296

abbrev pub high_word : ℕ → ℕ
high_word n = n / 4294967296

abbrev pub of_number : Option ℕ → Cell
of_number none = absent
of_number (some n) = valued (low_word n) (high_word n)

abbrev pub of_count : ℕ → Cell
of_count n = constant (low_word n) (high_word n)

-- a UUID: its four words have one presence bit
abbrev pub uuid_front : Option Words → Cell
uuid_front none = absent
uuid_front (some u) = valued u.a u.b

abbrev pub uuid_back : Option Words → Cell
uuid_back none = absent
uuid_back (some u) = constant u.c u.d

-- ---- one record
-- its parts from word 2 on, in the order of their words, where Fields.antt finds them
pub record Row : Type 0 where
  pub kind : ℕ
  pub first : Cell
  pub out : Cell
  pub err : Cell
  pub timestamp : Option Moment
  pub time : Option Duration
  pub second : Cell
  pub third : Cell
  pub fourth : Cell
  pub fifth : Cell
  pub sixth : Cell
  pub seventh : Cell
  pub is_flaky : Bool

abbrev pub row_of : ℕ → Cell → Cell → Cell → Option Moment → Option Duration → Cell → Cell → Cell → Cell → Cell → Cell → Bool → Row
row_of k a b c m d e f g h i j t =
    record { kind = k; first = a; out = b; err = c; timestamp = m; time = d; second = e; third = f; fourth = g; fifth = h; sixth = i; seventh = j; is_flaky = t }

abbrev pub moment_or_zero : Option Moment → Moment
moment_or_zero none = record { year = 0; month = 0; day = 0; hour = 0; minute = 0; second = 0; nanos = 0; offset = 0 }
moment_or_zero (some m) = m

abbrev pub time_or_zero : Option Duration → Duration
time_or_zero none = record { seconds = 0; nanos = 0 }
time_or_zero (some d) = d

abbrev pub presence : Row → List Bool
presence r =
    is_given r.first ∷ is_given r.out ∷ is_given r.err ∷ is_some r.timestamp ∷ is_some r.time
    ∷ is_given r.second ∷ is_given r.third ∷ is_given r.fourth ∷ is_given r.sixth ∷ r.is_flaky ∷ is_given r.seventh ∷ []

-- ---- the records of a report, in their order: an element, its extras, its properties, and what else it holds
-- a property or an extra
abbrev pub pair_row_of : ℕ → Pair → Row
pair_row_of k p = row_of k (written p.key) (written p.value) absent none none absent absent absent absent absent absent false

-- a main
abbrev pub main_row : ℕ → Bool → Reason → Row
main_row k is_flaky r = row_of k (of_text r.message) absent absent none none (of_text r.type) (of_text r.description) absent absent absent absent is_flaky

abbrev pub run_row : FlakyOrRerun → TestRerun → Row
run_row family r =
    row_of (kind_of_run family r.kind) (of_text r.message) (of_text r.system_out) (of_text r.system_err) r.timestamp r.time
    (of_text r.type) (of_text r.description) (of_text r.stack_trace) absent absent absent false

abbrev pub status_rows : TestCaseStatus → List Row
status_rows (success runs) = map (run_row flaky) runs
status_rows (non_success k reason family runs) = main_row (kind_of_main k) (is_flaky_alone family runs) reason ∷ map (run_row family) runs
status_rows (skipped reason) = main_row kind.skipped false reason ∷ []

abbrev pub case_row : TestCase → Row
case_row c =
    row_of kind.case (written c.name) (of_text c.system_out) (of_text c.system_err) c.timestamp c.time
    (of_text c.classname) (of_number c.assertions) absent absent absent absent false

abbrev pub case_rows : TestCase → List Row
case_rows c = case_row c ∷ (map (pair_row_of kind.case_extra) c.extra ++ (map (pair_row_of kind.case_property) c.properties ++ status_rows c.status))

abbrev pub suite_row : TestSuite → Row
suite_row s =
    row_of kind.suite (written s.name) (of_text s.system_out) (of_text s.system_err) s.timestamp s.time
    (of_count s.counts.tests) (of_count s.counts.failures) (of_count s.counts.errors) (of_count s.counts.skipped) (of_number s.counts.disabled) (of_text s.hostname) false

abbrev pub suite_rows : TestSuite → List Row
suite_rows s = suite_row s ∷ (map (pair_row_of kind.suite_extra) s.extra ++ (map (pair_row_of kind.suite_property) s.properties ++ rows_of_each case_rows s.cases))

abbrev pub report_row : Report → Row
report_row r =
    row_of kind.report (of_text r.name) (uuid_front r.uuid) (uuid_back r.uuid) r.timestamp r.time
    (of_count r.counts.tests) (of_count r.counts.failures) (of_count r.counts.errors) (of_count r.counts.skipped) (of_number r.counts.disabled) absent false

abbrev pub rows_of : Report → List Row
rows_of r = report_row r ∷ rows_of_each suite_rows r.suites

-- ---- what fits
-- a text is UTF-8 without filtered characters; a word has 32 bits, so that a count is at most 18446744073709551615
abbrev pub fits_cell : Cell → Bool
fits_cell absent = true
fits_cell (written t) = utf8 t && unfiltered t
fits_cell (valued a b) = leb a 4294967295 && leb b 4294967295
fits_cell (constant a b) = leb a 4294967295 && leb b 4294967295

abbrev pub fits_moment : Option Moment → Bool
fits_moment none = true
fits_moment (some m) = in_range m

abbrev pub fits_time : Option Duration → Bool
fits_time none = true
fits_time (some d) = leb d.seconds 8388607 && leb d.nanos 999999999

unfoldable pub fits_row : Row → Bool
fits_row r =
    every fits_cell (r.first ∷ r.out ∷ r.err ∷ r.second ∷ r.third ∷ r.fourth ∷ r.fifth ∷ r.sixth ∷ r.seventh ∷ [])
    && (fits_moment r.timestamp && fits_time r.time)
