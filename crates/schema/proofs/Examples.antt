-- Each table is fine, and an element of each kind has each field in its own words: all values differ, since the map between rows and
-- fields goes by place. Assumes nothing.
use Prim.Native.Nat.{ℕ}
use mathlib.Core.Bool.{true, false}
use mathlib.Core.List.{List, [], ◌∷◌}
use mathlib.Core.Option.{none, some}
use mathlib.Core.Path.{◌≡◌, refl}
use lib.ListN.{set}
use Rattle.timestamp.specs.of_area.Area.{zeros}
use Rattle.timestamp.specs.of_names.Bytes.{bytes}
use Rattle.timestamp.specs.of_names.Keys as key
use Rattle.timestamp.specs.of_calendar.Calendar.{month_length, is_leap}
use Rattle.timestamp.specs.Timestamp.{in_range}
use Rattle.timestamp.specs.declared.Moment.{Moment}
use Rattle.tree_record.specs.Kinds as kind
use Rattle.schema.specs.Report.{Pair, Counts, failure, TestRerun, Reason, success, TestCase, TestSuite, Report}
use Rattle.schema.specs.Schema.{row, report, suite, case, main, skipped, run, property, extra, fine, text, must, may}
use Rattle.schema.specs.Records.{good, encode}
use Rattle.schema.specs.Texts.{fields_of, record_at}
use Rattle.schema.specs.Elements.{report_fields, report_of, suite_fields, suite_of, case_fields, case_of, main_fields, main_of, skipped_fields, skipped_of, run_fields, run_of, pair_fields, pair_of}

-- ---- the tables
pub report-fine : fine report ≡ true
report-fine = refl

pub suite-fine : fine suite ≡ true
suite-fine = refl

pub case-fine : fine case ≡ true
case-fine = refl

pub main-fine : fine main ≡ true
main-fine = refl

pub skipped-fine : fine skipped ≡ true
skipped-fine = refl

pub run-fine : fine run ≡ true
run-fine = refl

pub property-fine : fine property ≡ true
property-fine = refl

pub extra-fine : fine extra ≡ true
extra-fine = refl

-- words that cross, a bit that stands twice, a word and a bit too many are found
crossing : fine (row key.name text 2 (must 0) 1 ∷ row key.value text 3 (must 1) 2 ∷ []) ≡ false
crossing = refl

twice : fine (row key.name text 2 (must 0) 1 ∷ row key.value text 4 (may 0) 2 ∷ []) ≡ false
twice = refl

outside : fine (row key.name text 31 (must 0) 1 ∷ []) ≡ false
outside = refl

high : fine (row key.name text 2 (must 32) 1 ∷ []) ≡ false
high = refl

-- ---- fields by name, and back
pub report-named : (r : Report) → report_of (report_fields r) r.suites ≡ r
report-named r = refl

pub suite-named : (s : TestSuite) → suite_of (suite_fields s) s.cases s.properties s.extra ≡ s
suite-named s = refl

pub case-named : (c : TestCase) → case_of (case_fields c) c.status c.extra c.properties ≡ c
case-named c = refl

pub main-named : (r : Reason) → main_of (main_fields true r) ≡ r
main-named r = refl

pub skipped-named : (r : Reason) → skipped_of (skipped_fields r) ≡ r
skipped-named r = refl

pub run-named : (r : TestRerun) → run_of r.kind (run_fields r) ≡ r
run-named r = refl

pub pair-named : (p : Pair) → pair_of (pair_fields p) ≡ p
pair-named p = refl

-- ---- one of each, behind ten bytes of other texts
abbrev moment : Moment
moment = record { year = 2024; month = 2; day = 29; hour = 1; minute = 2; second = 3; nanos = 4; offset = 1439 }

abbrev sums : Counts
sums = record { tests = 4294967297; failures = 12; errors = 13; skipped = 14; disabled = some 15 }

abbrev a_report : Report
a_report =
    record {
      name = some (bytes "rep");
      uuid = some (record { a = 101; b = 102; c = 103; d = 104 });
      timestamp = some moment;
      time = some (record { seconds = 7; nanos = 500 });
      counts = sums;
      suites = [];
    }

report-words
    : record_at kind.report 10 report (report_fields a_report)
    ≡ 1 ∷ 283 ∷ 10 ∷ 3 ∷ 101 ∷ 102 ∷ 103 ∷ 104 ∷ 2024 ∷ 2 ∷ 29 ∷ 1 ∷ 2 ∷ 3 ∷ 4 ∷ 1439 ∷ 7 ∷ 500 ∷ 1 ∷ 1 ∷ 12 ∷ 0 ∷ 13 ∷ 0 ∷ 14 ∷ 0 ∷ 15 ∷ zeros 5
unfolding record_at encode
report-words = refl

abbrev a_suite : TestSuite
a_suite =
    record {
      name = bytes "s";
      counts = sums;
      timestamp = some moment;
      time = some (record { seconds = 7; nanos = 500 });
      hostname = some (bytes "hos");
      cases = [];
      properties = [];
      system_out = some (bytes "out");
      system_err = some (bytes "erro");
      extra = [];
    }

suite-words
    : record_at kind.suite 10 suite (suite_fields a_suite)
    ≡ 2 ∷ 1311 ∷ 10 ∷ 1 ∷ 11 ∷ 3 ∷ 14 ∷ 4 ∷ 2024 ∷ 2 ∷ 29 ∷ 1 ∷ 2 ∷ 3 ∷ 4 ∷ 1439 ∷ 7 ∷ 500 ∷ 1 ∷ 1 ∷ 12 ∷ 0 ∷ 13 ∷ 0 ∷ 14 ∷ 0 ∷ 15 ∷ 0 ∷ 18 ∷ 3 ∷ zeros 2
unfolding record_at encode
suite-words = refl

case-words
    : record_at kind.case 10 case (case_fields (record {
      name = bytes "c";
      classname = some (bytes "clas");
      assertions = some 9;
      timestamp = some moment;
      time = some (record { seconds = 7; nanos = 500 });
      status = success [];
      system_out = some (bytes "ou");
      system_err = some (bytes "err");
      extra = [];
      properties = [];
    }))
    ≡ 3 ∷ 127 ∷ 10 ∷ 1 ∷ 11 ∷ 2 ∷ 13 ∷ 3 ∷ 2024 ∷ 2 ∷ 29 ∷ 1 ∷ 2 ∷ 3 ∷ 4 ∷ 1439 ∷ 7 ∷ 500 ∷ 16 ∷ 4 ∷ 9 ∷ zeros 11
unfolding record_at encode
case-words = refl

abbrev a_reason : Reason
a_reason = record { message = some (bytes "m"); type = some (bytes "ty"); description = some (bytes "des") }

main-words : record_at kind.failure 10 main (main_fields true a_reason) ≡ 6 ∷ 609 ∷ 10 ∷ 1 ∷ 0 ∷ 0 ∷ 0 ∷ 0 ∷ 0 ∷ 0 ∷ 0 ∷ 0 ∷ 0 ∷ 0 ∷ 0 ∷ 0 ∷ 0 ∷ 0 ∷ 11 ∷ 2 ∷ 13 ∷ 3 ∷ zeros 10
unfolding record_at encode
main-words = refl

skipped-words : record_at kind.skipped 10 skipped (skipped_fields a_reason) ≡ 8 ∷ 97 ∷ 10 ∷ 1 ∷ 0 ∷ 0 ∷ 0 ∷ 0 ∷ 0 ∷ 0 ∷ 0 ∷ 0 ∷ 0 ∷ 0 ∷ 0 ∷ 0 ∷ 0 ∷ 0 ∷ 11 ∷ 2 ∷ 13 ∷ 3 ∷ zeros 10
unfolding record_at encode
skipped-words = refl

run-words
    : record_at kind.flaky_failure 10 run (run_fields (record {
      kind = failure;
      timestamp = some moment;
      time = some (record { seconds = 7; nanos = 500 });
      message = some (bytes "m");
      type = some (bytes "type");
      stack_trace = some (bytes "strace");
      system_out = some (bytes "ou");
      system_err = some (bytes "err");
      description = some (bytes "descr");
    }))
    ≡ 9 ∷ 255 ∷ 10 ∷ 1 ∷ 11 ∷ 2 ∷ 13 ∷ 3 ∷ 2024 ∷ 2 ∷ 29 ∷ 1 ∷ 2 ∷ 3 ∷ 4 ∷ 1439 ∷ 7 ∷ 500 ∷ 16 ∷ 4 ∷ 20 ∷ 5 ∷ 25 ∷ 6 ∷ zeros 8
unfolding record_at encode
run-words = refl

pair-words : record_at kind.suite_property 10 property (pair_fields (record { key = bytes "k"; value = bytes "va" })) ≡ 4 ∷ 3 ∷ 10 ∷ 1 ∷ 11 ∷ 2 ∷ zeros 26
unfolding record_at encode
pair-words = refl

-- ---- the suite read back, and records that are no layout's
abbrev words : List ℕ
words = 2 ∷ 1311 ∷ 10 ∷ 1 ∷ 11 ∷ 3 ∷ 14 ∷ 4 ∷ 2024 ∷ 2 ∷ 29 ∷ 1 ∷ 2 ∷ 3 ∷ 4 ∷ 1439 ∷ 7 ∷ 500 ∷ 1 ∷ 1 ∷ 12 ∷ 0 ∷ 13 ∷ 0 ∷ 14 ∷ 0 ∷ 15 ∷ 0 ∷ 18 ∷ 3 ∷ zeros 2

abbrev texts : List ℕ
texts = bytes "0123456789souterrohos"

suite-shown : suite_of (fields_of suite texts words) [] [] [] ≡ a_suite
suite-shown = refl

suite-layout : good suite texts words ≡ true
unfolding good in_range month_length is_leap
suite-layout = refl

-- a presence bit that no row has
bit_outside : good suite texts (set words 1 1823) ≡ false
unfolding good in_range month_length is_leap
bit_outside = refl

-- a word that no row has
word-outside : good suite texts (set words 30 1) ≡ false
unfolding good in_range month_length is_leap
word-outside = refl

-- without its name
no_name : good suite texts (set words 1 1310) ≡ false
unfolding good in_range month_length is_leap
no_name = refl

-- a text that ends behind the texts
past_end : good suite texts (set words 29 4) ≡ false
unfolding good in_range month_length is_leap
past_end = refl

-- the 30th of February
no-date : good suite texts (set words 10 30) ≡ false
unfolding good in_range month_length is_leap
no-date = refl
