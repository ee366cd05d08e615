-- Reports, and the events that each is written as (rules W1 to W10), as serialize.rs has them: written down, not computed.
-- Definitions only.
use Rattle.std.specs.Prelude.{ℕ, true, List, [], ◌∷◌}
use Prim.Native.String.{String}
use Rattle.std.proofs.Math.Option.{none, some}
use Rattle.public_claims.specs.of_names.Bytes.{bytes}
use Rattle.public_claims.specs.of_timestamp.declared.Moment.{Moment}
use Rattle.public_claims.specs.of_uuids.declared.Words.{Words}
use Rattle.public_claims.specs.of_table.Event.{Attribute, Start, Empty, End, Text, Other, Indent, Event, Tag, Piece, Eof}
use Rattle.public_claims.specs.of_tree_report.Report.{Counts, failure, error, rerun, TestRerun, TestCaseStatus, success, non_success, TestCase, TestSuite, Report}
use Rattle.public_cases.specs.Document.{Named, ◌≔◌}

-- ---- how events are written down
abbrev pub good : List Named → List Attribute
good [] = []
good (x ∷ xs) = record { good = true; key = x.key; value = x.value } ∷ good xs

-- a tag has the number of its first attribute
abbrev pub opens : String → ℕ → List Named → Event
opens n first xs = Tag Start (bytes n) first (good xs)

abbrev pub empties : String → ℕ → List Named → Event
empties n first xs = Tag Empty (bytes n) first (good xs)

abbrev pub closes : String → Event
closes n = Tag End (bytes n) 0 []

abbrev pub says : String → Event
says s = Piece Text (bytes s)

-- an Indent, read as one newline
abbrev pub breaks : Event
breaks = Piece Indent (10 ∷ [])

abbrev pub declares : Event
declares = Piece Other (bytes "xml version=\"1.0\" encoding=\"UTF-8\"")

-- ---- small reports
abbrev pub no_counts : Counts
no_counts = record { tests = 0; failures = 0; errors = 0; skipped = 0; disabled = none }

abbrev pub of_suites : List TestSuite → Report
of_suites ss = record { name = none; uuid = none; timestamp = none; time = none; counts = no_counts; suites = ss }

abbrev pub of_status : TestCaseStatus → TestCase
of_status s =
    record {
      name = bytes "t";
      classname = none;
      assertions = none;
      timestamp = none;
      time = none;
      status = s;
      system_out = none;
      system_err = none;
      extra = [];
      properties = [];
    }

abbrev pub of_cases : List TestCase → TestSuite
of_cases cs =
    record {
      name = bytes "s";
      counts = no_counts;
      timestamp = none;
      time = none;
      hostname = none;
      cases = cs;
      properties = [];
      system_out = none;
      system_err = none;
      extra = [];
    }

-- ---- the report of the worked listing
abbrev pub worked_events : List Event
worked_events =
    declares
    ∷ opens "testsuites" 0 ("name" ≔ "r" ∷ "tests" ≔ "2" ∷ "skipped" ≔ "0" ∷ "failures" ≔ "0" ∷ "errors" ≔ "0" ∷ [])
    ∷ opens "testsuite" 5 ("name" ≔ "lab" ∷ "tests" ≔ "2" ∷ "skipped" ≔ "0" ∷ "errors" ≔ "0" ∷ "failures" ≔ "0" ∷ [])
    ∷ empties "testcase" 10 ("name" ≔ "a" ∷ "time" ≔ "0.500" ∷ [])
    ∷ opens "testcase" 12 ("name" ≔ "b" ∷ [])
    ∷ empties "failure" 13 ("message" ≔ "m" ∷ [])
    ∷ opens "rerunFailure" 0 []
    ∷ closes "rerunFailure"
    ∷ closes "testcase"
    ∷ closes "testsuite"
    ∷ closes "testsuites"
    ∷ Eof
    ∷ breaks
    ∷ []

-- ---- a report with every field
-- of its nanoseconds three digits are written (rule W9)
abbrev pub report_moment : Moment
report_moment = record { year = 2023; month = 2; day = 28; hour = 23; minute = 59; second = 58; nanos = 123456789; offset = 1109 }

abbrev pub suite_moment : Moment
suite_moment = record { year = 0; month = 1; day = 1; hour = 0; minute = 0; second = 0; nanos = 0; offset = 1439 }

abbrev pub case_moment : Moment
case_moment = record { year = 9999; month = 12; day = 31; hour = 23; minute = 59; second = 59; nanos = 999999999; offset = 2878 }

abbrev pub run_moment : Moment
run_moment = record { year = 2024; month = 2; day = 29; hour = 1; minute = 2; second = 3; nanos = 4000000; offset = 1 }

abbrev pub report_uuid : Words
report_uuid = record { a = 0x01234567; b = 0x89ABCDEF; c = 0xFEDCBA98; d = 0x76543210 }

abbrev pub first_run : TestRerun
first_run =
    record {
      kind = failure;
      timestamp = some run_moment;
      time = some (record { seconds = 8388607; nanos = 999999999 });
      message = some (bytes "rm");
      type = some (bytes "rt");
      stack_trace = some (bytes "rs");
      system_out = some (bytes "ro");
      system_err = some (bytes "re");
      description = some (bytes "rd");
    }

abbrev pub second_run : TestRerun
second_run =
    record {
      kind = error;
      timestamp = some suite_moment;
      time = some (record { seconds = 0; nanos = 0 });
      message = some (bytes "em");
      type = some (bytes "et");
      stack_trace = some (bytes "es");
      system_out = some (bytes "eo");
      system_err = some (bytes "ee");
      description = some (bytes "ed");
    }

-- of two equally near the even one (rule W10): 187.5 thousandths are written as 188, 62.5 as 62
abbrev pub full_case : TestCase
full_case =
    record {
      name = bytes "t";
      classname = some (bytes "c");
      assertions = some 18446744073709551615;
      timestamp = some case_moment;
      time = some (record { seconds = 0; nanos = 187500000 });
      status =
          non_success error
          (record { message = some (bytes "<m>"); type = some (bytes "'t'"); description = some (bytes "d & \"e\"") })
          rerun
          (first_run ∷ second_run ∷ []);
      system_out = some (bytes "co");
      system_err = some (bytes "ce");
      extra = record { key = bytes "<k>"; value = bytes "<v>" } ∷ record { key = bytes "l"; value = bytes "w" } ∷ [];
      properties = record { key = bytes "p"; value = bytes "q" } ∷ record { key = bytes ""; value = bytes "" } ∷ [];
    }

abbrev pub full_suite : TestSuite
full_suite =
    record {
      name = bytes "s";
      counts = record { tests = 6; failures = 7; errors = 8; skipped = 9; disabled = some 10 };
      timestamp = some suite_moment;
      time = some (record { seconds = 1; nanos = 62500000 });
      hostname = some (bytes "h\"x");
      cases = full_case ∷ [];
      properties = record { key = bytes "n"; value = bytes "v" } ∷ [];
      system_out = some (bytes "so");
      system_err = some (bytes "se");
      extra = record { key = bytes "x"; value = bytes "y" } ∷ [];
    }

abbrev pub full : Report
full =
    record {
      name = some (bytes "r");
      uuid = some report_uuid;
      timestamp = some report_moment;
      time = some (record { seconds = 1; nanos = 234567890 });
      counts = record { tests = 1; failures = 2; errors = 3; skipped = 4; disabled = some 5 };
      suites = full_suite ∷ [];
    }

abbrev pub full_events : List Event
full_events =
    declares
    ∷ opens "testsuites" 0 (
    "name" ≔ "r" ∷ "tests" ≔ "1" ∷ "skipped" ≔ "4" ∷ "failures" ≔ "2" ∷ "errors" ≔ "3" ∷ "disabled" ≔ "5"
    ∷ "uuid" ≔ "01234567-89ab-cdef-fedc-ba9876543210" ∷ "timestamp" ≔ "2023-02-28T23:59:58.123-05:30" ∷ "time" ≔ "1.235" ∷ [])
    ∷ opens "testsuite" 9 (
    "name" ≔ "s" ∷ "tests" ≔ "6" ∷ "skipped" ≔ "9" ∷ "errors" ≔ "8" ∷ "failures" ≔ "7" ∷ "disabled" ≔ "10"
    ∷ "timestamp" ≔ "0000-01-01T00:00:00.000+00:00" ∷ "time" ≔ "1.062" ∷ "hostname" ≔ "h&quot;x" ∷ "x" ≔ "y" ∷ [])
    ∷ opens "properties" 0 []
    ∷ empties "property" 19 ("name" ≔ "n" ∷ "value" ≔ "v" ∷ [])
    ∷ closes "properties"
    ∷ opens "testcase" 21 (
    "name" ≔ "t" ∷ "classname" ≔ "c" ∷ "assertions" ≔ "18446744073709551615"
    ∷ "timestamp" ≔ "9999-12-31T23:59:59.999+23:59" ∷ "time" ≔ "0.188" ∷ "<k>" ≔ "&lt;v&gt;" ∷ "l" ≔ "w" ∷ [])
    ∷ opens "properties" 0 []
    ∷ empties "property" 28 ("name" ≔ "p" ∷ "value" ≔ "q" ∷ [])
    ∷ empties "property" 30 ("name" ≔ "" ∷ "value" ≔ "" ∷ [])
    ∷ closes "properties"
    ∷ opens "error" 32 ("message" ≔ "&lt;m&gt;" ∷ "type" ≔ "&apos;t&apos;" ∷ [])
    ∷ says "d &amp; &quot;e&quot;"
    ∷ closes "error"
    ∷ opens "rerunFailure" 34 ("timestamp" ≔ "2024-02-29T01:02:03.004-23:58" ∷ "time" ≔ "8388608.000" ∷ "message" ≔ "rm" ∷ "type" ≔ "rt" ∷ [])
    ∷ says "rd"
    ∷ breaks
    ∷ opens "stackTrace" 0 []
    ∷ says "rs"
    ∷ closes "stackTrace"
    ∷ opens "system-out" 0 []
    ∷ says "ro"
    ∷ closes "system-out"
    ∷ opens "system-err" 0 []
    ∷ says "re"
    ∷ closes "system-err"
    ∷ closes "rerunFailure"
    ∷ opens "rerunError" 38 ("timestamp" ≔ "0000-01-01T00:00:00.000+00:00" ∷ "time" ≔ "0.000" ∷ "message" ≔ "em" ∷ "type" ≔ "et" ∷ [])
    ∷ says "ed"
    ∷ breaks
    ∷ opens "stackTrace" 0 []
    ∷ says "es"
    ∷ closes "stackTrace"
    ∷ opens "system-out" 0 []
    ∷ says "eo"
    ∷ closes "system-out"
    ∷ opens "system-err" 0 []
    ∷ says "ee"
    ∷ closes "system-err"
    ∷ closes "rerunError"
    ∷ opens "system-out" 0 []
    ∷ says "co"
    ∷ closes "system-out"
    ∷ opens "system-err" 0 []
    ∷ says "ce"
    ∷ closes "system-err"
    ∷ closes "testcase"
    ∷ opens "system-out" 0 []
    ∷ says "so"
    ∷ closes "system-out"
    ∷ opens "system-err" 0 []
    ∷ says "se"
    ∷ closes "system-err"
    ∷ closes "testsuite"
    ∷ closes "testsuites"
    ∷ Eof
    ∷ breaks
    ∷ []

-- ---- a flaky run with description, stack trace and both outputs: one Indent
abbrev pub flaky_run : TestRerun
flaky_run =
    record {
      kind = failure;
      timestamp = none;
      time = none;
      message = none;
      type = none;
      stack_trace = some (bytes "b");
      system_out = some (bytes "o");
      system_err = some (bytes "e");
      description = some (bytes "d");
    }

abbrev pub one_flaky : Report
one_flaky = of_suites (of_cases (of_status (success (flaky_run ∷ [])) ∷ []) ∷ [])

abbrev pub one_flaky_events : List Event
one_flaky_events =
    declares
    ∷ opens "testsuites" 0 ("tests" ≔ "0" ∷ "skipped" ≔ "0" ∷ "failures" ≔ "0" ∷ "errors" ≔ "0" ∷ [])
    ∷ opens "testsuite" 4 ("name" ≔ "s" ∷ "tests" ≔ "0" ∷ "skipped" ≔ "0" ∷ "errors" ≔ "0" ∷ "failures" ≔ "0" ∷ [])
    ∷ opens "testcase" 9 ("name" ≔ "t" ∷ [])
    ∷ opens "flakyFailure" 0 []
    ∷ says "d"
    ∷ breaks
    ∷ opens "stackTrace" 0 []
    ∷ says "b"
    ∷ closes "stackTrace"
    ∷ opens "system-out" 0 []
    ∷ says "o"
    ∷ closes "system-out"
    ∷ opens "system-err" 0 []
    ∷ says "e"
    ∷ closes "system-err"
    ∷ closes "flakyFailure"
    ∷ closes "testcase"
    ∷ closes "testsuite"
    ∷ closes "testsuites"
    ∷ Eof
    ∷ breaks
    ∷ []

-- ---- an empty output: a Text of length 0
abbrev pub empty_output : Report
empty_output =
    of_suites (record {
      name = bytes "s";
      counts = no_counts;
      timestamp = none;
      time = none;
      hostname = none;
      cases = [];
      properties = [];
      system_out = some [];
      system_err = none;
      extra = [];
    } ∷ [])

abbrev pub empty_output_events : List Event
empty_output_events =
    declares
    ∷ opens "testsuites" 0 ("tests" ≔ "0" ∷ "skipped" ≔ "0" ∷ "failures" ≔ "0" ∷ "errors" ≔ "0" ∷ [])
    ∷ opens "testsuite" 4 ("name" ≔ "s" ∷ "tests" ≔ "0" ∷ "skipped" ≔ "0" ∷ "errors" ≔ "0" ∷ "failures" ≔ "0" ∷ [])
    ∷ opens "system-out" 0 []
    ∷ Piece Text []
    ∷ closes "system-out"
    ∷ closes "testsuite"
    ∷ closes "testsuites"
    ∷ Eof
    ∷ breaks
    ∷ []

-- ---- the live records of a tree with dead ones (rule M12)
abbrev pub live_events : List Event
live_events =
    declares
    ∷ opens "testsuites" 0 ("tests" ≔ "0" ∷ "skipped" ≔ "0" ∷ "failures" ≔ "0" ∷ "errors" ≔ "0" ∷ [])
    ∷ opens "testsuite" 4 ("name" ≔ "s" ∷ "tests" ≔ "0" ∷ "skipped" ≔ "0" ∷ "errors" ≔ "0" ∷ "failures" ≔ "0" ∷ "k" ≔ "v" ∷ [])
    ∷ opens "properties" 0 []
    ∷ empties "property" 10 ("name" ≔ "a" ∷ "value" ≔ "b" ∷ [])
    ∷ empties "property" 12 ("name" ≔ "c" ∷ "value" ≔ "d" ∷ [])
    ∷ closes "properties"
    ∷ opens "testcase" 14 ("name" ≔ "t" ∷ "k" ≔ "v" ∷ [])
    ∷ opens "properties" 0 []
    ∷ empties "property" 16 ("name" ≔ "a" ∷ "value" ≔ "b" ∷ [])
    ∷ empties "property" 18 ("name" ≔ "c" ∷ "value" ≔ "d" ∷ [])
    ∷ closes "properties"
    ∷ opens "flakyFailure" 0 []
    ∷ closes "flakyFailure"
    ∷ closes "testcase"
    ∷ closes "testsuite"
    ∷ closes "testsuites"
    ∷ Eof
    ∷ breaks
    ∷ []
