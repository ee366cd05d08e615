-- A plain report, and one for each condition that lacks just that. Assumes nothing.
use mathlib.Core.Bool.{true, false}
use mathlib.Core.List.{List, [], ◌∷◌}
use mathlib.Core.Option.{Option, none, some}
use mathlib.Core.Path.{◌≡◌, refl}
use Rattle.read_machine.specs.of_names.Bytes.{bytes}
use Rattle.read_machine.specs.of_names.Names.{same_bytes}
use Rattle.read_machine.specs.of_digits.Digits.{digit, decimal, places}
use Rattle.read_machine.specs.of_utf8.Utf8.{need, low, high}
use Rattle.write_report.specs.of_tree_report.Report.{Text, Duration, Pair, Counts, failure, FlakyOrRerun, flaky, rerun, TestCaseStatus, non_success, TestCase, Report}
use Rattle.write_report.specs.of_tree_report.Encode.{fits_row}
use Rattle.write_back.specs.of_write_escape.Escape as escape
use Rattle.write_report.specs.Written.{serialize_output, serialize_properties, serialize_outputs, serialize_status, serialize_elements}
use Rattle.write_report.specs.Written.{serialize_test_case, serialize_test_suite, declaration, serialize_report, numbered, written}
use Rattle.write_table.specs.Laid.{items_of, event_words, attribute_words, laid_bytes, laid_out}
use Rattle.round_elements.specs.Plain.{plain, sound}

abbrev no_tests : Counts
no_tests = record { tests = 0; failures = 0; errors = 0; skipped = 0; disabled = none }

-- a report of one case, a failure without runs
abbrev failed : Option Text → FlakyOrRerun → TestCaseStatus
failed description family = non_success failure (record { message = none; type = none; description = description }) family []

abbrev case_of : TestCaseStatus → Option Text → List Pair → Option Duration → TestCase
case_of status out extra time =
    record {
      name = bytes "c";
      classname = none;
      assertions = none;
      timestamp = none;
      time = time;
      status = status;
      system_out = out;
      system_err = none;
      extra = extra;
      properties = [];
    }

abbrev report_of : TestCase → Report
report_of c =
    record {
      name = none;
      uuid = none;
      timestamp = none;
      time = none;
      counts = no_tests;
      suites =
          record {
            name = bytes "s";
            counts = no_tests;
            timestamp = none;
            time = none;
            hostname = none;
            cases = c ∷ [];
            properties = [];
            system_out = none;
            system_err = none;
            extra = [];
          }
          ∷ [];
    }

abbrev pair : Text → Pair
pair key = record { key = key; value = bytes "v" }

-- an output may be empty, and white space may stand inside
abbrev plain_one : Report
plain_one = report_of (case_of (failed (some (bytes "a b")) rerun) (some []) (pair (bytes "k") ∷ pair (bytes "tests") ∷ []) none)

is_plain : plain plain_one ≡ true
unfolding plain same_bytes need low high escape.written digit decimal places serialize_output serialize_properties serialize_outputs serialize_status
    serialize_elements serialize_test_case serialize_test_suite declaration serialize_report numbered written items_of event_words attribute_words laid_bytes laid_out
is_plain = refl

is-sound : sound plain_one ≡ true
unfolding sound fits_row need low high
is-sound = refl

-- White_Space at an end (rule W15): U+2003
outer_space : plain (report_of (case_of (failed none rerun) (some (0xE2 ∷ 0x80 ∷ 0x83 ∷ 0x61 ∷ [])) [] none)) ≡ false
unfolding plain same_bytes need low high
outer_space = refl

-- rule W15
empty-description : plain (report_of (case_of (failed (some []) rerun) none [] none)) ≡ false
unfolding plain same_bytes need low high
empty-description = refl

-- rule W15
half_thousandth : plain (report_of (case_of (failed none rerun) none [] (some (record { seconds = 0; nanos = 1500000 })))) ≡ false
unfolding plain same_bytes need low high
half_thousandth = refl

-- what an extra key may not be (rule W15)
key_twice : plain (report_of (case_of (failed none rerun) none (pair (bytes "k") ∷ pair (bytes "k") ∷ []) none)) ≡ false
unfolding plain same_bytes need low high
key_twice = refl

key-reference : plain (report_of (case_of (failed none rerun) none (pair (bytes "k&") ∷ []) none)) ≡ false
unfolding plain same_bytes need low high
key-reference = refl

own_key : plain (report_of (case_of (failed none rerun) none (pair (bytes "assertions") ∷ []) none)) ≡ false
unfolding plain same_bytes need low high
own_key = refl

-- without runs the kind is Rerun (rule W15)
flaky-alone : plain (report_of (case_of (failed none flaky) none [] none)) ≡ false
unfolding plain same_bytes need low high
flaky-alone = refl
