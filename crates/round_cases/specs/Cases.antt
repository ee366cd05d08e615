-- A plain report is read back as itself (rule W16), and each condition of a plain report is needed (rule W15). What is expected is
-- written down, not computed. Definitions only.
use Rattle.std.specs.Prelude.{ℕ, ◌≡◌, true, false, List, [], ◌∷◌}
use Rattle.std.proofs.Math.Option.{Option, none, some}
use Rattle.public_cases.specs.of_names.Bytes.{bytes}
use Rattle.public_cases.specs.of_refusal.Refusal.{Outcome, accepted, refused, nowhere}
use Rattle.public_cases.specs.of_refusal.declared.Cause.{Cause}
use Rattle.public_cases.specs.of_refusal.declared.Cause.TheVariants as cause
use Rattle.public_cases.specs.of_refusal.declared.PathElement.{PathElement}
use Rattle.public_cases.specs.of_timestamp.declared.Moment.{Moment}
use Rattle.public_cases.specs.of_tree_report.Report.{Text, Duration, Pair, failure, error, FlakyOrRerun, flaky, rerun, TestRerun, success, non_success, TestCase, TestSuite, Report}
use Rattle.round_elements.specs.of_read_machine.Reading.{deserialize}
use Rattle.round_elements.specs.of_write_report.Written.{written}
use Rattle.public_cases.specs.Reports.{no_counts, of_suites, of_status, of_cases}
use Rattle.public_cases.specs.Cases.{testsuites, testsuite, testcase, attribute}
use Rattle.round_elements.specs.Plain.{plain, sound}
use Rattle.round_cases.specs.Conditions.{Condition, bare_texts, given_descriptions, whole_times, whole_timestamps, distinct_on_suites, unescaped_on_suites}
use Rattle.round_cases.specs.Conditions.{others_on_suites, distinct_on_cases, unescaped_on_cases, others_on_cases, ruled_status, violated}

-- ---- a case: a report, and how it is read back
pub data Case : Type 0 where
  -- plain, and read back as itself
  kept : Report → Case
  -- this condition alone is violated, and what is read back is this, not the report
  lost : Condition → Report → Outcome (Option Report) → Case

abbrev pub read_back_of : Report → Outcome (Option Report)
read_back_of r = deserialize (written r)

pub data All : List Case → Type 0 where
  no-case : All []
  one_kept : {r : Report} {cs : List Case} → sound r ≡ true → plain r ≡ true → read_back_of r ≡ accepted (some r) → All cs → All (kept r ∷ cs)
  one-lost : {k : Condition} {r : Report} {o : Outcome (Option Report)} {cs : List Case}
      → sound r ≡ true
      → plain r ≡ false
      → violated r ≡ k ∷ []
      → read_back_of r ≡ o
      → (o ≡ accepted (some r) → ⊥)
      → All cs
      → All (lost k r o ∷ cs)

-- the conditions that the cases show to be needed
abbrev pub shown : List Case → List Condition
shown [] = []
shown (kept r ∷ cs) = shown cs
shown (lost k r o ∷ cs) = k ∷ shown cs

-- ---- how the cases are written
abbrev pub refuses : Cause → List PathElement → ℕ → ℕ → Outcome (Option Report)
refuses c p e a = refused (record { cause = c; path = p; event = e; attribute = a })

-- a report of no suites with a time and a timestamp
abbrev pub at : Option Duration → Option Moment → Report
at d m = record { name = none; uuid = none; timestamp = m; time = d; counts = no_counts; suites = [] }

-- a report of one suite without cases
abbrev pub one_suite : Option ℕ → Option Text → List Pair → Report
one_suite disabled out extra =
    of_suites (record {
      name = bytes "s";
      counts = record { tests = 0; failures = 0; errors = 0; skipped = 0; disabled = disabled };
      timestamp = none;
      time = none;
      hostname = none;
      cases = [];
      properties = [];
      system_out = out;
      system_err = none;
      extra = extra;
    } ∷ [])

-- a report of one case
abbrev pub one_case : Option Text → List Pair → Report
one_case classname extra =
    of_suites (of_cases (record {
      name = bytes "t";
      classname = classname;
      assertions = none;
      timestamp = none;
      time = none;
      status = success [];
      system_out = none;
      system_err = none;
      extra = extra;
      properties = [];
    } ∷ []) ∷ [])

-- a report of one failure without runs
abbrev pub one_failure : Option Text → FlakyOrRerun → Report
one_failure description family =
    of_suites (of_cases (of_status (non_success failure (record { message = none; type = none; description = description }) family []) ∷ []) ∷ [])

abbrev pub new_year : ℕ → Moment
new_year nanos = record { year = 2024; month = 1; day = 1; hour = 0; minute = 0; second = 0; nanos = nanos; offset = 1439 }

-- ---- every field of report, suite, case, main and runs
abbrev pub moment : Moment
moment = record { year = 2024; month = 2; day = 29; hour = 23; minute = 59; second = 58; nanos = 987000000; offset = 1109 }

abbrev pub first_run : TestRerun
first_run =
    record {
      kind = failure;
      timestamp = some moment;
      time = some (record { seconds = 8388607; nanos = 999000000 });
      message = some (bytes "rm");
      type = some (bytes "rt");
      stack_trace = some (bytes "r<s>");
      system_out = some (bytes "r o");
      system_err = some (bytes "re");
      description = some (bytes "rd");
    }

abbrev pub second_run : TestRerun
second_run =
    record {
      kind = error;
      timestamp = some (new_year 0);
      time = some (record { seconds = 0; nanos = 1000000 });
      message = some (bytes "em");
      type = some (bytes "et");
      stack_trace = some (bytes "es");
      system_out = some (bytes "");
      system_err = some (bytes "ee");
      description = some (bytes "e&d");
    }

abbrev pub full_case : TestCase
full_case =
    record {
      name = bytes "t";
      classname = some (bytes "c");
      assertions = some 18446744073709551615;
      timestamp = some (new_year 1000000);
      time = some (record { seconds = 0; nanos = 0 });
      status =
          non_success error
          (record { message = some (bytes " m "); type = some (bytes "'t'"); description = some (bytes "d\n\"e\"") })
          rerun
          (first_run ∷ second_run ∷ []);
      system_out = some (bytes "co");
      system_err = some (bytes "ce");
      extra = record { key = bytes "<k>"; value = bytes "&v;" } ∷ record { key = bytes "tests"; value = bytes "w" } ∷ [];
      properties = record { key = bytes "p"; value = bytes "q" } ∷ record { key = bytes "p"; value = bytes "" } ∷ [];
    }

abbrev pub full_suite : TestSuite
full_suite =
    record {
      name = bytes "s";
      counts = record { tests = 6; failures = 7; errors = 8; skipped = 9; disabled = some 10 };
      timestamp = some moment;
      time = some (record { seconds = 1; nanos = 500000000 });
      hostname = some (bytes "b<x");
      cases = full_case ∷ [];
      properties = record { key = bytes "n"; value = bytes "v" } ∷ [];
      system_out = some (bytes "so");
      system_err = some (bytes "se");
      extra = record { key = bytes "x"; value = bytes "y" } ∷ [];
    }

abbrev pub full : Report
full =
    record {
      name = some (bytes "r");
      uuid = some (record { a = 0x01234567; b = 0x89ABCDEF; c = 0xFEDCBA98; d = 0x76543210 });
      timestamp = some moment;
      time = some (record { seconds = 12; nanos = 345000000 });
      counts = record { tests = 1; failures = 2; errors = 3; skipped = 4; disabled = some 5 };
      suites = full_suite ∷ [];
    }

-- ---- the table, with a case for each condition but the last: a report over the limits is too long to be computed. It isn't lost in
-- `deserialize`, which knows no limits, but in the calls: writing refuses it (16), and reading refuses a table of its events (11).
-- What a plain report may have is in Kept.antt, and the limits' border in proofs/Limits.antt
abbrev pub cases : List Case
cases =
    kept full
    ∷ lost bare_texts (one_suite none (some (bytes " o")) []) (accepted (some (one_suite none (some (bytes "o")) [])))
    ∷ lost given_descriptions (one_failure (some []) rerun) (accepted (some (one_failure none rerun)))
    -- written as 8388608.000
    ∷ lost whole_times (at (some (record { seconds = 8388607; nanos = 999999999 })) none) (refuses cause.BadTime (testsuites ∷ attribute 5 ∷ []) 1 4)
    ∷ lost whole_timestamps (at none (some (new_year 1))) (accepted (some (at none (some (new_year 0)))))
    ∷ lost distinct_on_suites
    (one_suite none none (record { key = bytes "k"; value = bytes "1" } ∷ record { key = bytes "k"; value = bytes "2" } ∷ []))
    (refuses cause.RepeatedKey (testsuites ∷ testsuite 0 nowhere ∷ []) 2 10)
    ∷ lost unescaped_on_suites
    (one_suite none none (record { key = bytes "&"; value = bytes "1" } ∷ []))
    (refuses cause.BadReference (testsuites ∷ testsuite 0 nowhere ∷ []) 2 9)
    ∷ lost others_on_suites
    (one_suite none none (record { key = bytes "disabled"; value = bytes "1" } ∷ []))
    (accepted (some (one_suite (some 1) none [])))
    ∷ lost distinct_on_cases
    (one_case none (record { key = bytes "k"; value = bytes "1" } ∷ record { key = bytes "k"; value = bytes "2" } ∷ []))
    (refuses cause.RepeatedKey (testsuites ∷ testsuite 0 2 ∷ testcase 0 nowhere ∷ []) 3 11)
    ∷ lost unescaped_on_cases
    (one_case none (record { key = bytes "&lt;"; value = bytes "1" } ∷ []))
    (accepted (some (one_case none (record { key = bytes "<"; value = bytes "1" } ∷ []))))
    ∷ lost others_on_cases
    (one_case none (record { key = bytes "classname"; value = bytes "1" } ∷ []))
    (accepted (some (one_case (some (bytes "1")) [])))
    ∷ lost ruled_status (one_failure none flaky) (accepted (some (one_failure none rerun)))
    ∷ []
