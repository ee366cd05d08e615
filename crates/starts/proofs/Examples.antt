-- Starts, computed. Assumes nothing.
use Prim.Native.Nat.{ℕ}
use mathlib.Core.Path.{◌≡◌, refl}
use mathlib.Core.Bool.{true}
use mathlib.Core.List.{List, [], ◌∷◌}
use mathlib.Core.Option.{Option, none, some}
use Rattle.tree_layout.specs.of_calendar.Calendar.{is_leap, month_length}
use Rattle.start_ends.specs.of_days.Days.{days_before}
use Rattle.start_ends.specs.of_days.Dates.{days_before_month, day_number}
use Rattle.tree_layout.specs.of_timestamp.declared.Moment.{Moment}
use Rattle.start_ends.specs.of_instant.Instant.{instant_of}
use Rattle.tree_layout.specs.of_tree_report.Report.{Counts, failure, success, TestCase, TestSuite, Report}
use Rattle.starts.specs.Starts.{nanos_to, not_found_of, starts_in, report_moments}

-- on the 2nd of January 0001
abbrev at : ℕ → ℕ → ℕ → ℕ → Moment
at hour second nanos offset = record { year = 1; month = 1; day = 2; hour = hour; minute = 0; second = second; nanos = nanos; offset = offset }

no_start : starts_in [] ≡ not_found_of
unfolding starts_in
no_start = refl

-- 10:00+01:00 and 09:00Z are one instant: at both ends the earlier in the document
tie : starts_in (at 10 0 0 1499 ∷ at 9 0 0 1439 ∷ []) ≡ record { found = true; first = at 10 0 0 1499; last = at 10 0 0 1499; seconds = 0; nanos = 0 }
unfolding starts_in nanos_to instant_of day_number days_before days_before_month month_length is_leap
tie = refl

-- a second is borrowed; the offset decides which is earlier
borrow : starts_in (at 9 2 100000000 1439 ∷ at 10 0 900000000 1499 ∷ []) ≡ record { found = true; first = at 10 0 900000000 1499; last = at 9 2 100000000 1439; seconds = 1; nanos = 200000000 }
unfolding starts_in nanos_to instant_of day_number days_before days_before_month month_length is_leap
borrow = refl

-- ---- which timestamps count
abbrev case_of : Option Moment → Option Moment → TestCase
case_of t run =
    record {
      name = [];
      classname = none;
      assertions = none;
      timestamp = t;
      time = none;
      status = success (
          record {
            kind = failure;
            timestamp = run;
            time = none;
            message = none;
            type = none;
            stack_trace = none;
            system_out = none;
            system_err = none;
            description = none;
          } ∷ []
          );
      system_out = none;
      system_err = none;
      extra = [];
      properties = [];
    }

abbrev no_counts : Counts
no_counts = record { tests = 0; failures = 0; errors = 0; skipped = 0; disabled = none }

abbrev suite_of : Option Moment → List TestCase → TestSuite
suite_of t cs =
    record { name = []; counts = no_counts; timestamp = t; time = none; hostname = none; cases = cs; properties = []; system_out = none; system_err = none; extra = [] }

abbrev report_of : Option Moment → List TestSuite → Report
report_of t ss = record { name = none; uuid = none; timestamp = t; time = none; counts = no_counts; suites = ss }

-- those of cases, suite by suite; not those of the report, of suites and of runs
counted : (a b c d : Moment) → report_moments (some (report_of (some d)
    (suite_of (some d) (case_of (some a) (some d) ∷ case_of none (some d) ∷ case_of (some b) none ∷ []) ∷ suite_of none [] ∷ suite_of none (case_of (some c) none ∷ []) ∷ [])))
    ≡ a ∷ b ∷ c ∷ []
counted a b c d = refl
