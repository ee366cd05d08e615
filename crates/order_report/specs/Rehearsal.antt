-- The report that an order gives (rules O3 to O6). Definitions only.
use Rattle.std.specs.Prelude.{ℕ, ◌+◌, ◌-◌, List, [], ◌∷◌, ◌++◌, replicate}
use Rattle.std.proofs.Math.Option.{none, some}
use Rattle.write_answer.specs.of_names.Bytes.{bytes}
use Rattle.write_answer.specs.of_digits.Digits.{decimal}
use Rattle.write_answer.specs.of_tree_report.Report.{Text, Counts, failure, error, rerun, TestRerun, Reason, TestCaseStatus, success, non_success, skipped, TestCase, TestSuite, Report}
use Rattle.order_report.specs.declared.Order.{Order}
use Rattle.order_report.specs.declared.Kind.{Kind}
use Rattle.order_report.specs.declared.Kind.TheVariants as kind

abbrev pub order_of : (cases failures errors skipped flaky : ℕ) → Order
order_of c f e s k = record { cases = c; failures = f; errors = e; skipped = s; flaky = k }

-- the four kinds that are stated, together
abbrev pub stated : Order → ℕ
stated o = o.failures + o.errors + o.skipped + o.flaky

-- ---- the status of a case of each kind
abbrev pub no_reason : Reason
no_reason = record { message = none; type = none; description = none }

-- a failed run with nothing else
abbrev pub failed_run : TestRerun
failed_run =
    record {
      kind = failure;
      timestamp = none;
      time = none;
      message = none;
      type = none;
      stack_trace = none;
      system_out = none;
      system_err = none;
      description = none;
    }

-- rule O5
abbrev pub status_of : Kind → TestCaseStatus
status_of kind.Failure = non_success failure no_reason rerun []
status_of kind.Error = non_success error no_reason rerun []
status_of kind.Skipped = skipped no_reason
status_of kind.Flaky = success (failed_run ∷ [])
status_of kind.Plain = success []

-- ---- the cases
-- `case0`, `case1`, .. (rule O4)
abbrev pub case_name : ℕ → Text
case_name i = bytes "case" ++ decimal i

abbrev pub case_of : ℕ → Kind → TestCase
case_of i k =
    record {
      name = case_name i;
      classname = none;
      assertions = none;
      timestamp = none;
      time = none;
      status = status_of k;
      system_out = none;
      system_err = none;
      extra = [];
      properties = [];
    }

-- cases of these kinds, numbered from i on
abbrev pub cases_from : ℕ → List Kind → List TestCase
cases_from i [] = []
cases_from i (k ∷ ks) = case_of i k ∷ cases_from (i + 1) ks

-- rule O4
unfoldable pub kinds_in : Order → List Kind
kinds_in o =
    replicate o.failures kind.Failure
    ++ (replicate o.errors kind.Error
    ++ (replicate o.skipped kind.Skipped
    ++ (replicate o.flaky kind.Flaky ++ replicate (o.cases - stated o) kind.Plain)))

-- ---- suite and report, both with the name and the counts (rule O3)
abbrev pub rehearsal_name : Text
rehearsal_name = bytes "rehearsal"

-- `disabled` is missing
abbrev pub counts_of : Order → Counts
counts_of o = record { tests = o.cases; failures = o.failures; errors = o.errors; skipped = o.skipped; disabled = none }

abbrev pub suite_of : Order → TestSuite
suite_of o =
    record {
      name = rehearsal_name;
      counts = counts_of o;
      timestamp = none;
      time = none;
      hostname = none;
      cases = cases_from 0 (kinds_in o);
      properties = [];
      system_out = none;
      system_err = none;
      extra = [];
    }

-- rule O3
abbrev pub rehearsal : Order → Report
rehearsal o =
    record { name = some rehearsal_name; uuid = none; timestamp = none; time = none; counts = counts_of o; suites = suite_of o ∷ [] }
