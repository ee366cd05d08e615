-- report.rs, as operations on a report: what each call of a builder means. The open suite is the report's last, the open case that
-- suite's last. Texts are as they are stored. Definitions only.
use Rattle.std.specs.Prelude.{ℕ, ◌+◌, List, [], ◌∷◌, ◌++◌, Bool, true, false, cond}
use Rattle.std.proofs.Math.Option.{Option, none, some}
use Rattle.tree_placed.specs.of_names.Names.{same_bytes}
use Rattle.tree_placed.specs.of_timestamp.declared.Moment.{Moment}
use Rattle.tree_placed.specs.of_uuids.declared.Words.{Words}
use Rattle.tree_placed.specs.of_tree_record.Kinds as kind
use Rattle.build_draft.specs.of_tree_counts.declared.Outcome.{Outcome}
use Rattle.build_draft.specs.of_tree_counts.declared.Outcome.TheVariants as outcome
use Rattle.tree_placed.specs.of_tree_report.Report.{Text, Duration, Pair, Counts, NonSuccessKind, failure, error, FlakyOrRerun, flaky, rerun}
use Rattle.tree_placed.specs.of_tree_report.Report.{TestRerun, Reason, TestCaseStatus, success, non_success, skipped, TestCase, TestSuite, Report}
use Rattle.build_draft.specs.declared.Element.{Element}
use Rattle.build_draft.specs.declared.Element.TheVariants as element
use Rattle.build_draft.specs.declared.Holder.{Holder}
use Rattle.build_draft.specs.declared.Holder.TheVariants as holder
use Rattle.build_draft.specs.declared.TextField.{TextField}
use Rattle.build_draft.specs.declared.TextField.TheVariants as field
use Rattle.build_draft.specs.declared.NumberField.{NumberField}
use Rattle.build_draft.specs.declared.NumberField.TheVariants as number
use Rattle.build_draft.specs.declared.NonSuccessKind.{NonSuccessKind as KindOfRun}
use Rattle.build_draft.specs.declared.NonSuccessKind.TheVariants as kinds
use Rattle.build_draft.specs.declared.FlakyOrRerun.{FlakyOrRerun as Family}
use Rattle.build_draft.specs.declared.FlakyOrRerun.TheVariants as families

-- the list with its last element changed
abbrev pub on_last : {A : Type 0} → (A → A) → List A → List A
on_last f [] = []
on_last f (x ∷ []) = f x ∷ []
on_last f (x ∷ (y ∷ ys)) = x ∷ on_last f (y ∷ ys)

abbrev pub last_in : {A : Type 0} → List A → Option A
last_in [] = none
last_in (x ∷ []) = some x
last_in (x ∷ (y ∷ ys)) = last_in (y ∷ ys)

-- ---- new values
abbrev pub no_counts : Counts
no_counts = record { tests = 0; failures = 0; errors = 0; skipped = 0; disabled = none }

-- `Report::unnamed`, `Report::new` (rule B1)
abbrev pub report_named : Option Text → Report
report_named name = record { name = name; uuid = none; timestamp = none; time = none; counts = no_counts; suites = [] }

-- `TestSuite::new`
abbrev pub new_suite : Text → TestSuite
new_suite name = record { name = name; counts = no_counts; timestamp = none; time = none; hostname = none; cases = []; properties = []; system_out = none; system_err = none; extra = [] }

abbrev pub no_reason : Reason
no_reason = record { message = none; type = none; description = none }

-- `TestCaseStatus::success`, `non_success`, `skipped`
abbrev pub new_status : Outcome → TestCaseStatus
new_status outcome.Success = success []
new_status outcome.Failure = non_success failure no_reason rerun []
new_status outcome.Error = non_success error no_reason rerun []
new_status outcome.Skipped = skipped no_reason

-- `TestCase::new`
abbrev pub new_case : Text → Outcome → TestCase
new_case name o = record { name = name; classname = none; assertions = none; timestamp = none; time = none; status = new_status o; system_out = none; system_err = none; extra = []; properties = [] }

abbrev pub kind_for : KindOfRun → NonSuccessKind
kind_for kinds.Failure = failure
kind_for kinds.Error = error

abbrev pub family_for : Family → FlakyOrRerun
family_for families.Flaky = flaky
family_for families.Rerun = rerun

-- `TestRerun::new`
abbrev pub new_run : KindOfRun → TestRerun
new_run k = record { kind = kind_for k; timestamp = none; time = none; message = none; type = none; stack_trace = none; system_out = none; system_err = none; description = none }

-- ---- parts of a report changed
abbrev pub with_suites : Report → List TestSuite → Report
with_suites r ss = record { name = r.name; uuid = r.uuid; timestamp = r.timestamp; time = r.time; counts = r.counts; suites = ss }

abbrev pub with_sums : Report → Counts → Report
with_sums r c = record { name = r.name; uuid = r.uuid; timestamp = r.timestamp; time = r.time; counts = c; suites = r.suites }

abbrev pub on_suite : (TestSuite → TestSuite) → Report → Report
on_suite f r = with_suites r (on_last f r.suites)

abbrev pub with_cases : TestSuite → Counts → List TestCase → TestSuite
with_cases s c cs =
    record {
      name = s.name;
      counts = c;
      timestamp = s.timestamp;
      time = s.time;
      hostname = s.hostname;
      cases = cs;
      properties = s.properties;
      system_out = s.system_out;
      system_err = s.system_err;
      extra = s.extra;
    }

abbrev pub on_case : (TestCase → TestCase) → Report → Report
on_case f r = on_suite (λ s. with_cases s s.counts (on_last f s.cases)) r

abbrev pub with_status : TestCase → TestCaseStatus → TestCase
with_status c s =
    record {
      name = c.name;
      classname = c.classname;
      assertions = c.assertions;
      timestamp = c.timestamp;
      time = c.time;
      status = s;
      system_out = c.system_out;
      system_err = c.system_err;
      extra = c.extra;
      properties = c.properties;
    }

abbrev pub on_status : (TestCaseStatus → TestCaseStatus) → Report → Report
on_status f r = on_case (λ c. with_status c (f c.status)) r

-- ---- suites and cases
-- there if either is (rule C2)
abbrev pub sum_disabled : Option ℕ → Option ℕ → Option ℕ
sum_disabled a none = a
sum_disabled none (some n) = some n
sum_disabled (some m) (some n) = some (m + n)

abbrev pub sum : Counts → Counts → Counts
sum a b =
    record {
      tests = a.tests + b.tests;
      failures = a.failures + b.failures;
      errors = a.errors + b.errors;
      skipped = a.skipped + b.skipped;
      disabled = sum_disabled a.disabled b.disabled;
    }

-- the sums of `Report::add_test_suite`, for the open suite
abbrev pub summed_with : Option TestSuite → Report → Report
summed_with none r = r
summed_with (some s) r = with_sums r (sum r.counts s.counts)

abbrev pub summed : Report → Report
summed r = summed_with (last_in r.suites) r

-- the open suite is added to the sums, and a new one is open
abbrev pub add_test_suite : Text → Report → Report
add_test_suite name r = let q = summed r in with_suites q (q.suites ++ (new_suite name ∷ []))

-- `TestSuite::add_test_case`
abbrev pub one_more_of : Outcome → Counts
one_more_of outcome.Success = record { tests = 1; failures = 0; errors = 0; skipped = 0; disabled = none }
one_more_of outcome.Failure = record { tests = 1; failures = 1; errors = 0; skipped = 0; disabled = none }
one_more_of outcome.Error = record { tests = 1; failures = 0; errors = 1; skipped = 0; disabled = none }
one_more_of outcome.Skipped = record { tests = 1; failures = 0; errors = 0; skipped = 1; disabled = none }

abbrev pub add_test_case : Text → Outcome → Report → Report
add_test_case name o r = on_suite (λ s. with_cases s (sum s.counts (one_more_of o)) (s.cases ++ (new_case name o ∷ []))) r

-- ---- runs
-- `TestCaseStatus::add_rerun`
abbrev pub with_run : TestRerun → TestCaseStatus → TestCaseStatus
with_run e (success runs) = success (runs ++ (e ∷ []))
with_run e (non_success k m f runs) = non_success k m f (runs ++ (e ∷ []))
with_run e (skipped m) = skipped m

abbrev pub add_rerun : KindOfRun → Report → Report
add_rerun k r = on_status (with_run (new_run k)) r

-- `TestCaseStatus::set_rerun_kind`
abbrev pub with_family : FlakyOrRerun → TestCaseStatus → TestCaseStatus
with_family f (success runs) = success runs
with_family f (non_success k m g runs) = non_success k m f runs
with_family f (skipped m) = skipped m

abbrev pub set_rerun_kind : Family → Report → Report
set_rerun_kind f r = on_status (with_family (family_for f)) r

-- ---- properties and extras
abbrev pub suite_pairs : List Pair → List Pair → TestSuite → TestSuite
suite_pairs extra properties s =
    record {
      name = s.name;
      counts = s.counts;
      timestamp = s.timestamp;
      time = s.time;
      hostname = s.hostname;
      cases = s.cases;
      properties = properties;
      system_out = s.system_out;
      system_err = s.system_err;
      extra = extra;
    }

abbrev pub case_pairs : List Pair → List Pair → TestCase → TestCase
case_pairs extra properties c =
    record {
      name = c.name;
      classname = c.classname;
      assertions = c.assertions;
      timestamp = c.timestamp;
      time = c.time;
      status = c.status;
      system_out = c.system_out;
      system_err = c.system_err;
      extra = extra;
      properties = properties;
    }

-- `add_property`
abbrev pub add_property : Holder → Pair → Report → Report
add_property holder.Suite p r = on_suite (λ s. suite_pairs s.extra (s.properties ++ (p ∷ [])) s) r
add_property holder.Case p r = on_case (λ c. case_pairs c.extra (c.properties ++ (p ∷ [])) c) r

-- `IndexMap::insert` (rule B7)
abbrev pub insert : Pair → List Pair → List Pair
insert p [] = p ∷ []
insert p (q ∷ qs) = cond (same_bytes q.key p.key) (record { key = q.key; value = p.value } ∷ qs) (q ∷ insert p qs)

abbrev pub add_extra : Holder → Pair → Report → Report
add_extra holder.Suite p r = on_suite (λ s. suite_pairs (insert p s.extra) s.properties s) r
add_extra holder.Case p r = on_case (λ c. case_pairs (insert p c.extra) c.properties c) r

-- ---- setters
-- what a setter is for: an element of the report, or none
pub data Target : Type 0 where
  report suite case main run nothing : Target

abbrev pub runs_in : TestCaseStatus → List TestRerun
runs_in (success runs) = runs
runs_in (non_success k m f runs) = runs
runs_in (skipped m) = []

-- whether the case has a failure, error or skipped
abbrev pub has_main : TestCaseStatus → Bool
has_main (success runs) = false
has_main (non_success k m f runs) = true
has_main (skipped m) = true

abbrev pub is_empty : {A : Type 0} → List A → Bool
is_empty [] = true
is_empty (x ∷ xs) = false

-- the last record of a case, and of a suite without cases: an extra or property has no setter
abbrev pub last_of_case : TestCase → Target
last_of_case c =
    cond (is_empty (runs_in c.status)) (cond (has_main c.status) main (cond (is_empty c.properties) (cond (is_empty c.extra) case nothing) nothing)) run

abbrev pub last_of_pairs : TestSuite → Target
last_of_pairs s = cond (is_empty s.properties) (cond (is_empty s.extra) suite nothing) nothing

abbrev pub last_of_suite : TestSuite → Option TestCase → Target
last_of_suite s none = last_of_pairs s
last_of_suite s (some c) = last_of_case c

-- the element at hand
abbrev pub suite_target : Option TestSuite → Target
suite_target none = nothing
suite_target (some s) = suite

abbrev pub open_case : Option TestSuite → Option TestCase
open_case none = none
open_case (some s) = last_in s.cases

abbrev pub case_target : Option TestCase → Target
case_target none = nothing
case_target (some c) = case

abbrev pub main_target : Option TestCase → Target
main_target none = nothing
main_target (some c) = cond (has_main c.status) main nothing

abbrev pub last_target : Option TestSuite → Target
last_target none = report
last_target (some s) = last_of_suite s (last_in s.cases)

abbrev pub target_of : Element → Report → Target
target_of element.Report r = report
target_of element.Suite r = suite_target (last_in r.suites)
target_of element.Case r = case_target (open_case (last_in r.suites))
target_of element.Status r = main_target (open_case (last_in r.suites))
target_of element.Last r = last_target (last_in r.suites)

-- the kind of its record; a failure stands for all mains, a flaky failure for all runs, a suite's property for what has no setter
abbrev pub kind_of_target : Target → ℕ
kind_of_target report = kind.report
kind_of_target suite = kind.suite
kind_of_target case = kind.case
kind_of_target main = kind.failure
kind_of_target run = kind.flaky_failure
kind_of_target nothing = kind.suite_property

-- ---- texts
-- of a suite
abbrev pub suite_text : TextField → Text → TestSuite → TestSuite
suite_text field.Classname t s = s
suite_text field.Message t s = s
suite_text field.Ty t s = s
suite_text field.Description t s = s
suite_text field.StackTrace t s = s
suite_text field.SystemOut t s = record {
  name = s.name;
  counts = s.counts;
  timestamp = s.timestamp;
  time = s.time;
  hostname = s.hostname;
  cases = s.cases;
  properties = s.properties;
  system_out = some t;
  system_err = s.system_err;
  extra = s.extra;
}
suite_text field.SystemErr t s = record {
  name = s.name;
  counts = s.counts;
  timestamp = s.timestamp;
  time = s.time;
  hostname = s.hostname;
  cases = s.cases;
  properties = s.properties;
  system_out = s.system_out;
  system_err = some t;
  extra = s.extra;
}
suite_text field.Hostname t s = record {
  name = s.name;
  counts = s.counts;
  timestamp = s.timestamp;
  time = s.time;
  hostname = some t;
  cases = s.cases;
  properties = s.properties;
  system_out = s.system_out;
  system_err = s.system_err;
  extra = s.extra;
}

-- of a case
abbrev pub case_text : TextField → Text → TestCase → TestCase
case_text field.Classname t c = record {
  name = c.name;
  classname = some t;
  assertions = c.assertions;
  timestamp = c.timestamp;
  time = c.time;
  status = c.status;
  system_out = c.system_out;
  system_err = c.system_err;
  extra = c.extra;
  properties = c.properties;
}
case_text field.Message t c = c
case_text field.Ty t c = c
case_text field.Description t c = c
case_text field.StackTrace t c = c
case_text field.SystemOut t c = record {
  name = c.name;
  classname = c.classname;
  assertions = c.assertions;
  timestamp = c.timestamp;
  time = c.time;
  status = c.status;
  system_out = some t;
  system_err = c.system_err;
  extra = c.extra;
  properties = c.properties;
}
case_text field.SystemErr t c = record {
  name = c.name;
  classname = c.classname;
  assertions = c.assertions;
  timestamp = c.timestamp;
  time = c.time;
  status = c.status;
  system_out = c.system_out;
  system_err = some t;
  extra = c.extra;
  properties = c.properties;
}
case_text field.Hostname t c = c

-- of a failure, error or skipped
abbrev pub reason_text : TextField → Text → Reason → Reason
reason_text field.Classname t m = m
reason_text field.Message t m = record { message = some t; type = m.type; description = m.description }
reason_text field.Ty t m = record { message = m.message; type = some t; description = m.description }
reason_text field.Description t m = record { message = m.message; type = m.type; description = some t }
reason_text field.StackTrace t m = m
reason_text field.SystemOut t m = m
reason_text field.SystemErr t m = m
reason_text field.Hostname t m = m

-- of a run
abbrev pub run_text : TextField → Text → TestRerun → TestRerun
run_text field.Classname t e = e
run_text field.Message t e = record {
  kind = e.kind;
  timestamp = e.timestamp;
  time = e.time;
  message = some t;
  type = e.type;
  stack_trace = e.stack_trace;
  system_out = e.system_out;
  system_err = e.system_err;
  description = e.description;
}
run_text field.Ty t e = record {
  kind = e.kind;
  timestamp = e.timestamp;
  time = e.time;
  message = e.message;
  type = some t;
  stack_trace = e.stack_trace;
  system_out = e.system_out;
  system_err = e.system_err;
  description = e.description;
}
run_text field.Description t e = record {
  kind = e.kind;
  timestamp = e.timestamp;
  time = e.time;
  message = e.message;
  type = e.type;
  stack_trace = e.stack_trace;
  system_out = e.system_out;
  system_err = e.system_err;
  description = some t;
}
run_text field.StackTrace t e = record {
  kind = e.kind;
  timestamp = e.timestamp;
  time = e.time;
  message = e.message;
  type = e.type;
  stack_trace = some t;
  system_out = e.system_out;
  system_err = e.system_err;
  description = e.description;
}
run_text field.SystemOut t e = record {
  kind = e.kind;
  timestamp = e.timestamp;
  time = e.time;
  message = e.message;
  type = e.type;
  stack_trace = e.stack_trace;
  system_out = some t;
  system_err = e.system_err;
  description = e.description;
}
run_text field.SystemErr t e = record {
  kind = e.kind;
  timestamp = e.timestamp;
  time = e.time;
  message = e.message;
  type = e.type;
  stack_trace = e.stack_trace;
  system_out = e.system_out;
  system_err = some t;
  description = e.description;
}
run_text field.Hostname t e = e

abbrev pub on_reason : (Reason → Reason) → TestCaseStatus → TestCaseStatus
on_reason f (success runs) = success runs
on_reason f (non_success k m g runs) = non_success k (f m) g runs
on_reason f (skipped m) = skipped (f m)

abbrev pub on_run : (TestRerun → TestRerun) → TestCaseStatus → TestCaseStatus
on_run f (success runs) = success (on_last f runs)
on_run f (non_success k m g runs) = non_success k m g (on_last f runs)
on_run f (skipped m) = skipped m

abbrev pub set_text : Target → TextField → Text → Report → Report
set_text report f t r = r
set_text suite f t r = on_suite (suite_text f t) r
set_text case f t r = on_case (case_text f t) r
set_text main f t r = on_status (on_reason (reason_text f t)) r
set_text run f t r = on_status (on_run (run_text f t)) r
set_text nothing f t r = r

-- ---- timestamps, times, the UUID, numbers
abbrev pub set_timestamp : Target → Moment → Report → Report
set_timestamp report m r = record { name = r.name; uuid = r.uuid; timestamp = some m; time = r.time; counts = r.counts; suites = r.suites }
set_timestamp suite m r = on_suite (λ s. record {
  name = s.name;
  counts = s.counts;
  timestamp = some m;
  time = s.time;
  hostname = s.hostname;
  cases = s.cases;
  properties = s.properties;
  system_out = s.system_out;
  system_err = s.system_err;
  extra = s.extra;
}) r
set_timestamp case m r = on_case (λ c. record {
  name = c.name;
  classname = c.classname;
  assertions = c.assertions;
  timestamp = some m;
  time = c.time;
  status = c.status;
  system_out = c.system_out;
  system_err = c.system_err;
  extra = c.extra;
  properties = c.properties;
}) r
set_timestamp run m r = on_status (on_run (λ e. record {
  kind = e.kind;
  timestamp = some m;
  time = e.time;
  message = e.message;
  type = e.type;
  stack_trace = e.stack_trace;
  system_out = e.system_out;
  system_err = e.system_err;
  description = e.description;
})) r
set_timestamp main m r = r
set_timestamp nothing m r = r

abbrev pub set_time : Target → Duration → Report → Report
set_time report d r = record { name = r.name; uuid = r.uuid; timestamp = r.timestamp; time = some d; counts = r.counts; suites = r.suites }
set_time suite d r = on_suite (λ s. record {
  name = s.name;
  counts = s.counts;
  timestamp = s.timestamp;
  time = some d;
  hostname = s.hostname;
  cases = s.cases;
  properties = s.properties;
  system_out = s.system_out;
  system_err = s.system_err;
  extra = s.extra;
}) r
set_time case d r = on_case (λ c. record {
  name = c.name;
  classname = c.classname;
  assertions = c.assertions;
  timestamp = c.timestamp;
  time = some d;
  status = c.status;
  system_out = c.system_out;
  system_err = c.system_err;
  extra = c.extra;
  properties = c.properties;
}) r
set_time run d r = on_status (on_run (λ e. record {
  kind = e.kind;
  timestamp = e.timestamp;
  time = some d;
  message = e.message;
  type = e.type;
  stack_trace = e.stack_trace;
  system_out = e.system_out;
  system_err = e.system_err;
  description = e.description;
})) r
set_time main d r = r
set_time nothing d r = r

abbrev pub set_uuid : Words → Report → Report
set_uuid w r = record { name = r.name; uuid = some w; timestamp = r.timestamp; time = r.time; counts = r.counts; suites = r.suites }

abbrev pub with_disabled : ℕ → Counts → Counts
with_disabled n c = record { tests = c.tests; failures = c.failures; errors = c.errors; skipped = c.skipped; disabled = some n }

abbrev pub set_number : NumberField → ℕ → Report → Report
set_number number.Assertions n r = on_case (λ c. record {
  name = c.name;
  classname = c.classname;
  assertions = some n;
  timestamp = c.timestamp;
  time = c.time;
  status = c.status;
  system_out = c.system_out;
  system_err = c.system_err;
  extra = c.extra;
  properties = c.properties;
}) r
set_number number.Disabled n r = on_suite (λ s. with_cases s (with_disabled n s.counts) s.cases) r
