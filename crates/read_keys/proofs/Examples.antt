-- Roles by the record's kind and the key, by computing. Assumes nothing.
use mathlib.Core.Bool.{true, false}
use mathlib.Core.Path.{◌≡◌, refl}
use Rattle.schema.specs.of_names.Keys as key
use Rattle.schema.specs.of_tree_record.Kinds as kind
use Rattle.read_keys.specs.declared.Role.TheVariants.{Text, Count, Number, Time, Extra, Ignored}
use Rattle.read_keys.specs.Roles.{role_in, report_role, suite_role, case_role, property_role, status_role, role_of}

suite-failures : role_of kind.suite key.failures ≡ Count 20
unfolding role_in suite_role role_of
suite-failures = refl

suite-errors : role_of kind.suite key.errors ≡ Count 22
unfolding role_in suite_role role_of
suite-errors = refl

case-assertions : role_of kind.case key.assertions ≡ Number 20 6
unfolding role_in case_role role_of
case-assertions = refl

property-value : role_of kind.case_property key.value ≡ Text 4 1
unfolding role_in property_role role_of
property-value = refl

-- a suite's own key, and an extra's on a case
suite-hostname : role_of kind.suite key.hostname ≡ Text 28 10
unfolding role_in suite_role role_of
suite-hostname = refl

case-hostname : role_of kind.case key.hostname ≡ Extra
unfolding role_in case_role role_of
case-hostname = refl

report-hostname : role_of kind.report key.hostname ≡ Ignored
unfolding role_in report_role role_of
report-hostname = refl

-- a key that reading doesn't know
report-other : role_of kind.report 0 ≡ Ignored
unfolding role_in report_role role_of
report-other = refl

suite-other : role_of kind.suite 0 ≡ Extra
unfolding role_in suite_role role_of
suite-other = refl

-- a main's time isn't kept (rule S12)
main-time : role_of kind.skipped key.time ≡ Time false
unfolding role_in status_role role_of
main-time = refl

run-time : role_of kind.flaky_failure key.time ≡ Time true
unfolding role_in status_role role_of
run-time = refl
