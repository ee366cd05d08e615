-- A listing worked out by hand, computed from its events. Assumes nothing.
use Prim.Native.Nat.{ℕ}
use mathlib.Core.Path.{◌≡◌, refl}
use mathlib.Core.List.{List, [], ◌∷◌, ◌++◌, map, replicate}
use mathlib.Core.Bool.{true, false}
use mathlib.Core.Option.{none, some}
use lib.Ieee.{add, sum, div, of_int, round, units, odd, size, span, climb}
use lib.Count.{count_trailing_zeros}
use Rattle.read_report.specs.of_names.Bytes.{bytes}
use Rattle.read_report.specs.of_names.Names.{code_from, same_bytes}
use Rattle.read_report.specs.of_names.Keys.{keys}
use Rattle.read_report.specs.of_names.Tags.{tags}
use Rattle.read_report.specs.of_digits.Digits.{digit, decimal, places}
use Rattle.read_report.specs.of_integer.Integer.{unsigned}
use Rattle.list_text.specs.of_time_text.Written.{time_text, thousandths_of, float_sum}
use Rattle.list_text.specs.of_escape.Escape.{letter, listed}
use Rattle.read_report.specs.of_table.Event.{Attribute, Start, Empty, End}
use Rattle.list_text.specs.of_tree_report.Report.{Counts, failure, rerun, TestRerun, success, non_success, TestCase, TestSuite, Report}
use Rattle.read_report.specs.of_tree_status.Status.{tallied}
use Rattle.read_report.specs.of_read_state.Control.{or_skip, turn}
use Rattle.read_report.specs.of_read_rules.Rules.{outputs, at_top, at_suite, at_case, plan_at, plan_eof}
use Rattle.list_text.specs.Listing.{is_failure, rerun_kind, render, render_public, header, suite_text, case_text, run_text}
use Rattle.public_claims.specs.Agree.{is_public_key, PublicEvent, PublicTag, PublicEof}
use Rattle.public_claims.specs.inside.PublicMachine.{field_of, said, sort_of, public_act, acting, ending, public_step, public_run, nodes_read, public_report, public_text}
use Rattle.public_claims.specs.OwnStatus.{own_statuses, cases_from, own_from, move, rule, verdict}

abbrev two_tests : Counts
two_tests = record { tests = 2; failures = 0; errors = 0; skipped = 0; disabled = none }

abbrev a_run : TestRerun
a_run = record { kind = failure; timestamp = none; time = none; message = none; type = none; stack_trace = none; system_out = none; system_err = none; description = none }

abbrev case_a : TestCase
case_a =
    record {
      name = bytes "a";
      classname = none;
      assertions = none;
      timestamp = none;
      time = some (record { seconds = 0; nanos = 500000000 });
      status = success [];
      system_out = none;
      system_err = none;
      extra = [];
      properties = [];
    }

abbrev case_b : TestCase
case_b =
    record {
      name = bytes "b";
      classname = none;
      assertions = none;
      timestamp = none;
      time = none;
      status = non_success failure (record { message = some (bytes "m"); type = none; description = none }) rerun (a_run ∷ []);
      system_out = none;
      system_err = none;
      extra = [];
      properties = [];
    }

abbrev lab : TestSuite
lab =
    record {
      name = bytes "lab";
      counts = two_tests;
      timestamp = none;
      time = none;
      hostname = none;
      cases = case_a ∷ case_b ∷ [];
      properties = [];
      system_out = none;
      system_err = none;
      extra = [];
    }

abbrev worked : Report
worked = record { name = some (bytes "r"); uuid = none; timestamp = none; time = none; counts = two_tests; suites = lab ∷ [] }

-- a line and its newline
abbrev line : List ℕ → List ℕ → List ℕ
line s rest = s ++ (10 ∷ rest)

abbrev worked_text : List ℕ
worked_text =
    line (bytes "(report \"r\" 2 0 0 0 -")
    (line (bytes "(suite \"lab\" 2 0 0 0 -")
    (line (bytes "(case \"a\" - 0.500 success flaky 0)")
    (line (bytes "(case \"b\" - - failure rerun 1")
    (line (bytes "(run failure -))))") []))))

pub worked-listing : render worked ≡ worked_text
unfolding render render_public header suite_text case_text run_text letter listed decimal places time_text thousandths_of float_sum add sum div of_int round units odd size span climb count_trailing_zeros
worked-listing = refl

-- ---- the same table, through the public machine and the walk
abbrev attribute : List ℕ → List ℕ → Attribute
attribute k v = record { good = true; key = k; value = v }

abbrev table : List PublicEvent
table =
    PublicTag Start (bytes "testsuites") (attribute (bytes "name") (bytes "r") ∷ attribute (bytes "tests") (bytes "2") ∷ [])
    ∷ PublicTag Start (bytes "testsuite") (attribute (bytes "name") (bytes "lab") ∷ attribute (bytes "tests") (bytes "2") ∷ [])
    ∷ PublicTag Empty (bytes "testcase") (attribute (bytes "name") (bytes "a") ∷ attribute (bytes "time") (bytes "0.5") ∷ [])
    ∷ PublicTag Start (bytes "testcase") (attribute (bytes "name") (bytes "b") ∷ [])
    ∷ PublicTag Empty (bytes "failure") (attribute (bytes "message") [] ∷ [])
    ∷ PublicTag Empty (bytes "rerunFailure") []
    ∷ PublicTag End (bytes "testcase") []
    ∷ PublicTag End (bytes "testsuite") []
    ∷ PublicTag End (bytes "testsuites") []
    ∷ PublicEof
    ∷ []

pub worked-public : public_text table ≡ worked_text
unfolding public_text public_report nodes_read public_run public_step ending acting public_act said field_of sort_of plan_at plan_eof at_top at_suite at_case or_skip outputs turn tallied code_from same_bytes tags
    keys unsigned digit render_public header suite_text case_text run_text letter listed decimal places time_text thousandths_of float_sum add sum div of_int round units odd size span climb count_trailing_zeros
worked-public = refl

-- eleven keys are public (rule L1), the other four that reading knows aren't
pub public-keys : map is_public_key keys ≡ replicate 11 true ++ replicate 4 false
unfolding keys code_from same_bytes
public-keys = refl

-- the first case has no status element, the second a failure and a rerun
pub worked-own : own_statuses table ≡ [] ∷ (6 ∷ 11 ∷ []) ∷ []
unfolding own_statuses cases_from own_from move code_from same_bytes tags
worked-own = refl

pub worked-rule : rule (6 ∷ 11 ∷ []) ≡ some (verdict is_failure rerun_kind 1)
unfolding rule
worked-rule = refl
