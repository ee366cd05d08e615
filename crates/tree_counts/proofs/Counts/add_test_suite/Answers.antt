use mathlib.Core.Path.{◌≡◌, sym, ◌∙◌}
use mathlib.Core.Bool.{true, ◌&&◌}
use native.Mathlib.Omega.{arith}
use Rattle.tree_counts.specs.Counts.{added, are_counts}
use Rattle.tree_counts.proofs.Adding.{Within, within, tested, adding-whole, refusing-whole}
use Rattle.tree_counts.proofs.Counts.add_test_suite.Goals as goal
use Rattle.tree_counts.proofs.Counts.add_test_suite.Goals.{After-is_sum-5, Then-is_sum}

-- what the five tests say together
tests-said : (c : After-is_sum-5) →
    let args = c.args in
    let is_sum = c.is_sum in
    (is_sum.result && (c.is_sum-2.result && (c.is_sum-3.result && (c.is_sum-4.result && c.is_sum-5.result))))
    ≡ are_counts (added args.self args.suite)
tests-said c =
    let args = c.args in
    let disabled-of = c.disabled_of-own in
    let disabled-of2 = c.disabled_of-more in
    let is_sum = c.is_sum in
    tested
    args.self
    args.suite
    disabled-of.ensures
    disabled-of2.ensures
    is_sum.ensures
    c.is_sum-2.ensures
    c.is_sum-3.ensures
    c.is_sum-4.ensures
    c.is_sum-5.ensures

sum_fits : (c : Then-is_sum) →
    let args = c.args in
    are_counts (added args.self args.suite) ≡ true
sum_fits c = sym (tests-said c.before) ∙ c.if-is_sum.true

all-within : (c : Then-is_sum) →
    let args = c.args in
    Within (added args.self args.suite)
all-within c =
    let args = c.args in
    within (added args.self args.suite) (sum_fits c)

pub overflow_add-result : goal.overflow_add-result
overflow_add-result c = omega (arith, (all-within (goal.at.overflow_add-result c).Then-is_sum).tests)

pub overflow_add-result-then-is_sum : goal.overflow_add-result-then-is_sum
overflow_add-result-then-is_sum c =
    let at-then1 = c in
    omega (arith, (all-within (goal.at.overflow_add-result-then-is_sum c).Then-is_sum).failures)

pub overflow_add-result-then-is_sum-2 : goal.overflow_add-result-then-is_sum-2
overflow_add-result-then-is_sum-2 c =
    let at-then1 = c in
    omega (arith, (all-within (goal.at.overflow_add-result-then-is_sum-2 c).Then-is_sum).errors)

pub overflow_add-result-then-is_sum-3 : goal.overflow_add-result-then-is_sum-3
overflow_add-result-then-is_sum-3 c =
    let at-then1 = c in
    omega (arith, (all-within (goal.at.overflow_add-result-then-is_sum-3 c).Then-is_sum).skipped)

pub overflow_add-result-then-is_sum-4 : goal.overflow_add-result-then-is_sum-4
overflow_add-result-then-is_sum-4 c =
    let disabled-of = c.disabled_of-own in
    let disabled-of2 = c.disabled_of-more in
    let at-then1 = c in
    omega (arith, (all-within (goal.at.overflow_add-result-then-is_sum-4 c).Then-is_sum).disabled, disabled-of.ensures, disabled-of2.ensures)

pub returns-then-is_sum : goal.returns-then-is_sum
returns-then-is_sum c =
    let at-disabled-of = c in
    let args = at-disabled-of.args in
    let disabled-of2 = c.disabled_of-more in
    let at-then1 = c in
    let self = args.self in
    let suite = args.suite in
    adding-whole self suite (sum_fits (goal.at.returns-then-is_sum c).Then-is_sum) (rw (at-disabled-of.disabled_of-own.ensures, disabled-of2.ensures)) c.no_refusal.ensures

pub returns : goal.returns
returns c =
    let args = c.args in
    refusing-whole args.self args.suite (sym (tests-said (goal.at.returns c).After-is_sum-5) ∙ c.if-is_sum.false) c.refuse_late.ensures
