use Rattle.write_walk.proofs.Within.{flaky-alone, flaky-run}
use Rattle.list_sums.specs.inside.Rows.{records_in}
use mathlib.Core.Path.{◌∙◌}
use Rattle.write_walk.proofs.is_flaky.Goals as goal

pub returns-then-run-eq0 : goal.returns-then-run-eq0
returns-then-run-eq0 c =
    let args = c.args in
    c.has_bit.ensures ∙ flaky-alone (records_in args.words.now) args.r.now _ c.kind_of_first-run.ensures c.if-run-eq0.true

pub returns : goal.returns
returns c =
    let args = c.args in
    flaky-run (records_in args.words.now) args.r.now _ c.kind_of_first-run.ensures c.if-run-eq0.false
