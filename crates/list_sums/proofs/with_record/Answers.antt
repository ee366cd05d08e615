use mathlib.Core.Path.{sym, ◌∙◌}
use Rattle.list_sums.proofs.Sums.{main-summed, run-summed, other-summed}
use Rattle.list_sums.proofs.with_record.Goals as goal

pub returns-then-k : goal.returns-then-k
returns-then-k c =
    let args = c.args in
    c.with_main.ensures ∙ main-summed args.s args.r.now (rw c.field-k.ensures at c.if-k.true)

pub returns-then-is_run : goal.returns-then-is_run
returns-then-is_run c =
    let args = c.args in
    let e = c.field-k.ensures in
    c.with_run.ensures
    ∙ run-summed args.s args.r.now (rw e at c.if-k.false) (rw e at (sym c.is_run.ensures ∙ c.if-is_run.true))

pub returns : goal.returns
returns c =
    let args = c.args in
    let e = c.field-k.ensures in
    other-summed args.s args.r.now (rw e at c.if-k.false) (rw e at (sym c.is_run.ensures ∙ c.if-is_run.false))
