use Rattle.std.proofs.lemmas.Result.{err_from_is_err_and}
use mathlib.Core.Path.{sym, ◌∙◌}
use native.Mathlib.Omega.{arith}
use Rattle.table.proofs.Walking.{walking_start, walking-more, walking-hit, walking-done, table-sized, table-missized}
use Rattle.table.proofs.Scanning.{bad-end}
use Rattle.table.proofs.ValidTables.{sizes-valid}
use Rattle.table.proofs.check_table.Goals as goal

pub returns-then-not-is_sized : goal.returns-then-not-is_sized
returns-then-not-is_sized c = table-missized _ _ _ (sym c.is_sized.ensures ∙ c.if-not-is_sized.true)

pub loop-i-init : goal.loop-i-init
loop-i-init c = (walking_start _ _ _ _, bad-end _ _ 0)

pub check_event-requires-clause-i_in_bounds : goal.check_event-requires-clause-i_in_bounds
check_event-requires-clause-i_in_bounds c = let v = sizes-valid _ _ _ (sym c.is_sized.ensures ∙ c.if-not-is_sized.false) in omega arith

pub returns-in_err-known : goal.returns-in_err-known
returns-in_err-known c =
    let p = err_from_is_err_and c.from_residual.result c.from_residual.ensures.1 in
    rw (p.1, p.2) (table-sized _ _ _ (sym c.is_sized.ensures ∙ c.if-not-is_sized.false) _ (walking-hit c.loop-i.invariant.0 c.loop-i-test.true _ c.in_err-known.ensures))

pub loop-i-preserved : goal.loop-i-preserved
loop-i-preserved c = let e = c.in_ok-known.ensures in (walking-more c.loop-i.invariant.0 c.loop-i-test.true e.0, e.1)

pub returns : goal.returns
returns c = table-sized _ _ _ (sym c.is_sized.ensures ∙ c.if-not-is_sized.false) _ (walking-done c.loop-i.invariant.0 c.loop-i-test.false)
