use mathlib.Core.Path.{sym, ◌∙◌}
use Rattle.names.proofs.Searching.{searching-hit, searching-more, searching-done}
use Rattle.names.proofs.code_in.Goals as goal

pub returns-then-same : goal.returns-then-same
returns-then-same c = searching-hit c.loop-k.invariant c.loop-k-test.true _ c.least-end.ensures (sym c.same.ensures ∙ c.if-same.true)

pub loop-k-preserved : goal.loop-k-preserved
loop-k-preserved c = searching-more c.loop-k.invariant c.loop-k-test.true _ c.least-end.ensures (sym c.same.ensures ∙ c.if-same.false)

pub returns : goal.returns
returns c = searching-done c.loop-k.invariant c.loop-k-test.false
