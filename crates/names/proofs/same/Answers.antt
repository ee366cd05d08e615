use Rattle.names.proofs.Comparing.{unlike-lengths, comparing-start, comparing-more, comparing_unlike, comparing-done}
use Rattle.names.proofs.same.Goals as goal

pub returns-then-a-b : goal.returns-then-a-b
returns-then-a-b c = unlike-lengths _ _ c.if-a-b.true

pub loop-i-init : goal.loop-i-init
loop-i-init c = comparing-start c.if-a-b.false

pub returns-then-a-i : goal.returns-then-a-i
returns-then-a-i c =
    let loop = c.loop-i in
    comparing_unlike loop.invariant c.loop-i-test.true c.if-a-i.true

pub loop-i-preserved : goal.loop-i-preserved
loop-i-preserved c =
    let loop = c.loop-i in
    comparing-more loop.invariant c.loop-i-test.true c.if-a-i.false

pub returns : goal.returns
returns c = comparing-done c.loop-i.invariant c.loop-i-test.false
