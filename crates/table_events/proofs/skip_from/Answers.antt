use Rattle.table_events.proofs.Turns.{skipping-eof, skipping-fault, skipping-ends, skipping-more, skipping-done}
use Rattle.table_events.proofs.skip_from.Goals as goal

pub returns-then-kind-eq-EOF : goal.returns-then-kind-eq-EOF
returns-then-kind-eq-EOF c = skipping-eof c.loop-i.invariant _ c.kind_at-kind.ensures c.if-kind-eq-EOF.true

pub returns-then-kind-eq-FAULT : goal.returns-then-kind-eq-FAULT
returns-then-kind-eq-FAULT c = skipping-fault c.loop-i.invariant _ c.kind_at-kind.ensures c.if-kind-eq-EOF.false c.if-kind-eq-FAULT.true

pub returns-then-own-kind : goal.returns-then-own-kind
returns-then-own-kind c =
    let kind-at = c.kind_at-kind in
    skipping-ends c.loop-i.invariant _ kind-at.ensures c.if-kind-eq-EOF.false _ c.bytes_at.ensures _ c.same-own.ensures c.if-own-kind.true

pub loop-i-preserved : goal.loop-i-preserved
loop-i-preserved c =
    let kind-at = c.kind_at-kind in
    skipping-more c.loop-i.invariant _ kind-at.ensures c.if-kind-eq-EOF.false _ c.bytes_at.ensures
    _ c.same-own.ensures c.if-kind-eq-FAULT.false c.if-own-kind.false _ c.depth_after-depth.ensures

pub returns : goal.returns
returns c = skipping-done c.loop-i.invariant c.loop-i-test.false
