use borrow.Author.Tests.{le-leb, lt-leb}
use Rattle.tree_moments.specs.of_tree_report.inside.Parts.{bits_for}
use Rattle.tree_shape.proofs.Bits.{pair-bits, main-bits, skipped-bits, run-bits}
use Rattle.tree_shape.proofs.only_other.Goals as goal

pub returns-then-k : goal.returns-then-k
unfolding bits_for
returns-then-k c = rw c.if-k.true (pair-bits c.args.r.now)

pub returns-then-k-le-ERROR : goal.returns-then-k-le-ERROR
unfolding bits_for
returns-then-k-le-ERROR c =
    let args = c.args in
    rw (c.if-k.false, le-leb _ _ c.if-k-le-ERROR.true) (main-bits args.r.now)

pub returns-then-k-le-SKIPPED : goal.returns-then-k-le-SKIPPED
unfolding bits_for
returns-then-k-le-SKIPPED c =
    let args = c.args in
    rw (c.if-k.false, lt-leb _ _ c.if-k-le-ERROR.false, le-leb _ _ c.if-k-le-SKIPPED.true) (skipped-bits args.r.now)

pub returns : goal.returns
unfolding bits_for
returns c =
    let args = c.args in
    rw (c.if-k.false, lt-leb _ _ c.if-k-le-ERROR.false, lt-leb _ _ c.if-k-le-SKIPPED.false) (run-bits args.r.now)
