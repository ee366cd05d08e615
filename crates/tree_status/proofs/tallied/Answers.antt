use Rattle.tree_status.specs.Status.{tallied}
use borrow.Author.Tests.{le-leb, lt-leb}
use native.Mathlib.Numerals.{add-one}
use Rattle.tree_status.proofs.tallied.Goals as goal

pub returns-then-kind-le-SKIPPED : goal.returns-then-kind-le-SKIPPED
unfolding tallied
returns-then-kind-le-SKIPPED c = simp (add-one, le-leb _ _ c.if-kind-le-SKIPPED.true)

pub returns-then-kind-le-FLAKY_ERROR : goal.returns-then-kind-le-FLAKY_ERROR
unfolding tallied
returns-then-kind-le-FLAKY_ERROR c = simp (add-one, lt-leb _ _ c.if-kind-le-SKIPPED.false, le-leb _ _ c.if-kind-le-FLAKY_ERROR.true)

pub returns : goal.returns
unfolding tallied
returns c = simp (add-one, lt-leb _ _ c.if-kind-le-SKIPPED.false, lt-leb _ _ c.if-kind-le-FLAKY_ERROR.false)
