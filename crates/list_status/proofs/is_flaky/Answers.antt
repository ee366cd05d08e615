use mathlib.Core.Path.{refl}
use borrow.Author.Tests.{not-true, not-false, eq-eqb, ne_eqb}
use Rattle.list_status.proofs.is_flaky.Goals as goal

pub returns-then-not-s : goal.returns-then-not-s
returns-then-not-s c = rw (not-true c.args.s.settled c.if-not-s.true) refl

pub returns-then-s-eq0 : goal.returns-then-s-eq0
returns-then-s-eq0 c =
    let args = c.args in
    rw (not-false args.s.settled c.if-not-s.false, eq-eqb args.s.runs 0 c.if-s-eq0.true) refl

pub returns : goal.returns
returns c =
    let args = c.args in
    rw (not-false args.s.settled c.if-not-s.false, ne_eqb args.s.runs 0 c.if-s-eq0.false) refl
