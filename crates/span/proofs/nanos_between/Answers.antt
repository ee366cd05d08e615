use mathlib.Core.Path.{refl}
use borrow.Author.Tests.{lt-ltb, le-ltb}
use Rattle.span.proofs.nanos_between.Goals as goal

pub returns-then-b-a : goal.returns-then-b-a
returns-then-b-a c =
    let args-step = c.args in
    rw (lt-ltb args-step.b.nanos args-step.a.nanos c.if-b-a.true) c.nanos_under.ensures

pub returns : goal.returns
returns c = let args = c.args in rw (le-ltb args.b.nanos args.a.nanos c.if-b-a.false) refl
