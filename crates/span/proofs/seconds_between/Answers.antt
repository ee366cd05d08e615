use mathlib.Core.Path.{sym}
use borrow.Author.Tests.{lt-ltb, le-ltb}
use Rattle.span.proofs.seconds_between.Goals as goal

pub returns-then-b-a : goal.returns-then-b-a
returns-then-b-a c =
    let less = c.less-seconds in
    let args = c.args in rw (lt-ltb args.b.nanos args.a.nanos c.if-b-a.true, sym less.ensures) c.less.ensures

pub returns : goal.returns
returns c = let args = c.args in rw (le-ltb args.b.nanos args.a.nanos c.if-b-a.false) c.less-seconds.ensures
