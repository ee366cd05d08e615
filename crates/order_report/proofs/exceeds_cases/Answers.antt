use Rattle.order_report.proofs.Sums.{left-exceeds}
use Rattle.order_report.specs.Rehearsal.{stated}
use borrow.Author.Tests.{lt-ltb}
use native.Mathlib.Omega.{arith}
use mathlib.Core.Path.{sym}
use Rattle.order_report.proofs.exceeds_cases.Goals as goal

pub returns-then-o : goal.returns-then-o
returns-then-o c =
    let o = c.args.o in
    sym (lt-ltb o.cases (stated o) (omega (arith, c.if-o.true)))

pub returns-then-a-o : goal.returns-then-a-o
returns-then-a-o c =
    let o = c.args.o in
    sym (lt-ltb o.cases (stated o) (omega (arith, c.if-o.false, c.if-a-o.true)))

pub returns-then-b-o : goal.returns-then-b-o
returns-then-b-o c =
    let if1 = c.if-o in
    let o = c.args.o in
    sym (lt-ltb o.cases (stated o) (omega (arith, if1.false, c.if-a-o.false, c.if-b-o.true)))

pub returns : goal.returns
returns c =
    let if1 = c.if-o in
    let if2 = c.if-a-o in
    let o = c.args.o in
    left-exceeds o.cases o.failures o.errors o.skipped o.flaky if1.false
    if2.false c.if-b-o.false
