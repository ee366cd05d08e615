use Prim.Native.Nat.{◌<◌}
use mathlib.Core.Path.{sym}
use native.Mathlib.Nat.{div-lt_iff_lt-mul}
use native.Mathlib.Omega.{arith}
use Rattle.digits.proofs.Numbers.{number-empty, number-not, reading-done, reading-other, reading-large}
use Rattle.digits.proofs.number_in.Goals as goal

pub returns-then-is_empty : goal.returns-then-is_empty
returns-then-is_empty c = sym (number-not _ _ _ (number-empty _ _ c.args.s.now (grind arith)))

pub returns-then-base-d : goal.returns-then-base-d
returns-then-base-d c = reading-other c.loop-b.invariant _ c.loop-b-test.true c.digit_of-d.ensures c.if-base-d.true

pub returns-then-most-d : goal.returns-then-most-d
returns-then-most-d c = reading-large c.loop-b.invariant _ c.loop-b-test.true c.digit_of-d.ensures (omega arith) (omega arith)

pub returns-then-most-d-2 : goal.returns-then-most-d-2
returns-then-most-d-2 c =
    let p : 0 < c.args.base = omega arith in
    let k = (div-lt_iff_lt-mul p).0 c.if-most-d-2.true in
    reading-large c.loop-b.invariant _ c.loop-b-test.true c.digit_of-d.ensures p (omega arith)

pub returns : goal.returns
returns c = reading-done c.loop-b.invariant c.loop-b-test.false (grind arith)
