use Prim.Native.Nat.{◌+◌, ◌*◌, ◌≤◌}
use mathlib.Core.Path.{◌∙◌}
use native.Mathlib.Omega.{arith}
use borrow.Author.Tests.{ne_eqb}
use Rattle.clock.proofs.of_fixed.Numerals.{field-most}
use Rattle.clock.specs.of_fixed.Fields.{part}
use Rattle.fraction.proofs.of_digits.Numbers.{not-number}
use Rattle.timestamp.proofs.Leaves.{zone-utc, zone-byte, zone-length, zone-none, zone-plus, zone-minus, zone-sign}
use Rattle.timestamp.proofs.parts.zone_of.Goals as goal
use Rattle.timestamp.proofs.parts.zone_of.Goals.{In_ok-minute}

away-most : (c : In_ok-minute) → c.in_ok-hour.hour * 60 + c.in_ok-minute.minute ≤ 1439
away-most c =
    let h = field-most 10 23 (part 1 2 c.args.z.now) _ c.in_ok-hour.ensures in
    let m = field-most 10 59 (part 4 2 c.args.z.now) _ c.in_ok-minute.ensures in
    omega arith

pub returns-then-z : goal.returns-then-z
returns-then-z c = zone-utc _ c.if-z-eq1.true c.if-z.true

pub returns-then-z-eq1 : goal.returns-then-z-eq1
returns-then-z-eq1 c = zone-byte _ c.if-z-eq1.true c.if-z.false

pub returns-then-z-ne6 : goal.returns-then-z-ne6
returns-then-z-ne6 c = zone-length _ c.if-z-eq1.false c.if-z-ne6.true

pub returns-in_err-hour : goal.returns-in_err-hour
returns-in_err-hour c = c.from_residual.ensures ∙ zone-none c.args.z.now c.if-z-eq1.false 2 (not-number _ _ _ c.in_err-hour.ensures)

pub returns-in_err-minute : goal.returns-in_err-minute
returns-in_err-minute c = c.from_residual-in_err-minute.ensures ∙ zone-none c.args.z.now c.if-z-eq1.false 4 (not-number _ _ _ c.in_err-minute.ensures)

pub overflow_mul-away : goal.overflow_mul-away
overflow_mul-away c = let h = away-most (goal.at.overflow_mul-away c).In_ok-minute in omega arith

pub overflow_add-away : goal.overflow_add-away
overflow_add-away c = let h = away-most (goal.at.overflow_add-away c).In_ok-minute in omega arith

pub overflow_cast-away : goal.overflow_cast-away
overflow_cast-away c = let h = away-most (goal.at.overflow_cast-away c).In_ok-minute in omega arith

pub overflow_add-result : goal.overflow_add-result
overflow_add-result c = let h = away-most (goal.at.overflow_add-result c).In_ok-minute in omega arith

pub returns-then-z-eq43 : goal.returns-then-z-eq43
returns-then-z-eq43 c = zone-plus _ c.if-z-eq1.false c.if-z-ne6.false _ _ c.in_ok-hour.ensures c.in_ok-minute.ensures c.if-z-eq58.true c.if-z-eq43.true

pub overflow_sub-result : goal.overflow_sub-result
overflow_sub-result c = away-most (goal.at.overflow_sub-result c).In_ok-minute

pub returns-then-z-eq45 : goal.returns-then-z-eq45
returns-then-z-eq45 c =
    zone-minus _ c.if-z-eq1.false c.if-z-ne6.false _ _ c.in_ok-hour.ensures c.in_ok-minute.ensures c.if-z-eq58.true c.if-z-eq43.false c.if-z-eq45.true

pub returns-else-z-eq45 : goal.returns-else-z-eq45
returns-else-z-eq45 c = zone-sign _ c.if-z-eq1.false c.if-z-ne6.false _ _ c.in_ok-hour.ensures c.in_ok-minute.ensures c.if-z-eq43.false c.if-z-eq45.false

pub returns-else-z-eq58 : goal.returns-else-z-eq58
returns-else-z-eq58 c = zone-none c.args.z.now c.if-z-eq1.false 3 (ne_eqb _ 0x3A c.if-z-eq58.false)
