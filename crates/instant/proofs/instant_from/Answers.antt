use mathlib.Core.Path.{refl}
use native.Mathlib.Omega.{arith}
use Rattle.instant.specs.inside.Lent.{instant_from}
use Rattle.instant.proofs.Months.{month-most}
use Rattle.instant.proofs.instant_from.Goals as goal

pub overflow_add-day : goal.overflow_add-day
overflow_add-day c =
    let m = c.args.m in
    omega (arith, month-most m.year m.month, c.days_before_month.ensures, c.less.ensures)

pub overflow_add-day-2 : goal.overflow_add-day-2
overflow_add-day-2 c =
    let start = c in
    let m = start.args.m in
    omega (arith, start.requires, month-most m.year m.month, c.days_before_month.ensures, c.less.ensures)

pub overflow_mul-result : goal.overflow_mul-result
overflow_mul-result c =
    let start = c in
    let m = start.args.m in
    omega (arith, start.requires, month-most m.year m.month, c.days_before_month.ensures, c.less.ensures)

pub overflow_add-result : goal.overflow_add-result
overflow_add-result c =
    let start = c in
    let m = start.args.m in
    omega (arith, start.requires, month-most m.year m.month, c.days_before_month.ensures, c.less.ensures, c.clock_of.ensures)

pub overflow_add-result-2 : goal.overflow_add-result-2
overflow_add-result-2 c =
    let start = c in
    let m = start.args.m in
    let month = c.days_before_month in
    omega (
      arith,
      start.requires,
      month-most m.year m.month,
      month.ensures,
      c.less.ensures,
      c.clock_of.ensures,
      c.less-2.ensures,
    )

pub returns : goal.returns
unfolding instant_from
returns c =
    let month = c.days_before_month in
    rw (month.ensures, c.less.ensures, c.clock_of.ensures, c.less-2.ensures) refl
