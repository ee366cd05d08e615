use native.Mathlib.Omega.{arith}
use Rattle.days.proofs.Lengths.{year-most}
use Rattle.print_days.proofs.main.Goals as goal

pub overflow_add-days : goal.overflow_add-days
overflow_add-days c = omega (arith, c.loop-year.invariant, c.year_days-days.ensures, year-most c.loop-year.year)

pub loop-year-preserved : goal.loop-year-preserved
loop-year-preserved c = omega (arith, c.loop-year.invariant, c.year_days-days.ensures, year-most c.loop-year.year)
