use native.Mathlib.Omega.{arith}
use Rattle.fixed.proofs.Numerals.{field-most}
use Rattle.fixed.proofs.decimal_at.Goals as goal

pub overflow_cast-result : goal.overflow_cast-result
overflow_cast-result c = let h = field-most 10 c.args.most c.part_of.result.now _ c.in_ok-v.ensures in omega (arith, c.ranges.most)
