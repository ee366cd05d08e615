use native.Mathlib.Omega.{arith}
use Rattle.read_marks.proofs.mark_range.Goals as goal

pub good_to-good-requires : goal.good_to-good-requires
good_to-good-requires c = record { first_le_end = c.requires.first_le_end; end_bound = c.requires.end_bound }

pub mark_keys-requires : goal.mark_keys-requires
mark_keys-requires c =
    let pre = c.requires in let g = c.good_to-good.ensures in
    record { first_le_end = g.lower_bound; end_bound = omega (arith, g.upper_bound, pre.end_bound); first_in_bounds = omega (arith, g.upper_bound, pre.first_in_bounds); first_in_bounds_2 = omega (arith, g.upper_bound, pre.first_in_bounds_2); marks = pre.marks }

pub returns : goal.returns
returns c = c.mark_keys.ensures
