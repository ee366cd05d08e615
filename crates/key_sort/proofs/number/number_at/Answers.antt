use Rattle.key_sort.proofs.Numbers.{length-numbers, number-at}
use borrow.Author.Rules.{rules}
use native.Mathlib.Omega.{arith}
use Rattle.key_sort.proofs.number.number_at.Goals as goal

pub overflow_add-at : goal.overflow_add-at
overflow_add-at c = omega (arith, c.requires, c.well_formed, length-numbers c.args.bytes.now)

pub bounds-bytes-at : goal.bounds-bytes-at
bounds-bytes-at c = omega (arith, c.requires, length-numbers c.args.bytes.now)

pub overflow_add-result : goal.overflow_add-result
overflow_add-result c = omega (arith, c.requires, c.well_formed, length-numbers c.args.bytes.now)

pub bounds-bytes-at-2 : goal.bounds-bytes-at-2
bounds-bytes-at-2 c = omega (arith, c.requires, length-numbers c.args.bytes.now)

pub returns : goal.returns
returns c = record { value = number-at c.args.bytes.now c.args.i c.requires; upper_bound = search rules }
