use Rattle.key_sort.proofs.Numbers.{length-numbers, put-number}
use Prim.Native.Nat.{◌+◌, ◌%◌}
use lib.ListN.{length-set}
use native.Mathlib.Omega.{arith}
use Rattle.key_sort.proofs.number.put_number.Goals as goal

pub overflow_add-at : goal.overflow_add-at
overflow_add-at c = omega (arith, c.requires.i_in_bounds, c.well_formed, length-numbers c.args.bytes.now)

pub bounds-bytes-at : goal.bounds-bytes-at
bounds-bytes-at c = omega (arith, c.requires.i_in_bounds, length-numbers c.args.bytes.now)

pub overflow_add-bytes : goal.overflow_add-bytes
overflow_add-bytes c = omega (arith, c.requires.i_in_bounds, c.well_formed, length-numbers c.args.bytes.now)

pub bounds-bytes-at-2 : goal.bounds-bytes-at-2
bounds-bytes-at-2 c = let l = length-set c.args.bytes.now (c.args.i + c.args.i) (c.args.v % 256) in omega (arith, l, c.requires.i_in_bounds, length-numbers c.args.bytes.now)

pub returns : goal.returns
returns c = put-number c.args.bytes.now c.args.i c.args.v
