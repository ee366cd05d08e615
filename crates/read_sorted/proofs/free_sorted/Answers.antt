use Rattle.key_sort.proofs.Taking.{numbers-take}
use Rattle.read_sorted.proofs.Repeating.{first_of}
use Rattle.read_sorted.specs.inside.Repeats.{FirstIn}
use Rattle.key_sort.proofs.Numbers.{length-numbers}
use Rattle.key_sort.specs.inside.Numbers.{numbers_in}
use lib.Seq.{length-take-le}
use lib.ListN.{take}
use mathlib.Core.Path.{sym, subst}
use mathlib.Core.List.{List}
use native.Mathlib.Omega.{arith}
use Prim.Native.Nat.{ℕ, ◌+◌, ◌-◌}
use Rattle.read_sorted.proofs.free_sorted.Goals as goal

pub overflow_cast-first : goal.overflow_cast-first
overflow_cast-first c = omega (arith, c.requires.first_le_end, c.requires.end_bound)

pub sort-requires : goal.sort-requires
sort-requires c =
    let args = c.args in
    let pre = c.requires in
    record { n_in_bounds = omega (arith, pre.first_in_bounds, length-numbers args.bytes.now); n_bound = omega (arith, pre.first_le_end, pre.end_bound) }

pub overflow_add-e : goal.overflow_add-e
overflow_add-e c =
    let pre = c.requires in
    omega (arith, pre.first_le_end, pre.end_bound)

pub slice_bounds-first_repeat-end : goal.slice_bounds-first_repeat-end
slice_bounds-first_repeat-end c =
    let pre = c.requires in
    let k = c.sort.auto.bytes in omega (arith, k, pre.first_in_bounds)

pub slice_bounds-first_repeat-end-2 : goal.slice_bounds-first_repeat-end-2
slice_bounds-first_repeat-end-2 c =
    let args = c.args in
    let pre = c.requires in
    let k = c.sort.auto.bytes in let n = args.end - args.first in
    sym (length-take-le (n + n) c.sort.new.bytes (omega (arith, k, pre.first_in_bounds)))

pub shape_of-bytes : goal.shape_of-bytes
shape_of-bytes c =
    let sort = c.sort in
    sort.auto.bytes

pub returns : goal.returns
returns c =
    let pre = c.requires in
    let sort = c.sort in
    let s = c.args in let n = s.end - s.first in let w = sort.new.bytes in let k = sort.auto.bytes in
    first_of s.attributes.now s.source.now (take n (numbers_in w)) s.first s.end pre.first_le_end sort.ensures
    (subst (λ (l : List ℕ). FirstIn s.attributes.now s.source.now l s.end c.first_repeat.result)
    (numbers-take w n (omega (arith, k, pre.first_in_bounds, length-numbers w))) c.first_repeat.ensures)
