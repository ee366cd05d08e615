use borrow.Rule.Slice.PartMut.{put_mid}
use Prim.Native.Nat.{◌+◌, ◌-◌, ◌/◌, ◌≤◌}
use mathlib.Core.Path.{◌∙◌}
use native.Mathlib.Omega.{arith}
use lib.ListN.{length}
use Rattle.clean_order.specs.inside.CleanOrder.{ComesBy}
use Rattle.key_sort.specs.inside.Numbers.{numbers_in}
use Rattle.key_sort.proofs.Numbers.{length-numbers}
use Rattle.key_sort.proofs.Sorting.{arranged-none, arranged-one, arranged-whole, whole-size, whole_numbers, part-size}
use Rattle.key_sort.proofs.+sort.Goals as goal

pub put_number-requires : goal.put_number-requires
put_number-requires t c =
    let pre = c.requires in
    record { i_in_bounds = omega (arith, c.if-n-eq1.true, pre.n_in_bounds); v_bound = omega (arith, c.if-n-eq1.true, pre.n_bound) }

pub shape_of-bytes-then-n-lt2 : goal.shape_of-bytes-then-n-lt2
shape_of-bytes-then-n-lt2 t c =
    c.put_number.auto.bytes

pub returns-then-n-eq1 : goal.returns-then-n-eq1
returns-then-n-eq1 t c =
    let args = c.args in
    let pre = c.requires in
    let if2 = c.if-n-eq1 in
    arranged-one (ComesBy args.clean args.attributes.now args.source.now) args.first args.n (numbers_in args.bytes.now)
    c.put_number.ensures if2.true (omega (arith, if2.true, pre.n_in_bounds))

pub returns-else-n-eq1 : goal.returns-else-n-eq1
returns-else-n-eq1 t c =
    let args = c.args in
    arranged-none (ComesBy args.clean args.attributes.now args.source.now) args.first args.n (numbers_in args.bytes.now) (omega (arith, c.if-n-lt2.true, c.if-n-eq1.false))

pub sort-requires : goal.sort-requires
sort-requires t c =
    let pre = c.requires in
    (omega (arith, c.if-n-lt2.false), (omega (arith, pre.n_in_bounds), omega (arith, pre.n_bound)))

pub overflow_add-at : goal.overflow_add-at
overflow_add-at t c =
    let pre = c.requires in
    omega (arith, pre.n_bound)

pub overflow_cast-h : goal.overflow_cast-h
overflow_cast-h t c =
    let pre = c.requires in
    omega (arith, pre.n_bound)

pub overflow_add-first : goal.overflow_add-first
overflow_add-first t c =
    let pre = c.requires in
    omega (arith, pre.n_bound)

pub slice_bounds-sort-count : goal.slice_bounds-sort-count
slice_bounds-sort-count t c =
    let args = c.args in
    let pre = c.requires in
    let k = c.sort.auto.bytes in let q = length-numbers args.bytes.now in omega (arith, k, q, pre.n_in_bounds)

pub slice_bounds-sort-start : goal.slice_bounds-sort-start
slice_bounds-sort-start t c =
    let args = c.args in
    let pre = c.requires in
    let k = c.sort.auto.bytes in let q = length-numbers args.bytes.now in omega (arith, k, q, pre.n_in_bounds)

pub sort-requires-2 : goal.sort-requires-2
sort-requires-2 t c =
    let args = c.args in
    let pre = c.requires in
    let if1 = c.if-n-lt2 in
    let n = args.n in let l : n / 2 ≤ n = omega arith in (omega (arith, if1.false), (part-size args.bytes.now c.sort.new.bytes (n / 2) n l pre.n_in_bounds c.sort.auto.bytes, omega (arith, pre.n_bound)))

pub merge_up-requires : goal.merge_up-requires
merge_up-requires t c =
    let args = c.args in
    let pre = c.requires in
    let sort-step = c.sort in
    let n = args.n in let l : n / 2 ≤ n = omega arith in let q = length-numbers args.bytes.now in let k = sort-step.auto.bytes in
    let w = whole-size args.bytes.now sort-step.new.bytes c.sort-2.new.bytes
    (n / 2 + n / 2) (omega (arith, q, pre.n_in_bounds)) k c.sort-2.auto.bytes in
    let s =
    length-numbers (put_mid (n / 2 + n / 2) (length sort-step.new.bytes - (n / 2 + n / 2)) sort-step.new.bytes c.sort-2.new.bytes) in
    record { h_le_n = l; n_in_bounds = omega (arith, w, s, q, pre.n_in_bounds) }

pub move_down-requires : goal.move_down-requires
move_down-requires t c =
    let args = c.args in
    let pre = c.requires in
    let sort-step = c.sort in
    let sort2 = c.sort-2 in
    let n = args.n in let q = length-numbers args.bytes.now in let k = sort-step.auto.bytes in
    let w = whole-size args.bytes.now sort-step.new.bytes sort2.new.bytes (n / 2 + n / 2) (omega (arith, q, pre.n_in_bounds)) k sort2.auto.bytes in
    let m = c.merge_up.auto.bytes in let s = length-numbers c.merge_up.new.bytes in omega (arith, w, m, s, q, pre.n_in_bounds)

pub shape_of-bytes : goal.shape_of-bytes
shape_of-bytes t c =
    let args = c.args in
    let pre = c.requires in
    let sort-step = c.sort in
    let sort2 = c.sort-2 in
    let merge-up = c.merge_up in
    let n = args.n in let q = length-numbers args.bytes.now in let k = sort-step.auto.bytes in
    let w = whole-size args.bytes.now sort-step.new.bytes sort2.new.bytes (n / 2 + n / 2) (omega (arith, q, pre.n_in_bounds)) k sort2.auto.bytes in
    c.move_down.auto.bytes ∙ merge-up.auto.bytes ∙ w

pub returns : goal.returns
returns t c =
    let args = c.args in
    let pre = c.requires in
    let sort-step = c.sort in
    let sort2 = c.sort-2 in
    let merge-up = c.merge_up in
    let n = args.n in let l : n / 2 ≤ n = omega arith in let q = length-numbers args.bytes.now in
    let s = length-numbers sort-step.new.bytes in let k = sort-step.auto.bytes in
    let h : n / 2 ≤ length (numbers_in sort-step.new.bytes) = omega (arith, q, s, k, pre.n_in_bounds) in
    arranged-whole args.clean args.attributes.now args.source.now args.first (n / 2) n (numbers_in sort-step.new.bytes) (numbers_in sort2.new.bytes)
    (numbers_in (put_mid (n / 2 + n / 2) (length sort-step.new.bytes - (n / 2 + n / 2)) sort-step.new.bytes sort2.new.bytes))
    (numbers_in merge-up.new.bytes) (numbers_in c.move_down.new.bytes) l h sort-step.ensures sort2.ensures
    (whole_numbers sort-step.new.bytes sort2.new.bytes (n / 2) h) merge-up.ensures c.move_down.ensures
