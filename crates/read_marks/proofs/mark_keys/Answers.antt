use Prim.Native.Nat.{ℕ, ◌+◌, ◌-◌}
use mathlib.Core.Path.{sym, ap, subst, ◌∙◌}
use mathlib.Core.Bool.{true}
use mathlib.Core.List.{List}
use native.Mathlib.Omega.{arith}
use lib.Seq.{length-take-le}
use Rattle.key_sort.specs.of_area.Area.{zeros}
use Rattle.key_sort.specs.of_clean_order.inside.CleanOrder.{ComesBy}
use Rattle.key_sort.proofs.Numbers.{length-numbers}
use Rattle.key_sort.proofs.Taking.{numbers-take}
use Rattle.key_sort.specs.inside.Arranged.{Arranged}
use Rattle.read_marks.proofs.mark_keys.Goals as goal

pub sort-requires : goal.sort-requires
sort-requires c = let pre = c.requires in
    record { n_in_bounds = omega (arith, pre.first_in_bounds_2, length-numbers c.args.bytes.now); n_bound = omega (arith, pre.first_le_end, pre.end_bound) }

pub overflow_add-e : goal.overflow_add-e
overflow_add-e c = omega (arith, c.requires.first_le_end, c.requires.end_bound)

pub slice_bounds-put_marks-end : goal.slice_bounds-put_marks-end
slice_bounds-put_marks-end c = let k = c.sort.auto.bytes in omega (arith, k, c.requires.first_in_bounds_2)

pub slice_bounds-put_marks-end-2 : goal.slice_bounds-put_marks-end-2
slice_bounds-put_marks-end-2 c =
    let k = c.sort.auto.bytes in
    let n = c.args.end - c.args.first in
    sym (length-take-le (n + n) c.sort.new.bytes (omega (arith, k, c.requires.first_in_bounds_2)))

pub put_marks-requires : goal.put_marks-requires
put_marks-requires c =
    let s = c.args in
    let pre = c.requires in
    let sort = c.sort in
    let n = s.end - s.first in
    let w = sort.new.bytes in
    let k = sort.auto.bytes in record {
      first_le_end = pre.first_le_end;
      first_in_bounds = pre.first_in_bounds;
      arranged = subst (λ (l : List ℕ). Arranged (ComesBy true s.attributes.now s.source.now) s.first n l)
          (sym (numbers-take w n (omega (arith, k, pre.first_in_bounds_2, length-numbers w)))) sort.ensures;
      marks = pre.marks;
    }

pub returns : goal.returns
returns c = record { marks_2 = c.put_marks.ensures; bytes_after = c.clear.ensures ∙ ap zeros c.sort.auto.bytes }
