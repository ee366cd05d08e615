use Rattle.read_free.proofs.Rooms.{room-to-sort, whole-zero}
use lib.Seq.{length-take-le}
use lib.ListN.{length}
use lib.Dec.{eqb, ltb}
use mathlib.Core.Path.{sym}
use native.Mathlib.Omega.{arith}
use Prim.Native.Nat.{◌-◌, ◌*◌}
use Rattle.read_free.proofs.free_to.Goals as goal

pub overflow_mul-e : goal.overflow_mul-e
overflow_mul-e c =
    let pre = c.requires in
    omega (arith, pre.end_bound)

pub returns-then-found-end : goal.returns-then-found-end
returns-then-found-end c =
    let pre = c.requires in
    record { unrepeated = c.free_in_words-found.ensures.unrepeated; work_after = c.free_in_words-found.ensures.work_after; spare_after = pre.spare_value }

pub slice_bounds-free_by_sort-end : goal.slice_bounds-free_by_sort-end
slice_bounds-free_by_sort-end c = let s = c.args in
    room-to-sort (eqb c.free_in_words-found.result s.end) (ltb 8 (s.end - s.first)) ((s.end - s.first) * 4) (length s.spare.now) c.if-found-end.false

pub slice_bounds-free_by_sort-end-2 : goal.slice_bounds-free_by_sort-end-2
slice_bounds-free_by_sort-end-2 c =
    let free-in-words = c.free_in_words-found in
    let s = c.args in sym (length-take-le ((s.end - s.first) * 4) s.spare.now
    (room-to-sort (eqb free-in-words.result s.end) (ltb 8 (s.end - s.first)) ((s.end - s.first) * 4) (length s.spare.now) c.if-found-end.false))

pub free_by_sort-requires : goal.free_by_sort-requires
free_by_sort-requires c =
    let pre = c.requires in
    let free-in-words = c.free_in_words-found in
    let s = c.args in let l = length-take-le ((s.end - s.first) * 4) s.spare.now
    (room-to-sort (eqb free-in-words.result s.end) (ltb 8 (s.end - s.first)) ((s.end - s.first) * 4) (length s.spare.now) c.if-found-end.false) in
    record { first_le_end = pre.first_le_end; end_bound = pre.end_bound; first_in_bounds = omega (arith, l) }

pub returns : goal.returns
returns c =
    let start = c in
    let free-in-words = c.free_in_words-found in
    let if1 = c.if-found-end in
    let s = start.args in
    let r = room-to-sort (eqb free-in-words.result s.end) (ltb 8 (s.end - s.first)) ((s.end - s.first) * 4) (length s.spare.now) if1.false in
    record { unrepeated = c.free_by_sort.ensures.first_repeat.free; work_after = free-in-words.ensures.work_after; spare_after = whole-zero s.spare.now r start.requires.spare_value c.free_by_sort.ensures.bytes_after }
