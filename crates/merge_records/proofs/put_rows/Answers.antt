use Rattle.merge_records.proofs.Copying.{copying-start, copying-more, copying-pass, word_room, text-room, same_length as same_row, next-done, fill_done, out-done, bytes-done}
use Rattle.merge_records.proofs.Counting.{here, below-kind}
use Rattle.merge_rows.proofs.of_list_sums.Records.{stands-room}
use native.Mathlib.Omega.{arith}
use mathlib.Core.Path.{sym, ◌∙◌}
use Prim.Native.Nat.{◌-◌}
use Rattle.merge_records.proofs.put_rows.Goals as goal

pub loop-end-init : goal.loop-end-init
loop-end-init c =
    let pre = c.requires in
    copying-start pre

pub offset_bounds-words-at : goal.offset_bounds-words-at
offset_bounds-words-at c = omega (arith, c.loop-end.invariant.fits)

pub slice_bounds-stands_here-count : goal.slice_bounds-stands_here-count
slice_bounds-stands_here-count c = omega (arith, c.loop-end.invariant.fits)

pub slice_bounds-stands_here-start : goal.slice_bounds-stands_here-start
slice_bounds-stands_here-start c = omega (arith, c.loop-end.invariant.fits)

pub overflow_add-end : goal.overflow_add-end
overflow_add-end c =
    let args = c.args in
    omega (arith, stands-room args.words.now c.loop-end.at (sym c.stands_here.ensures ∙ c.loop-end-test.true))

pub offset_bounds-words-at-in-loop-end : goal.offset_bounds-words-at-in-loop-end
offset_bounds-words-at-in-loop-end c =
    let args = c.args in
    omega (arith, stands-room args.words.now c.loop-end.at (sym c.stands_here.ensures ∙ c.loop-end-test.true))

pub slice_bounds-r-end : goal.slice_bounds-r-end
slice_bounds-r-end c =
    let args = c.args in
    omega (arith, stands-room args.words.now c.loop-end.at (sym c.stands_here.ensures ∙ c.loop-end-test.true))

pub overflow_add-behind : goal.overflow_add-behind
overflow_add-behind c =
    let args = c.args in
    let loop = c.loop-end in
    let stands_here = c.stands_here in
    let if1 = c.loop-end-test in
    omega (
      arith,
      word_room loop.invariant (sym stands_here.ensures ∙ if1.true)
          (below-kind (here args.words.now loop.at) c.field.ensures c.is_below.ensures c.if-is_below.true),
    )

pub offset_bounds-out-next : goal.offset_bounds-out-next
offset_bounds-out-next c =
    let args = c.args in
    let loop = c.loop-end in
    let stands_here = c.stands_here in
    let if1 = c.loop-end-test in
    omega (
      arith,
      word_room loop.invariant (sym stands_here.ensures ∙ if1.true)
          (below-kind (here args.words.now loop.at) c.field.ensures c.is_below.ensures c.if-is_below.true),
    )

pub slice_bounds-move_row-end : goal.slice_bounds-move_row-end
slice_bounds-move_row-end c =
    let args = c.args in
    let loop = c.loop-end in
    let stands_here = c.stands_here in
    let if1 = c.loop-end-test in
    omega (
      arith,
      word_room loop.invariant (sym stands_here.ensures ∙ if1.true)
          (below-kind (here args.words.now loop.at) c.field.ensures c.is_below.ensures c.if-is_below.true),
    )

pub move_row-fill-requires : goal.move_row-fill-requires
move_row-fill-requires c =
    let args = c.args in
    let loop = c.loop-end in
    let stands_here = c.stands_here in
    let if1 = c.loop-end-test in
    let field = c.field in (
      same_row loop.invariant (sym stands_here.ensures ∙ if1.true)
          (below-kind (here args.words.now loop.at) field.ensures c.is_below.ensures c.if-is_below.true),
      text-room loop.invariant (sym stands_here.ensures ∙ if1.true)
          (below-kind (here args.words.now loop.at) field.ensures c.is_below.ensures c.if-is_below.true),
      loop.invariant.most,
    )

pub loop-end-smaller-then-is_below : goal.loop-end-smaller-then-is_below
loop-end-smaller-then-is_below c =
    let args = c.args in
    let loop = c.loop-end in
    let stands_here = c.stands_here in
    let if1 = c.loop-end-test in
    omega (arith, stands-room args.words.now loop.at (sym stands_here.ensures ∙ if1.true))

pub loop-end-preserved-then-is_below : goal.loop-end-preserved-then-is_below
loop-end-preserved-then-is_below c =
    let at-loop = c in
    let args = at-loop.args in
    let stands_here = c.stands_here in
    let if1 = c.loop-end-test in
    let field = c.field in
    let is_below = c.is_below in
    let if2 = c.if-is_below in
    let Move-row = c.move_row-fill in
    copying-more at-loop.loop-end.invariant (sym stands_here.ensures ∙ if1.true) (below-kind (here args.words.now at-loop.loop-end.at) field.ensures is_below.ensures if2.true)
    Move-row.ensures.value Move-row.ensures.row_after Move-row.ensures.bytes_after

pub loop-end-smaller : goal.loop-end-smaller
loop-end-smaller c =
    let args = c.args in
    let loop = c.loop-end in
    let stands_here = c.stands_here in
    let if1 = c.loop-end-test in
    omega (arith, stands-room args.words.now loop.at (sym stands_here.ensures ∙ if1.true))

pub loop-end-preserved : goal.loop-end-preserved
loop-end-preserved c =
    let args = c.args in
    let loop = c.loop-end in
    let stands_here = c.stands_here in
    let if1 = c.loop-end-test in
    copying-pass loop.invariant (sym stands_here.ensures ∙ if1.true)
    (below-kind (here args.words.now loop.at) c.field.ensures c.is_below.ensures c.if-is_below.false)

pub shape_of-out : goal.shape_of-out
shape_of-out c = c.loop-end.invariant.same_words

pub shape_of-bytes : goal.shape_of-bytes
shape_of-bytes c = c.loop-end.invariant.same_bytes

pub returns : goal.returns
returns c = let s = sym c.stands_here.ensures ∙ c.loop-end-test.false in
    let i = c.loop-end.invariant in
    record { word_value = (next-done i s, fill_done i s); out_after = out-done i s; bytes_after = bytes-done i s }
