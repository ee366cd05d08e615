use Rattle.merge_rows.proofs.Steps.{back-rows}
use Rattle.merge_rows.proofs.Splicing.{first_fits, middle-fits, middle-size, third-size, of_four-fits, fourth-fits, fourth-size, four, four-size}
use Rattle.merge_rows.specs.inside.Slots.{back_texts}
use Rattle.merge_rows.specs.inside.Slots as slots
use native.Mathlib.Omega.{arith}
use mathlib.Core.List.{◌++◌}
use Rattle.merge_rows.proofs.move_back.Goals as goal

pub move_text-a-requires : goal.move_text-a-requires
unfolding back_texts
move_text-a-requires c =
    let start = c in
    let s = start.args in
    let x = slots.type s.m s.text.now s.r.now in
    let y = slots.description s.m s.text.now s.r.now in
    let z = slots.trace s.m s.text.now s.r.now in
    let w = slots.host s.m s.text.now s.r.now in
    (omega arith, first_fits s.fill s.bytes.now x (y ++ (z ++ w)) start.requires.0, start.requires.1)

pub move_text-b-requires : goal.move_text-b-requires
unfolding back_texts
move_text-b-requires c =
    let at-move-text = c in
    let start = at-move-text in
    let a = at-move-text.move_text-a.ensures in
    let s = start.args in
    let x = slots.type s.m s.text.now s.r.now in
    let y = slots.description s.m s.text.now s.r.now in
    let z = slots.trace s.m s.text.now s.r.now in
    let w = slots.host s.m s.text.now s.r.now in (
      omega arith,
      middle-fits s.fill s.bytes.now x y (z ++ w) start.requires.0 a.value a.bytes_after,
      omega (arith, middle-size s.fill s.bytes.now x y (z ++ w) start.requires.0 a.value a.bytes_after, start.requires.1),
    )

pub move_text-c-requires : goal.move_text-c-requires
unfolding back_texts
move_text-c-requires c =
    let at-move-text2 = c in
    let at-move-text = at-move-text2 in
    let start = at-move-text in
    let a = at-move-text.move_text-a.ensures in
    let b = at-move-text2.move_text-b.ensures in
    let s = start.args in
    let x = slots.type s.m s.text.now s.r.now in
    let y = slots.description s.m s.text.now s.r.now in
    let z = slots.trace s.m s.text.now s.r.now in
    let w = slots.host s.m s.text.now s.r.now in (
      omega arith,
      of_four-fits s.fill s.bytes.now x y z w start.requires.0 a.value a.bytes_after b.value b.bytes_after,
      omega (arith, third-size s.fill s.bytes.now x y (z ++ w) start.requires.0 a.value a.bytes_after b.bytes_after, start.requires.1),
    )

pub move_text-requires : goal.move_text-requires
unfolding back_texts
move_text-requires c =
    let at-move-text3 = c in
    let at-move-text2 = at-move-text3 in
    let at-move-text = at-move-text2 in
    let start = at-move-text in
    let a = at-move-text.move_text-a.ensures in
    let b = at-move-text2.move_text-b.ensures in
    let d = at-move-text3.move_text-c.ensures in
    let s = start.args in
    let x = slots.type s.m s.text.now s.r.now in
    let y = slots.description s.m s.text.now s.r.now in
    let z = slots.trace s.m s.text.now s.r.now in
    let w = slots.host s.m s.text.now s.r.now in (
      omega arith,
      fourth-fits s.fill s.bytes.now x y z w start.requires.0 a.value a.bytes_after b.value b.bytes_after d.value d.bytes_after,
      omega (arith, fourth-size s.fill s.bytes.now x y z w start.requires.0 a.value a.bytes_after b.value b.bytes_after d.bytes_after, start.requires.1),
    )

pub returns : goal.returns
unfolding back_texts
returns c =
    let at-move-text4 = c in
    let at-move-text3 = at-move-text4 in
    let at-move-text2 = at-move-text3 in
    let at-move-text = at-move-text2 in
    let start = at-move-text in
    let a = at-move-text.move_text-a.ensures in
    let b = at-move-text2.move_text-b.ensures in
    let d = at-move-text3.move_text-c.ensures in
    let e = at-move-text4.move_text.ensures in
    let s = start.args in
    let x = slots.type s.m s.text.now s.r.now in
    let y = slots.description s.m s.text.now s.r.now in
    let z = slots.trace s.m s.text.now s.r.now in
    let w = slots.host s.m s.text.now s.r.now in record { value = four-size s.fill s.bytes.now x y z w start.requires.0 a.value a.bytes_after b.value b.bytes_after d.value e.value; row_after = back-rows s.m s.text.now s.r.now s.fill s.row.now a.value b.value d.value a.row_after b.row_after d.row_after e.row_after; bytes_after = four s.fill s.bytes.now x y z w start.requires.0 a.value a.bytes_after b.value b.bytes_after d.value d.bytes_after e.bytes_after }
