use Rattle.merge_rows.proofs.Steps.{front-rows}
use Rattle.merge_rows.proofs.Splicing.{first_fits, middle-fits, middle-size, third-fits, third-size, three, three-size}
use Rattle.merge_rows.specs.inside.Slots.{front_texts}
use Rattle.merge_rows.specs.inside.Slots as slots
use native.Mathlib.Omega.{arith}
use mathlib.Core.List.{◌++◌}
use Rattle.merge_rows.proofs.move_front.Goals as goal

pub move_text-a-requires : goal.move_text-a-requires
unfolding front_texts
move_text-a-requires c =
    let pre = c.requires in
    let s = c.args in
    let x = slots.name s.m s.text.now s.r.now in
    let y = slots.out s.m s.text.now s.r.now in
    let z = slots.err s.m s.text.now s.r.now in
    (omega arith, first_fits s.fill s.bytes.now x (y ++ z) pre.0, pre.1)

pub move_text-b-requires : goal.move_text-b-requires
unfolding front_texts
move_text-b-requires c =
    let pre = c.requires in
    let move-text = c.move_text-a in
    let s = c.args in
    let x = slots.name s.m s.text.now s.r.now in
    let y = slots.out s.m s.text.now s.r.now in
    let z = slots.err s.m s.text.now s.r.now in (
      omega arith,
      middle-fits s.fill s.bytes.now x y z pre.0 move-text.ensures.value move-text.ensures.bytes_after,
      omega (arith, middle-size s.fill s.bytes.now x y z pre.0 move-text.ensures.value move-text.ensures.bytes_after, pre.1),
    )

pub move_text-requires : goal.move_text-requires
unfolding front_texts
move_text-requires c =
    let pre = c.requires in
    let move-text = c.move_text-a in
    let move-text2 = c.move_text-b in
    let s = c.args in
    let x = slots.name s.m s.text.now s.r.now in
    let y = slots.out s.m s.text.now s.r.now in
    let z = slots.err s.m s.text.now s.r.now in (
      omega arith,
      third-fits s.fill s.bytes.now x y z pre.0 move-text.ensures.value move-text.ensures.bytes_after move-text2.ensures.value move-text2.ensures.bytes_after,
      omega (arith, third-size s.fill s.bytes.now x y z pre.0 move-text.ensures.value move-text.ensures.bytes_after move-text2.ensures.bytes_after, pre.1),
    )

pub returns : goal.returns
unfolding front_texts
returns c =
    let at-move-text = c in
    let start = at-move-text in
    let move-text2 = c.move_text-b in
    let move-text3 = c.move_text in
    let s = start.args in
    let x = slots.name s.m s.text.now s.r.now in
    let y = slots.out s.m s.text.now s.r.now in
    let z = slots.err s.m s.text.now s.r.now in record {
      value = three-size s.fill s.bytes.now x y z start.requires.0 at-move-text.move_text-a.ensures.value at-move-text.move_text-a.ensures.bytes_after move-text2.ensures.value move-text3.ensures.value;
      row_after = front-rows s.m s.text.now s.r.now s.fill s.row.now at-move-text.move_text-a.ensures.value
          move-text2.ensures.value at-move-text.move_text-a.ensures.row_after move-text2.ensures.row_after move-text3.ensures.row_after;
      bytes_after = three s.fill s.bytes.now x y z start.requires.0 at-move-text.move_text-a.ensures.value
          at-move-text.move_text-a.ensures.bytes_after move-text2.ensures.value move-text2.ensures.bytes_after move-text3.ensures.bytes_after;
    }
