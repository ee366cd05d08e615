use mathlib.Core.Path.{refl}
use native.Mathlib.Omega.{arith}
use Rattle.utf8_lossy.proofs.Parts.{part_none, part_room, part-found}
use Rattle.utf8_lossy.proofs.part_of.Goals as goal

pub returns-then-s-eq0 : goal.returns-then-s-eq0
returns-then-s-eq0 c = part_none c.args.s.now c.if-s-eq0.true _ refl refl

pub overflow_add-result : goal.overflow_add-result
overflow_add-result c =
    let args = c.args in
    let if1 = c.if-s-eq0 in
    let need-of = c.need_of-n in
    let h = part_room args.s.now _ _ _ _ (omega (arith, if1.false)) need-of.ensures c.low_of.ensures c.high_of.ensures c.along_of-k.ensures in
    omega arith

pub returns : goal.returns
returns c =
    let args = c.args in
    let if1 = c.if-s-eq0 in
    let need-of = c.need_of-n in
    part-found args.s.now _ _ _ _ (omega (arith, if1.false)) need-of.ensures c.low_of.ensures c.high_of.ensures c.along_of-k.ensures _ refl refl
