use Prim.Native.Nat.{◌<◌, ◌^◌}
use mathlib.Core.Path.{sym, ◌∙◌}
use native.Mathlib.Omega.{arith}
use Rattle.tree_record.proofs.Marks.{marked-already, mark-fits, mark-put}
use Rattle.tree_record.proofs.put_bit.Goals as goal

pub returns-then-has_bit : goal.returns-then-has_bit
returns-then-has_bit c =
    let h = c in
    let a = h.args in
    sym (marked-already a.k a.words.now (sym h.has_bit.ensures ∙ c.if-has_bit.true))

pub overflow_add-bits : goal.overflow_add-bits
overflow_add-bits c =
    let f = c.field-bits in
    let i = c in
    let a = i.args in
    let l : f.result < 2 ^ 32 = omega (arith, f.type_inv) in
    let s = mark-fits a.k a.words.now f.result c.mask_of.result f.ensures c.mask_of.ensures (sym i.has_bit.ensures ∙ i.if-has_bit.false) l in
    omega (arith, s)

pub returns : goal.returns
returns c =
    let m = c in
    let f = m.field-bits in
    let i = m in
    let a = i.args in
    c.put_field.ensures
    ∙ mark-put a.k a.words.now f.result m.mask_of.result f.ensures m.mask_of.ensures (sym i.has_bit.ensures ∙ i.if-has_bit.false)
