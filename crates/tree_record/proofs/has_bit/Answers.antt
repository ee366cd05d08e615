use Prim.Native.Nat.{min}
use native.Mathlib.Omega.{arith}
use lib.Pow.{pow_pos}
use Rattle.tree_record.proofs.Marks.{bit-read}
use Rattle.tree_record.proofs.has_bit.Goals as goal

pub nonzero_div-result : goal.nonzero_div-result
nonzero_div-result c = omega (arith, pow_pos (min c.args.k 31), c.mask_of.ensures)

pub returns : goal.returns
returns c =
    let a = c.args in
    let f = c.field in
    bit-read a.k a.words.now f.result c.mask_of.result f.ensures c.mask_of.ensures
