use mathlib.Core.Path.{sym}
use native.Mathlib.Omega.{arith}
use lib.Seq.{length-take-le}
use Rattle.tree_layout.proofs.Filling.{good-text, fill-fits}
use Rattle.tree_layout.proofs.texts.is_good.Goals as goal

pub slice_bounds-is_utf8-end : goal.slice_bounds-is_utf8-end
slice_bounds-is_utf8-end c = let s = c.args.s.now in sym (length-take-le c.args.fill s (fill-fits s c.args.fill c.requires))

pub slice_bounds-is_clean-end : goal.slice_bounds-is_clean-end
slice_bounds-is_clean-end c =
    let start = c in
    let s = start.args.s.now in sym (length-take-le start.args.fill s (fill-fits s start.args.fill start.requires))

pub slice_bounds-is_zero-count : goal.slice_bounds-is_zero-count
slice_bounds-is_zero-count c =
    let args = c.args in
    let pre = c.requires in
    omega (arith, fill-fits args.s.now args.fill pre)

pub slice_bounds-is_zero-start : goal.slice_bounds-is_zero-start
slice_bounds-is_zero-start c =
    let args = c.args in
    let pre = c.requires in
    omega (arith, fill-fits args.s.now args.fill pre)

pub returns : goal.returns
returns c =
    let start = c in
    let is-utf8 = c.is_utf8 in
    rw (is-utf8.ensures, c.is_clean.ensures, c.is_zero.ensures) (good-text start.args.s.now start.args.fill start.requires)
