use mathlib.Core.Bool.{true}
use mathlib.Core.Path.{refl, sym}
use lib.Seq.{length-take-le}
use native.Mathlib.Omega.{arith}
use borrow.Author.Rules.{rules}
use Rattle.text_key.proofs.of_text.Pieces.{piece_moves}
use Rattle.clean_order.proofs.Passing.{passing-start, passing-done, passing-within, passing-more, passing-byte}
use Rattle.clean_order.proofs.next_of.Goals as goal

pub loop-i-init : goal.loop-i-init
loop-i-init c = let start = c in passing-start start.args.key.now start.args.at start.args.passed start.requires

pub slice_bounds-bytes-end : goal.slice_bounds-bytes-end
slice_bounds-bytes-end c = let k = c.piece_of-p.ensures.fits in search (rules, k)

pub slice_bounds-byte_of-end : goal.slice_bounds-byte_of-end
slice_bounds-byte_of-end c = sym (length-take-le _ _ c.piece_of-p.ensures.fits)

pub returns-then-left-n : goal.returns-then-left-n
returns-then-left-n c =
    let p = c.piece_of-p in
    let loop = c.loop-i in
    let loop-test = c.loop-i-test in
    passing-byte loop.invariant loop-test.true p.result p.ensures c.if-left-n.true _ c.byte_of-byte.ensures refl refl

pub overflow_add-i : goal.overflow_add-i
overflow_add-i c =
    let p = c.piece_of-p in
    let w = passing-within c.loop-i.invariant c.loop-i-test.true p.result p.ensures in
    omega (arith, w, c.well_formed)

pub loop-i-smaller : goal.loop-i-smaller
loop-i-smaller c =
    let p = c.piece_of-p in
    let loop = c.loop-i in
    let loop-test = c.loop-i-test in
    let start = c in
    omega (arith, piece_moves true start.args.key.now loop.i loop-test.true p.result p.ensures, loop-test.true)

pub loop-i-preserved : goal.loop-i-preserved
loop-i-preserved c =
    let p = c.piece_of-p in
    passing-more c.loop-i.invariant c.loop-i-test.true p.result p.ensures c.if-left-n.false

pub returns : goal.returns
returns c = passing-done c.loop-i.invariant c.loop-i-test.false _ refl
