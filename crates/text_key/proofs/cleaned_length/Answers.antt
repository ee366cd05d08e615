use Rattle.text.proofs.Pieces.{piece_moves}
use Rattle.text_key.proofs.Keys.{counting-start, counting-done, counting_more, counting-within}
use mathlib.Core.Bool.{true}
use native.Mathlib.Omega.{arith}
use Rattle.text_key.proofs.cleaned_length.Goals as goal

pub loop-i-init : goal.loop-i-init
loop-i-init c = counting-start _

pub overflow_add-k : goal.overflow_add-k
overflow_add-k c =
    let good = c.well_formed in
    let loop = c.loop-i in
    omega (arith, counting-within loop.invariant c.loop-i-test.true c.piece_of-p.result c.piece_of-p.ensures, good)

pub overflow_add-i : goal.overflow_add-i
overflow_add-i c =
    let good = c.well_formed in
    let loop = c.loop-i in
    let loop-test = c.loop-i-test in
    omega (arith, (counting_more loop.invariant loop-test.true c.piece_of-p.result c.piece_of-p.ensures).within, good)

pub loop-i-smaller : goal.loop-i-smaller
loop-i-smaller c =
    let args = c.args in
    let loop = c.loop-i in
    let loop-test = c.loop-i-test in
    omega (arith, piece_moves true args.key.now loop.i loop-test.true c.piece_of-p.result c.piece_of-p.ensures, loop-test.true)

pub loop-i-preserved : goal.loop-i-preserved
loop-i-preserved c =
    let loop = c.loop-i in
    let loop-test = c.loop-i-test in
    counting_more loop.invariant loop-test.true c.piece_of-p.result c.piece_of-p.ensures

pub returns : goal.returns
returns c = counting-done c.loop-i.invariant c.loop-i-test.false
