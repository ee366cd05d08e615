use mathlib.Core.Bool.{true}
use native.Mathlib.Omega.{arith}
use Rattle.text_key.proofs.Keys.{matching-start, matching-done, matching-other, matching-more}
use Rattle.text.proofs.Pieces.{piece_moves}
use Rattle.text_key.proofs.is_cleaned.Goals as goal

pub loop-i-init : goal.loop-i-init
loop-i-init c = matching-start _ _

pub stands_at-requires : goal.stands_at-requires
stands_at-requires c = record { k_in_bounds = c.loop-i.invariant.fits; n_in_bounds = c.piece_of-p.ensures.fits }

pub returns-then-not-stands_at : goal.returns-then-not-stands_at
returns-then-not-stands_at c =
    let loop = c.loop-i in
    let loop-test = c.loop-i-test in
    let p = c.piece_of-p in
    let t = c.stands_at in
    matching-other loop.invariant loop-test.true p.result p.ensures t.result t.ensures (c.if-not-stands_at.true)

pub overflow_add-k : goal.overflow_add-k
overflow_add-k c =
    let good = c.well_formed in
    let loop = c.loop-i in
    let loop-test = c.loop-i-test in
    let p = c.piece_of-p in
    let t = c.stands_at in
    let m = matching-more loop.invariant loop-test.true p.result p.ensures t.result t.ensures (c.if-not-stands_at.false) in omega (arith, m.fits, good)

pub loop-i-preserved : goal.loop-i-preserved
loop-i-preserved c =
    let loop = c.loop-i in
    let loop-test = c.loop-i-test in
    let p = c.piece_of-p in
    let t = c.stands_at in
    matching-more loop.invariant loop-test.true p.result p.ensures t.result t.ensures (c.if-not-stands_at.false)

pub overflow_add-i : goal.overflow_add-i
overflow_add-i c =
    let good = c.well_formed in
    omega (arith, (loop-i-preserved c).within, good)

pub loop-i-smaller : goal.loop-i-smaller
loop-i-smaller c =
    let loop-test = c.loop-i-test in
    let a = c.args in
    let p = c.piece_of-p in
    let l = c.loop-i in
    omega (arith, piece_moves true a.raw.now l.i loop-test.true p.result p.ensures, loop-test.true)

pub returns : goal.returns
returns c = matching-done c.loop-i.invariant c.loop-i-test.false
