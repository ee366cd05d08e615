use Rattle.build_pairs.proofs.Places.{key-none, key_here, key-next}
use native.Mathlib.Omega.{arith}
use mathlib.Core.Path.{◌≡◌, sym, ◌∙◌}
use Rattle.build_pairs.proofs.key_place.Goals as goal

pub returns-then-has_key : goal.returns-then-has_key
returns-then-has_key c =
    let args = c.args in
    sym (c.loop-i.invariant.rest ∙ key_here args.text.now args.records.now args.key.now c.loop-i.i args.to
    c.loop-i-test.true c.least-at.ensures c.has_key.ensures c.if-has_key.true)

pub loop-i-preserved : goal.loop-i-preserved
loop-i-preserved c = record {
  rest = let args = c.args in
      c.loop-i.invariant.rest ∙ key-next args.text.now args.records.now args.key.now c.loop-i.i args.to
      c.loop-i-test.true c.least-at.ensures c.has_key.ensures c.if-has_key.false;
  end = omega arith;
}

pub returns : goal.returns
returns c =
    let args = c.args in
    let e : c.max.result ≡ c.loop-i.i = omega arith in
    e ∙ sym (c.loop-i.invariant.rest ∙ key-none args.text.now args.records.now args.key.now c.loop-i.i args.to c.loop-i-test.false)
