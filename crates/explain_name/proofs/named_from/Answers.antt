use Prim.Native.Nat.{◌-◌}
use Rattle.explain_name.proofs.Hunting.{lent_key, hunting-start, hunting-past, hunting-done, hunting-hit, hunting_miss}
use Rattle.explain_name.proofs.named_from.Goals as goal

pub loop-j-init : goal.loop-j-init
loop-j-init c = hunting-start c.args.attributes.now c.args.source.now c.args.first c.args.end

pub returns-then-n-j : goal.returns-then-n-j
returns-then-n-j c =
    let args = c.args in
    hunting-past args.attributes.now args.source.now c.loop-j.invariant c.loop-j-test.true c.if-n-j.true

pub returns-then-is_name : goal.returns-then-is_name
returns-then-is_name c =
    let args = c.args in
    let loop = c.loop-j in
    let loop-test = c.loop-j-test in
    hunting-hit args.attributes.now args.source.now loop.invariant loop-test.true
    (lent_key args.attributes.now args.source.now loop.j c.is_name.ensures c.if-is_name.true)

pub loop-j-preserved : goal.loop-j-preserved
loop-j-preserved c =
    let args = c.args in
    let loop = c.loop-j in
    let loop-test = c.loop-j-test in
    hunting_miss args.attributes.now args.source.now loop.invariant loop-test.true
    (lent_key args.attributes.now args.source.now loop.j c.is_name.ensures c.if-is_name.false)

pub returns : goal.returns
returns c =
    let args = c.args in
    hunting-done args.attributes.now args.source.now c.loop-j.invariant c.loop-j-test.false
