use mathlib.Core.Path.{◌∙◌}
use Rattle.refusal_place.proofs.Finding.{looking-start, looking-more, looking-found, looking-none}
use Rattle.refusal_place.proofs.root_byte.Goals as goal

pub loop-i-init : goal.loop-i-init
loop-i-init c = looking-start _

pub returns-then-word_of-le-EMPTY : goal.returns-then-word_of-le-EMPTY
returns-then-word_of-le-EMPTY c =
    let loop = c.loop-i in
    let loop-test = c.loop-i-test in
    let kind = c.word_of in
    looking-found loop.invariant loop-test.true _ kind.ensures c.if-word_of-le-EMPTY.true _ (c.wide.ensures ∙ c.word_of-then-word_of-le-EMPTY.ensures)

pub loop-i-preserved : goal.loop-i-preserved
loop-i-preserved c = looking-more c.loop-i.invariant c.loop-i-test.true _ c.word_of.ensures c.if-word_of-le-EMPTY.false

pub returns : goal.returns
returns c = looking-none c.loop-i.invariant c.loop-i-test.false
