use Prim.Native.Nat.{◌*◌}
use Rattle.list_input.proofs.Filling.{filling-start, filling-more, filling-done}
use Rattle.list_input.specs.Input.{word_of}
use Rattle.area.proofs.Parts.{rest_part}
use mathlib.Core.Path.{ap, ◌∙◌}
use Rattle.list_input.proofs.fill_words.Goals as goal

pub loop-i-init : goal.loop-i-init
loop-i-init c = filling-start _ _

pub loop-i-preserved : goal.loop-i-preserved
loop-i-preserved c =
    let args = c.args in
    filling-more c.loop-i.invariant c.loop-i-test.true _ (c.word_of.ensures ∙ ap word_of (rest_part args.s.now (c.loop-i.i * 4)))

pub returns : goal.returns
returns c = filling-done c.loop-i.invariant c.loop-i-test.false
