use mathlib.Core.Path.{refl}
use Rattle.write_words.proofs.Behind.{going_start, going_next, going_done}
use Rattle.write_words.proofs.put_words.Goals as goal

pub loop-w-init : goal.loop-w-init
loop-w-init c = going_start _ _ _

pub loop-w-preserved : goal.loop-w-preserved
loop-w-preserved c = going_next c.loop-w.invariant c.loop-w-test.true _ refl c.put_word-mark.auto.out c.put_word-mark.ensures

pub returns : goal.returns
returns c = going_done c.loop-w.invariant c.loop-w-test.false
