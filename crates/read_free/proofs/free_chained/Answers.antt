use mathlib.Core.Path.{refl}
use Rattle.read_free.proofs.Going.{going_start, going_more}
use Rattle.read_free.proofs.free_chained.Goals as goal

pub loop-j-init : goal.loop-j-init
loop-j-init c = going_start _ _ _ _ _ _ c.requires.first_le_end c.requires.first_in_bounds refl c.requires.work_value

pub loop-j-preserved : goal.loop-j-preserved
loop-j-preserved c = going_more c.loop-j.invariant c.loop-j-test.true c.enter.auto.work (c.enter.ensures.j_value, c.enter.ensures.chained_2) c.if-enter.false
