use Rattle.list_values.proofs.of_list_text.Putting.{puts_none, more, other}
use Rattle.write_tags.proofs.Tags.{level-more}
use Rattle.write_tags.proofs.put_levels.Goals as goal

pub loop-init : goal.loop-init
loop-init c = puts_none _

pub loop-preserved : goal.loop-preserved
loop-preserved c = other (more c.loop.invariant c.put-mark.ensures) (level-more c.loop.counter)
