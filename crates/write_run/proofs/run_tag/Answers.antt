use Rattle.write_marks.specs.of_write_items.inside.Status.{run_tag}
use Rattle.write_run.proofs.run_tag.Goals as goal

pub returns-then-flaky : goal.returns-then-flaky
unfolding run_tag
returns-then-flaky c = rw (c.if-k.true, c.if-flaky.true)

pub returns-else-flaky : goal.returns-else-flaky
unfolding run_tag
returns-else-flaky c = rw (c.if-k.true, c.if-flaky.false)

pub returns-then-flaky-2 : goal.returns-then-flaky-2
unfolding run_tag
returns-then-flaky-2 c = rw (c.if-k.false, c.if-flaky-2.true)

pub returns-else-flaky-2 : goal.returns-else-flaky-2
unfolding run_tag
returns-else-flaky-2 c = rw (c.if-k.false, c.if-flaky-2.false)
