use Rattle.read_step.proofs.Beginning.{begun}
use Rattle.read_step.proofs.begin.Goals as goal

pub returns : goal.returns
returns c = begun _ _ _ c.no_status.ensures c.no_marks.ensures c.no_content.ensures
