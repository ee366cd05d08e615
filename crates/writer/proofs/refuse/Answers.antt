use Rattle.writer.proofs.refuse.Goals as goal

pub returns : goal.returns
returns c = rw c.refuse_late.ensures
