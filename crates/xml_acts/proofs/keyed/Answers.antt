use Rattle.xml_acts.proofs.keyed.Goals as goal

pub returns : goal.returns
returns c = rw c.less.ensures
