use Rattle.xml_acts.proofs.begin.Goals as goal

pub returns : goal.returns
returns c = rw c.lead.ensures
