use Rattle.xml_acts.proofs.led.Goals as goal

pub returns : goal.returns
returns c = rw c.lead-s.ensures
