use Rattle.xml_acts.proofs.spelling.Goals as goal

pub returns : goal.returns
returns c = rw c.word_of.ensures
