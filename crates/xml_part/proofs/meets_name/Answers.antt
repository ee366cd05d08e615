use Rattle.xml_part.proofs.meets_name.Goals as goal

pub returns : goal.returns
returns c = cc
