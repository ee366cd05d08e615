use Rattle.port_c.proofs.cases.kerzhoma_case_tags.Goals as goal

pub returns : goal.returns
returns c = c.case_tags.ensures
