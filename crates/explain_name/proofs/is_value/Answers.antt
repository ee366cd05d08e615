use Rattle.explain_name.proofs.is_value.Goals as goal

pub returns : goal.returns
returns c = let p = c.is_utf8.ensures in let q = c.refs_ok.ensures in cc
