use Rattle.key_order.proofs.key_of.Goals as goal

pub returns : goal.returns
returns c = cc
