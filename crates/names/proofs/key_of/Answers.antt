use Rattle.names.specs.Keys.{keys}
use Rattle.names.specs.Names.{cut}
use Rattle.names.proofs.key_of.Goals as goal

pub returns : goal.returns
unfolding cut keys
returns c = c.code_in.ensures
