use Rattle.names.specs.Names.{cut}
use Rattle.names.specs.Tags.{tags}
use Rattle.names.proofs.tag_of.Goals as goal

pub returns : goal.returns
unfolding cut tags
returns c = c.code_in.ensures
