use Rattle.reference.proofs.Naming.{named-entity, named-number}
use Rattle.reference.proofs.named_by.Goals as goal

pub returns-in-Some : goal.returns-in-Some
returns-in-Some c = named-entity c.args.name.now _ c.in-Some.ensures

pub returns-in-None : goal.returns-in-None
returns-in-None c = named-number c.args.name.now _ c.in-None.ensures c.char_ref_of.ensures
