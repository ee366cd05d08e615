use borrow.Author.Tests.{ne_eqb}
use Rattle.schema.specs.of_names.Keys as key
use Rattle.read_keys.specs.Roles.{role_in, property_role}
use Rattle.read_keys.proofs.property_role.Goals as goal

pub returns-in-1 : goal.returns-in-1
unfolding property_role role_in
returns-in-1 c = simp c.in-1.is

pub returns-in-14 : goal.returns-in-14
unfolding property_role role_in
returns-in-14 c = simp c.in-14.is

pub returns-in_default : goal.returns-in_default
unfolding property_role role_in
returns-in_default c = let k = c.args.key in let n = c.in_default.in_default-own.rest in simp (ne_eqb k key.name n.0.1, ne_eqb k key.value n.1)
