use borrow.Author.Tests.{ne_eqb}
use Rattle.schema.specs.of_names.Keys as key
use Rattle.read_keys.specs.Roles.{role_in, case_role}
use Rattle.read_keys.proofs.case_role.Goals as goal

pub returns-in-1 : goal.returns-in-1
unfolding case_role role_in
returns-in-1 c = simp c.in-1.is

pub returns-in-2 : goal.returns-in-2
unfolding case_role role_in
returns-in-2 c = simp c.in-2.is

pub returns-in-4 : goal.returns-in-4
unfolding case_role role_in
returns-in-4 c = simp c.in-4.is

pub returns-in-5 : goal.returns-in-5
unfolding case_role role_in
returns-in-5 c = simp c.in-5.is

pub returns-in-11 : goal.returns-in-11
unfolding case_role role_in
returns-in-11 c = simp c.in-11.is

pub returns-in_default : goal.returns-in_default
unfolding case_role role_in
returns-in_default c =
    let k = c.args.key in
    let n = c.in_default.in_default-own.rest in
    simp (
      ne_eqb k key.name n.0.0.0.0.1,
      ne_eqb k key.classname n.0.0.0.1,
      ne_eqb k key.timestamp n.0.0.1,
      ne_eqb k key.time n.0.1,
      ne_eqb k key.assertions n.1,
    )
