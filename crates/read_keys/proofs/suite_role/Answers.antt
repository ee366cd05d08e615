use borrow.Author.Tests.{ne_eqb}
use Rattle.schema.specs.of_names.Keys as key
use Rattle.read_keys.specs.Roles.{role_in, suite_role}
use Rattle.read_keys.proofs.suite_role.Goals as goal

pub returns-in-1 : goal.returns-in-1
unfolding suite_role role_in
returns-in-1 c = simp c.in-1.is

pub returns-in-4 : goal.returns-in-4
unfolding suite_role role_in
returns-in-4 c = simp c.in-4.is

pub returns-in-5 : goal.returns-in-5
unfolding suite_role role_in
returns-in-5 c = simp c.in-5.is

pub returns-in-6 : goal.returns-in-6
unfolding suite_role role_in
returns-in-6 c = simp c.in-6.is

pub returns-in-7 : goal.returns-in-7
unfolding suite_role role_in
returns-in-7 c = simp c.in-7.is

pub returns-in-8 : goal.returns-in-8
unfolding suite_role role_in
returns-in-8 c = simp c.in-8.is

pub returns-in-9 : goal.returns-in-9
unfolding suite_role role_in
returns-in-9 c = simp c.in-9.is

pub returns-in-10 : goal.returns-in-10
unfolding suite_role role_in
returns-in-10 c = simp c.in-10.is

pub returns-in-15 : goal.returns-in-15
unfolding suite_role role_in
returns-in-15 c = simp c.in-15.is

pub returns-in_default : goal.returns-in_default
unfolding suite_role role_in
returns-in_default c =
    let k = c.args.key in
    let n = c.in_default.in_default-own.rest in
    simp (
      ne_eqb k key.name n.0.0.0.0.0.0.0.0.1,
      ne_eqb k key.timestamp n.0.0.0.0.0.0.0.1,
      ne_eqb k key.time n.0.0.0.0.0.0.1,
      ne_eqb k key.tests n.0.0.0.0.0.1,
      ne_eqb k key.failures n.0.0.0.0.1,
      ne_eqb k key.errors n.0.0.0.1,
      ne_eqb k key.skipped n.0.0.1,
      ne_eqb k key.disabled n.0.1,
      ne_eqb k key.hostname n.1,
    )
