use borrow.Author.Tests.{ne_eqb}
use Rattle.schema.specs.of_names.Keys as key
use Rattle.read_keys.specs.Roles.{role_in, status_role}
use Rattle.read_keys.proofs.RoleLaws.{status-keys}
use Rattle.read_keys.proofs.status_role.Goals as goal

pub returns-in-4 : goal.returns-in-4
unfolding status_role role_in
returns-in-4 c = rw (status-keys c.args.run) (simp c.in-4.is)

pub returns-in-5 : goal.returns-in-5
unfolding status_role role_in
returns-in-5 c = rw (status-keys c.args.run) (simp c.in-5.is)

pub returns-in-12 : goal.returns-in-12
unfolding status_role role_in
returns-in-12 c = rw (status-keys c.args.run) (simp c.in-12.is)

pub returns-in-13 : goal.returns-in-13
unfolding status_role role_in
returns-in-13 c = rw (status-keys c.args.run) (simp c.in-13.is)

pub returns-in_default : goal.returns-in_default
unfolding status_role role_in
returns-in_default c =
    let k = c.args.key in
    let n = c.in_default.in_default-own.rest in
    rw (status-keys c.args.run) (simp (
      ne_eqb k key.timestamp n.0.0.0.1,
      ne_eqb k key.time n.0.0.1,
      ne_eqb k key.message n.0.1,
      ne_eqb k key.type n.1,
    ))
