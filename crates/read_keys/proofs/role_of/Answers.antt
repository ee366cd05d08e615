use borrow.Author.Tests.{le-leb, lt-leb, ne_eqb}
use Rattle.read_keys.specs.Roles.{role_of}
use Rattle.read_keys.proofs.role_of.Goals as goal

pub returns-in-1 : goal.returns-in-1
unfolding role_of
returns-in-1 c = rw c.in-1.is c.report_role.ensures

pub returns-in-2 : goal.returns-in-2
unfolding role_of
returns-in-2 c = rw c.in-2.is c.suite_role.ensures

pub returns-in-3 : goal.returns-in-3
unfolding role_of
returns-in-3 c = rw c.in-3.is c.case_role.ensures

pub returns-then-k-le-CASE_PROPERTY : goal.returns-then-k-le-CASE_PROPERTY
unfolding role_of
returns-then-k-le-CASE_PROPERTY c =
    let kind = c.args.k in
    let n = c.in_default.in_default-own.rest in
    simp (ne_eqb kind 1 n.0.0.1, ne_eqb kind 2 n.0.1, ne_eqb kind 3 n.1, le-leb kind 5 c.if-k-le-CASE_PROPERTY.true) c.property_role.ensures

pub returns-else-k-le-CASE_PROPERTY : goal.returns-else-k-le-CASE_PROPERTY
unfolding role_of
returns-else-k-le-CASE_PROPERTY c =
    let kind = c.args.k in
    let n = c.in_default.in_default-own.rest in
    simp (ne_eqb kind 1 n.0.0.1, ne_eqb kind 2 n.0.1, ne_eqb kind 3 n.1, lt-leb kind 5 c.if-k-le-CASE_PROPERTY.false) c.status_role.ensures
