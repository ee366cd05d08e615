use mathlib.Core.Path.{◌∙◌}
use Rattle.tree_shape.proofs.Presence.{dead-record, report-record, suite-record, case-record, other-record}
use Rattle.tree_shape.proofs.good_record.Goals as goal

pub returns-then-k-ge-DEAD : goal.returns-then-k-ge-DEAD
returns-then-k-ge-DEAD c =
    let args = c.args in
    dead-record args.texts.now args.r.now c.if-k-ge-DEAD.true

pub returns-in-1 : goal.returns-in-1
returns-in-1 c =
    let args = c.args in
    c.good_report.ensures ∙ report-record args.texts.now args.r.now c.in-1.is

pub returns-in-2 : goal.returns-in-2
returns-in-2 c =
    let args = c.args in
    c.good_suite.ensures ∙ suite-record args.texts.now args.r.now c.in-2.is

pub returns-in-3 : goal.returns-in-3
returns-in-3 c =
    let args = c.args in
    c.good_case.ensures ∙ case-record args.texts.now args.r.now c.in-3.is

pub returns-in_default : goal.returns-in_default
returns-in_default c =
    let args = c.args in
    rw c.good_other.ensures
    (other-record args.texts.now args.r.now c.if-k-ge-DEAD.false c.in_default.in_default-own.rest.0.0.1 c.in_default.in_default-own.rest.0.1 c.in_default.in_default-own.rest.1)
