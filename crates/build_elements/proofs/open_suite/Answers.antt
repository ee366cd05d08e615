use Rattle.build_kinds.proofs.of_build_draft.Steps.{handed-on}
use Rattle.build_elements.proofs.Opening.{suite_marks, suite-refused, suite-stopped, suite-went}
use Rattle.build_elements.proofs.Steps.{not_taken, was-taken}
use Rattle.build_kinds.specs.of_build_draft.Draft.{Draft}
use Rattle.build_kinds.specs.of_tree_record.Kinds as kind
use mathlib.Core.Path.{refl, ap, ◌∙◌}
use mathlib.Core.Bool.{not}
use Rattle.build_elements.proofs.open_suite.Goals as goal

pub returns-then-not-is_of : goal.returns-then-not-is_of
returns-then-not-is_of c =
    let a = c.args in
    λ text. suite-refused (record { builder = a.b; words = a.records.now; text = text }) c.is_of.ensures a.records.now (ap not c.if-not-is_of.true)

pub returns-in_err-c : goal.returns-in_err-c
returns-in_err-c c =
    let a = c.args in
    rw (handed-on c.from_residual.result c.sum_suite.result c.from_residual.ensures.1 c.in_err-c.was)
    (λ text.
    suite-stopped (record { builder = a.b; words = a.records.now; text = text }) c.is_of.ensures
    (ap not c.if-not-is_of.false) c.sum_suite.new.records c.in_err-c.was (c.sum_suite.ensures text))

pub returns-in_err-d : goal.returns-in_err-d
returns-in_err-d c =
    let a = c.args in
    rw (handed-on c.from_residual-in_err-d.result c.take_record.result c.from_residual-in_err-d.ensures.1 c.in_err-d.was)
    (λ text.
    let d : Draft = record { builder = a.b; words = a.records.now; text = text } in
    not_taken kind.suite suite_marks (record { builder = c.in_ok-c.c; words = c.sum_suite.new.records; text = text })
    c.take_record.new.records c.in_err-d.was (c.take_record.ensures text)
    ∙ suite-went d c.is_of.ensures (ap not c.if-not-is_of.false) c.sum_suite.new.records c.in_ok-c.was (c.sum_suite.ensures text))

pub returns : goal.returns
returns c =
    let a = c.args in
    λ text.
    let d : Draft = record { builder = a.b; words = a.records.now; text = text } in
    was-taken kind.suite suite_marks (record { builder = c.in_ok-c.c; words = c.sum_suite.new.records; text = text })
    c.take_record.new.records c.in_ok-d.was (c.take_record.ensures text) (rw c.last_of.ensures refl)
    ∙ suite-went d c.is_of.ensures (ap not c.if-not-is_of.false) c.sum_suite.new.records c.in_ok-c.was (c.sum_suite.ensures text)
