use Rattle.build_kinds.proofs.of_build_draft.Steps.{handed-on}
use Rattle.build_elements.proofs.Opening.{finish-refused, finish-stopped, finish-went}
use mathlib.Core.Path.{refl, ap}
use mathlib.Core.Bool.{not}
use Rattle.build_elements.proofs.close_report.Goals as goal

pub returns-then-not-is_of : goal.returns-then-not-is_of
returns-then-not-is_of c =
    let a = c.args in
    λ text. finish-refused (record { builder = a.b; words = a.records.now; text = text }) c.is_of.ensures a.records.now (ap not c.if-not-is_of.true)

pub returns-in_err-c : goal.returns-in_err-c
returns-in_err-c c =
    let a = c.args in
    rw (handed-on c.from_residual.result c.sum_suite.result c.from_residual.ensures.1 c.in_err-c.was)
    (λ text.
    finish-stopped (record { builder = a.b; words = a.records.now; text = text }) c.is_of.ensures
    (ap not c.if-not-is_of.false) c.sum_suite.new.records c.in_err-c.was (c.sum_suite.ensures text))

pub returns : goal.returns
returns c =
    let a = c.args in
    λ text. finish-went (record { builder = a.b; words = a.records.now; text = text }) c.is_of.ensures (ap not c.if-not-is_of.false)
    c.sum_suite.new.records c.in_ok-c.was (c.sum_suite.ensures text) (rw c.no_builder.ensures refl)
