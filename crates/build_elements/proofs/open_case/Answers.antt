use Rattle.build_kinds.proofs.of_build_draft.Steps.{handed-on}
use Rattle.build_elements.proofs.Opening.{case_marks, case-refused, case-stopped, case-went}
use Rattle.build_elements.proofs.Steps.{not_taken, was-taken}
use Rattle.build_kinds.specs.of_build_draft.Draft.{Draft}
use Rattle.build_kinds.specs.of_tree_record.Kinds as kind
use mathlib.Core.Path.{refl, ap, ◌∙◌}
use mathlib.Core.Bool.{not}
use Rattle.build_elements.proofs.open_case.Goals as goal

pub returns-then-not-is_of : goal.returns-then-not-is_of
returns-then-not-is_of c =
    let a = c.args in
    λ text. case-refused a.outcome (record { builder = a.b; words = a.records.now; text = text }) c.is_of.ensures a.records.now (ap not c.if-not-is_of.true)

pub returns-in_err-c : goal.returns-in_err-c
returns-in_err-c c =
    let a = c.args in
    rw (handed-on c.from_residual.result c.count_case.result c.from_residual.ensures.1 c.in_err-c.was)
    (λ text.
    case-stopped a.outcome (record { builder = a.b; words = a.records.now; text = text }) c.is_of.ensures
    (ap not c.if-not-is_of.false) c.count_case.new.records c.in_err-c.was (c.count_case.ensures text))

pub returns-in_err-d : goal.returns-in_err-d
returns-in_err-d c =
    let a = c.args in
    rw (handed-on c.from_residual-in_err-d.result c.take_record.result c.from_residual-in_err-d.ensures.1 c.in_err-d.was)
    (λ text.
    let d : Draft = record { builder = a.b; words = a.records.now; text = text } in
    not_taken kind.case case_marks (record { builder = c.in_ok-c.c; words = c.count_case.new.records; text = text })
    c.take_record.new.records c.in_err-d.was (c.take_record.ensures text)
    ∙ case-went a.outcome d c.is_of.ensures (ap not c.if-not-is_of.false) c.count_case.new.records c.in_ok-c.was (c.count_case.ensures text))

pub returns : goal.returns
returns c =
    let a = c.args in
    λ text.
    let d : Draft = record { builder = a.b; words = a.records.now; text = text } in
    was-taken kind.case case_marks (record { builder = c.in_ok-c.c; words = c.count_case.new.records; text = text })
    c.take_record.new.records c.in_ok-d.was (c.take_record.ensures text) (rw c.last_of.ensures refl)
    ∙ case-went a.outcome d c.is_of.ensures (ap not c.if-not-is_of.false) c.count_case.new.records c.in_ok-c.was (c.count_case.ensures text)
