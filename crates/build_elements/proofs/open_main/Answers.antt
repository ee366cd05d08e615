use Rattle.build_kinds.proofs.of_build_draft.Steps.{handed-on, then-refused, then-done}
use Rattle.build_elements.proofs.Opening.{main_marks, no_main, main-went}
use Rattle.build_elements.proofs.Steps.{not_taken, was-taken}
use Rattle.build_kinds.specs.of_build_draft.Draft.{Draft}
use Rattle.build_kinds.specs.of_build_draft.Calls.{open_main}
use mathlib.Core.Path.{refl, ◌∙◌}
use Rattle.build_elements.proofs.open_main.Goals as goal

pub returns-in_err-b : goal.returns-in_err-b
returns-in_err-b c =
    let a = c.args in
    rw (handed-on c.from_residual.result a.step c.from_residual.ensures.1 c.in_err-b.was)
    (λ text. then-refused a.step a.records.now text (open_main a.outcome) a.records.now text c.in_err-b.was refl)

pub returns-then-k-eq0 : goal.returns-then-k-eq0
returns-then-k-eq0 c =
    let a = c.args in
    λ text.
    no_main a.outcome c.main_kind-k.ensures (record { builder = c.in_ok-b.b; words = a.records.now; text = text }) c.if-k-eq0.true
    ∙ then-done a.step a.records.now text (open_main a.outcome) c.in_ok-b.was refl

pub returns-in_err-c : goal.returns-in_err-c
returns-in_err-c c =
    let a = c.args in
    rw (handed-on c.from_residual-in_err-c.result c.take_record.result c.from_residual-in_err-c.ensures.1 c.in_err-c.was)
    (λ text.
    let d : Draft = record { builder = c.in_ok-b.b; words = a.records.now; text = text } in
    not_taken c.main_kind-k.result main_marks d c.take_record.new.records c.in_err-c.was (c.take_record.ensures text)
    ∙ main-went a.outcome c.main_kind-k.ensures d c.if-k-eq0.false
    ∙ then-done a.step a.records.now text (open_main a.outcome) c.in_ok-b.was refl)

pub returns : goal.returns
returns c =
    let a = c.args in
    λ text.
    let d : Draft = record { builder = c.in_ok-b.b; words = a.records.now; text = text } in
    was-taken c.main_kind-k.result main_marks d c.take_record.new.records c.in_ok-c.was (c.take_record.ensures text) (rw c.last_of.ensures refl)
    ∙ main-went a.outcome c.main_kind-k.ensures d c.if-k-eq0.false
    ∙ then-done a.step a.records.now text (open_main a.outcome) c.in_ok-b.was refl
