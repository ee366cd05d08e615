use Rattle.build_kinds.proofs.of_build_draft.Steps.{handed-on, is-done}
use Rattle.build_elements.proofs.Opening.{report_marks, report-said, first-marks}
use Rattle.build_elements.proofs.Steps.{not_taken, was-taken}
use Rattle.build_kinds.specs.of_tree_record.Kinds as kind
use mathlib.Core.Path.{◌∙◌}
use Rattle.build_elements.proofs.open_report.Goals as goal

pub returns-in_err-b : goal.returns-in_err-b
returns-in_err-b c =
    let a = c.args in
    rw (handed-on c.from_residual.result c.take_record.result c.from_residual.ensures.1 c.in_err-b.was)
    (not_taken kind.report report_marks (record { builder = c.no_builder.result; words = c.clear_words.new.words; text = c.clear.new.out })
    c.take_record.new.records c.in_err-b.was (c.take_record.ensures c.clear.new.out)
    ∙ report-said a.records.now a.text.now c.no_builder.ensures c.clear_words.ensures c.clear.ensures)

pub returns : goal.returns
returns c =
    let a = c.args in
    let words = c.clear_words.new.words in
    let words' = c.take_record.new.records in
    let text = c.clear.new.out in
    let h = rw c.no_builder.ensures at c.take_record.ensures text in
    was-taken kind.report report_marks (record { builder = c.no_builder.result; words = words; text = text })
    words' c.in_ok-b.was (c.take_record.ensures text) (first-marks c.in_ok-b.b words words' text (is-done c.take_record.result words' text c.in_ok-b.was h))
    ∙ report-said a.records.now a.text.now c.no_builder.ensures c.clear_words.ensures c.clear.ensures
