-- The answer is that of the list's sheet (`released-said`).
use Rattle.std.proofs.Common.{◌≡◌, ap, ◌∙◌, length}
use Rattle.sheet_text.specs.of_tree_counts.declared.Counts.{Counts}
use Rattle.case_tags.specs.of_refusal.Refusal.{Outcome}
use Rattle.sheet_text.specs.of_sheet_sums.declared.Sheet.{Sheet}
use Rattle.sheet_text.specs.of_sheet_sums.Sheet.{release_sheet}
use Rattle.sheet_text.specs.Printed.{outcome_in, printing, sheet_area}
use Rattle.sheet_text.proofs.Answered.{released-said}
use Rattle.port_c.specs.Sheets.{printed_port}
use Rattle.port_c.proofs.sheets.kerzhoma_print_sheet.Goals as goal

pub returns : goal.returns
returns c =
    let cs = c.args.records.now in
    let out = c.args.out.now in
    let o : outcome_in c.release_sheet-answer.result ≡ release_sheet cs = ap outcome_in c.release_sheet-answer.ensures ∙ released-said cs in
    let e = c.printed.ensures in (
      e.0 ∙ ap (λ (x : Outcome Sheet). printed_port (printing x (length out))) o,
      e.1 ∙ ap (λ (x : Outcome Sheet). sheet_area x (length out)) o,
    )
