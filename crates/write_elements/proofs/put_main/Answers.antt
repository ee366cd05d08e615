use Rattle.write_elements.proofs.Elements.{main-skipped, main_runs}
use Rattle.write_marks.proofs.of_write_table.Writing.{then, said}
use Rattle.write_walk.specs.of_list_sums.inside.Rows.{records_in}
use mathlib.Core.Path.{sym, ◌∙◌}
use Rattle.write_elements.proofs.put_main.Goals as goal

pub returns-then-here-eq-SKIPPED : goal.returns-then-here-eq-SKIPPED
returns-then-here-eq-SKIPPED c =
    let args = c.args in
    let field = c.field-here in
    let if1 = c.if-here-eq-SKIPPED in
    let put-status = c.put_status in
    said put-status.ensures (main-skipped (records_in args.words.now) args.text.now args.r.now (sym field.ensures ∙ if1.true))

pub returns : goal.returns
returns c =
    let at-put-status2 = c in
    let at-main-tag = at-put-status2 in
    let at-is-flaky = at-main-tag in
    let at-if1 = at-is-flaky in
    let at_field = at-if1 in
    let args = at_field.args in
    let put-rows = c.put_rows in
    said (then at-put-status2.put_status-main.ensures put-rows.ensures) (main_runs (records_in args.words.now) args.text.now args.r.now _ _
    (λ z. at-if1.if-here-eq-SKIPPED.false (at_field.field-here.ensures ∙ z)) (rw at_field.field-here.ensures at at-main-tag.main_tag-code.ensures) at-is-flaky.is_flaky-flaky.ensures)
