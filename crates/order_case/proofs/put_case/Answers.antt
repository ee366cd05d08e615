use mathlib.Core.Path.{sym, ap, ◌∙◌}
use Rattle.order_report.proofs.Items.{failure-items, error-items, skipped-items, flaky-items, plain-items}
use Rattle.order_report.specs.inside.Items.{case_items}
use Rattle.write_entries.proofs.of_write_table.Writing.{said}
use Rattle.order_case.proofs.put_case.Goals as goal

pub returns-in-Failure : goal.returns-in-Failure
returns-in-Failure c =
    let put-main = c.put_main in
    let i = c.args.i in
    said put-main.ensures (failure-items i ∙ ap (case_items i) (sym c.in-Failure.is))

pub returns-in-Error : goal.returns-in-Error
returns-in-Error c =
    let put-main2 = c.put_main-in-Error in
    let i = c.args.i in
    said put-main2.ensures (error-items i ∙ ap (case_items i) (sym c.in-Error.is))

pub returns-in-Skipped : goal.returns-in-Skipped
returns-in-Skipped c =
    let put-main3 = c.put_main-in-Skipped in
    let i = c.args.i in
    said put-main3.ensures (skipped-items i ∙ ap (case_items i) (sym c.in-Skipped.is))

pub returns-in-Flaky : goal.returns-in-Flaky
returns-in-Flaky c =
    let put-flaky = c.put_flaky in
    let i = c.args.i in
    said put-flaky.ensures (flaky-items i ∙ ap (case_items i) (sym c.in-Flaky.is))

pub returns-in-Plain : goal.returns-in-Plain
returns-in-Plain c =
    let put-opening = c.put_opening in
    let i = c.args.i in
    said put-opening.ensures (plain-items i ∙ ap (case_items i) (sym c.in-Plain.is))
