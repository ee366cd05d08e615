use Rattle.write_rows.proofs.Rows.{row-property, row-extra, row-run}
use Rattle.write_marks.proofs.of_write_table.Writing.{said}
use Rattle.write_rows.proofs.put_row.Goals as goal

pub returns-then-here : goal.returns-then-here
returns-then-here c =
    let args = c.args in
    let field = c.field-here in
    let if1 = c.if-here in
    let put-property = c.put_property in
    said put-property.ensures (row-property args.text.now args.flaky args.r.now (rw field.ensures at if1.true))

pub returns-then-here-2 : goal.returns-then-here-2
returns-then-here-2 c =
    let args = c.args in
    let field = c.field-here in
    let if1 = c.if-here in
    let if2 = c.if-here-2 in
    let put-extra = c.put_extra in
    said (put-extra.ensures _) (row-extra args.text.now args.flaky args.r.now (rw field.ensures at if1.false) (rw field.ensures at if2.true))

pub returns : goal.returns
returns c =
    let args = c.args in
    let field = c.field-here in
    let if1 = c.if-here in
    let if2 = c.if-here-2 in
    let put-run = c.put_run in
    said put-run.ensures (row-run args.text.now args.flaky args.r.now (rw field.ensures at if1.false) (rw field.ensures at if2.false))
