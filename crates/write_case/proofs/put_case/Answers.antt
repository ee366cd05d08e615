use Rattle.write_case.proofs.Cases.{case-childless, case-parent}
use Rattle.write_marks.proofs.of_write_table.Writing.{then, said}
use Rattle.write_walk.specs.of_list_sums.inside.Rows.{records_in}
use mathlib.Core.Path.{sym, ◌∙◌}
use Rattle.write_case.proofs.put_case.Goals as goal

pub returns-then-is_childless : goal.returns-then-is_childless
returns-then-is_childless c =
    let args = c.args in
    let is-childless = c.is_childless in
    let if1 = c.if-is_childless in
    let put-opening = c.put_opening in
    said put-opening.ensures (case-childless (records_in args.words.now) args.text.now args.r.now (sym is-childless.ensures ∙ if1.true))

pub returns : goal.returns
returns c =
    let at-put-inside = c in
    let at-put-opening2 = at-put-inside in
    let at-if1 = at-put-opening2 in
    let at-is-childless = at-if1 in
    let args = at-is-childless.args in
    let put-closing = c.put_closing in
    said (then at-put-opening2.put_opening-opened.ensures (then at-put-inside.put_inside-inside.ensures (put-closing.ensures _)))
    (case-parent (records_in args.words.now) args.text.now args.r.now (sym at-is-childless.is_childless.ensures ∙ at-if1.if-is_childless.false))
