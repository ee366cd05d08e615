use Rattle.write_suite.proofs.Suites.{opening-items}
use Rattle.write_marks.proofs.of_write_table.Writing.{then, said}
use Rattle.list_sums.specs.inside.Rows.{records_in}
use native.Mathlib.Omega.{arith}
use borrow.Author.Rules.{rules}
use Rattle.write_suite.proofs.put_opening.Goals as goal

pub put_element-opened-requires : goal.put_element-opened-requires
put_element-opened-requires c =
    let count-kind = c.count_kind-extras in
    (search rules, omega (arith, count-kind.ensures.result_in_bounds))

pub returns : goal.returns
returns c =
    let at-put-element = c in
    let at-count-kind = at-put-element in
    let args = at-count-kind.args in
    let put-rows = c.put_rows in
    said (then at-put-element.put_element-opened.ensures put-rows.ensures)
    (opening-items args.text.now args.r.now (records_in args.words.now) args.opens _ at-count-kind.count_kind-extras.ensures.value)
