use Rattle.write_elements.proofs.Elements.{properties-none, properties-some}
use Rattle.write_marks.proofs.of_write_table.Writing.{then, said, wrote_nothing}
use Rattle.write_walk.specs.of_list_sums.inside.Rows.{records_in}
use Rattle.write_elements.proofs.put_properties.Goals as goal

pub returns-then-kind_of_first-eq0 : goal.returns-then-kind_of_first-eq0
returns-then-kind_of_first-eq0 c =
    let args = c.args in
    said (wrote_nothing _) (properties-none (records_in args.words.now) args.text.now args.level args.listed _ c.kind_of_first.ensures c.if-kind_of_first-eq0.true)

pub returns : goal.returns
returns c =
    let at-put-rows = c in
    let at-put-tag = at-put-rows in
    let at-if1 = at-put-tag in
    let at-kind-of-first = at-if1 in
    let args = at-kind-of-first.args in
    let put-tag2 = c.put_tag in
    said (then (at-put-tag.put_tag-opened.ensures _) (then at-put-rows.put_rows-rows.ensures (put-tag2.ensures _)))
    (properties-some (records_in args.words.now) args.text.now args.level args.listed _ at-kind-of-first.kind_of_first.ensures at-if1.if-kind_of_first-eq0.false)
