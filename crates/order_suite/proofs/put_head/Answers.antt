use Rattle.order_case.proofs.of_order_report.Items.{head-parts}
use mathlib.Core.Path.{◌∙◌}
use Rattle.write_document.proofs.of_write_table.Writing.{then, said}
use Rattle.order_suite.proofs.put_head.Goals as goal

pub shape_of-events : goal.shape_of-events
shape_of-events c =
    let before-18 = c in
    let at-put-tag = before-18 in
    let put-declaration = at-put-tag.put_declaration-declared in
    at-put-tag.put_tag-opened.auto.events ∙ put-declaration.auto.events

pub shape_of-bytes : goal.shape_of-bytes
shape_of-bytes c =
    let at-put-common = c in
    let at-put-tag = at-put-common in
    let put-declaration = at-put-tag.put_declaration-declared in
    let put_count = c.put_count-failures in
    let put-count2 = c.put_count in
    put-count2.auto.bytes ∙ put_count.auto.bytes ∙ at-put-common.put_common-common.auto.bytes ∙ at-put-tag.put_tag-opened.auto.bytes ∙ put-declaration.auto.bytes

pub returns : goal.returns
returns c =
    let at-put-common = c in
    let at-put-tag = at-put-common in
    let at-put-declaration = at-put-tag in
    let args = at-put-declaration.args in
    let put_count = c.put_count-failures in
    let put-count2 = c.put_count in
    said (then (at-put-declaration.put_declaration-declared.ensures _)
    (then (at-put-tag.put_tag-opened.ensures _) (then (at-put-common.put_common-common.ensures _) (then (put_count.ensures _) (put-count2.ensures _))))) (head-parts args.o)
