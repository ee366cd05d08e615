use mathlib.Core.Path.{refl, ◌∙◌}
use Rattle.order_case.proofs.of_order_report.Items.{kinds-items}
use Rattle.write_document.proofs.of_write_table.Writing.{then, said}
use Rattle.order_suite.proofs.put_kinds.Goals as goal

pub shape_of-events : goal.shape_of-events
shape_of-events c =
    let at-put-cases4 = c in
    let at-put-cases3 = at-put-cases4 in
    let at-put-cases2 = at-put-cases3 in
    let put-cases = at-put-cases2.put_cases-f in
    let put-cases5 = c.put_cases in
    put-cases5.auto.events ∙ at-put-cases4.put_cases-r.auto.events ∙ at-put-cases3.put_cases-s.auto.events ∙ at-put-cases2.put_cases-e.auto.events ∙ put-cases.auto.events

pub shape_of-attributes : goal.shape_of-attributes
shape_of-attributes c =
    let at-put-cases4 = c in
    let at-put-cases3 = at-put-cases4 in
    let at-put-cases2 = at-put-cases3 in
    let put-cases = at-put-cases2.put_cases-f in
    let put-cases5 = c.put_cases in
    put-cases5.auto.attributes ∙ at-put-cases4.put_cases-r.auto.attributes ∙ at-put-cases3.put_cases-s.auto.attributes ∙ at-put-cases2.put_cases-e.auto.attributes ∙ put-cases.auto.attributes

pub shape_of-bytes : goal.shape_of-bytes
shape_of-bytes c =
    let at-put-cases4 = c in
    let at-put-cases3 = at-put-cases4 in
    let at-put-cases2 = at-put-cases3 in
    let put-cases = at-put-cases2.put_cases-f in
    let put-cases5 = c.put_cases in
    put-cases5.auto.bytes ∙ at-put-cases4.put_cases-r.auto.bytes ∙ at-put-cases3.put_cases-s.auto.bytes ∙ at-put-cases2.put_cases-e.auto.bytes ∙ put-cases.auto.bytes

pub returns : goal.returns
returns c =
    let at-put-cases4 = c in
    let at-put-cases3 = at-put-cases4 in
    let at-put-cases2 = at-put-cases3 in
    let at-put-cases = at-put-cases2 in
    let args = at-put-cases.args in
    let put-cases5 = c.put_cases in
    said (then at-put-cases.put_cases-f.ensures (then at-put-cases2.put_cases-e.ensures
    (then at-put-cases3.put_cases-s.ensures (then at-put-cases4.put_cases-r.ensures put-cases5.ensures)))) (kinds-items args.o _ _ _ refl refl refl)
