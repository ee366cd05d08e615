use Rattle.explain_element.proofs.of_list_text.Putting.{more, other, puts_none}
use Rattle.explain_place.proofs.Placing.{no-event, event-alone, event-attribute}
use Rattle.explain_place.proofs.put_place.Goals as goal

pub returns-then-event-eq-NOWHERE : goal.returns-then-event-eq-NOWHERE
returns-then-event-eq-NOWHERE c = other (puts_none _) (no-event c.args.event c.args.attribute c.if-event-eq-NOWHERE.true)

pub returns-then-attribute-eq-NOWHERE : goal.returns-then-attribute-eq-NOWHERE
returns-then-attribute-eq-NOWHERE c =
    let args = c.args in
    let if1 = c.if-event-eq-NOWHERE in
    let put = c.put-opened in
    let put-decimal = c.put_decimal-number in
    let if2 = c.if-attribute-eq-NOWHERE in
    other (more put.ensures (more put-decimal.ensures c.put.ensures)) (event-alone args.event args.attribute if1.false if2.true)

pub returns : goal.returns
returns c =
    let at-put-decimal = c in
    let at-put = at-put-decimal in
    let at-if1 = at-put in
    let args = at-if1.args in
    let if2 = c.if-attribute-eq-NOWHERE in
    let put3 = c.put-parted in
    let put-decimal2 = c.put_decimal-last in
    other (more at-put.put-opened.ensures (more at-put-decimal.put_decimal-number.ensures (more put3.ensures (more put-decimal2.ensures c.put-2.ensures))))
    (event-attribute args.event args.attribute at-if1.if-event-eq-NOWHERE.false if2.false)
