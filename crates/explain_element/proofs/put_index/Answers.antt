use Rattle.explain_name.proofs.of_list_text.Putting.{more, other, puts_none}
use Rattle.explain_element.proofs.Parts.{index-shown, index-none}
use Rattle.explain_element.proofs.put_index.Goals as goal

pub returns-then-has_name-kind : goal.returns-then-has_name-kind
returns-then-has_name-kind c =
    let args = c.args in
    let has-name = c.has_name in
    let if1 = c.if-has_name-kind in
    let put = c.put-opened in
    let put-decimal = c.put_decimal-number in
    other (more put.ensures (more put-decimal.ensures c.put.ensures)) (index-shown args.kind args.index has-name.ensures if1.true)

pub returns : goal.returns
returns c = other (puts_none _) (index-none c.args.kind c.args.index c.has_name.ensures c.if-has_name-kind.false)
