use Rattle.write_document.proofs.of_list_text.Putting.{more}
use Rattle.write_document.specs.of_digits.Digits.{decimal}
use Rattle.write_document.specs.of_write_items.inside.Values.{key_name}
use Rattle.order_suite.proofs.put_count.Goals as goal

pub returns : goal.returns
returns c =
    let key-put = c in
    let put-decimal = c.put_decimal-value in
    let put-quote = c.put_quote-to in
    let given = key-put.args in
    λ ev. c.store_attribute.ensures ev _ _ _ (key_name given.code) (decimal given.n) key-put.put_key-middle.ensures (more put-decimal.ensures put-quote.ensures)
