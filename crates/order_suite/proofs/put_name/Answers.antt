use Rattle.write_document.proofs.of_list_text.Putting.{more}
use Rattle.write_document.specs.of_names.Keys as key
use Rattle.write_document.specs.of_write_items.inside.Values.{key_name}
use Rattle.order_case.specs.of_order_report.Rehearsal.{rehearsal_name}
use Rattle.order_suite.proofs.put_name.Goals as goal

pub returns : goal.returns
returns c =
    let put-key = c.put_key-middle in
    let put = c.put-value in
    let put-quote = c.put_quote-to in
    λ ev. c.store_attribute.ensures ev _ _ _ (key_name key.name) rehearsal_name put-key.ensures (more put.ensures put-quote.ensures)
