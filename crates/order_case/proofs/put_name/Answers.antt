use Rattle.write_entries.proofs.of_list_text.Putting.{more}
use Rattle.write_entries.specs.of_names.Keys as key
use Rattle.order_report.specs.of_write_items.inside.Values.{key_name}
use Rattle.order_report.specs.Rehearsal.{case_name}
use Rattle.order_case.proofs.put_name.Goals as goal

pub returns : goal.returns
returns c =
    let key-put = c in
    let put = c.put-front in
    let put-decimal = c.put_decimal-value in
    let put-quote = c.put_quote-to in
    λ ev. c.store_attribute.ensures ev _ _ _ (key_name key.name) (case_name key-put.args.i) key-put.put_key-middle.ensures
    (more (more put.ensures put-decimal.ensures) put-quote.ensures)
