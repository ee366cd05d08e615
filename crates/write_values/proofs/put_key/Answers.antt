use Rattle.write_tags.proofs.Tags.{key-table, key-xml}
use Rattle.write_codes.specs.of_write_items.inside.Values.{key_name}
use Rattle.write_bytes.proofs.of_list_text.Putting.{other}
use Rattle.write_values.proofs.put_key.Goals as goal

pub returns-then-form-eq-TABLE : goal.returns-then-form-eq-TABLE
returns-then-form-eq-TABLE c =
    let args = c.args in
    let if1 = c.if-form-eq-TABLE in
    other c.put_key_name.ensures (key-table args.form (key_name args.code) if1.true)

pub returns : goal.returns
returns c =
    let args = c.args in
    let if1 = c.if-form-eq-TABLE in
    other c.put_key_text.ensures (key-xml args.form (key_name args.code) if1.false)
