use Rattle.list_values.proofs.of_list_text.Putting.{other, more}
use Rattle.write_tags.proofs.Tags.{key-xml}
use Rattle.write_tags.proofs.put_raw_key.Goals as goal

pub returns : goal.returns
returns c =
    let args = c.args in
    let if1 = c.if-form-eq-TABLE in
    let put2 = c.put-begun in
    let put3 = c.put-named in
    other (more put2.ensures (more put3.ensures c.put-2.ensures)) (key-xml args.form args.key.now if1.false)
