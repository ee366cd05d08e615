use Rattle.write_values.proofs.Naming.{tag-cut}
use Rattle.write_bytes.proofs.of_list_text.Putting.{other}
use Rattle.write_values.proofs.put_any_tag.Goals as goal

pub returns : goal.returns
returns c =
    let args = c.args in
    other c.put_named.ensures (tag-cut args.code)
