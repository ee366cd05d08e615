use Rattle.write_marks.proofs.of_list_text.Putting.{more}
use Rattle.write_marks.specs.of_names.Bytes.{bytes}
use Rattle.write_entries.proofs.put_declaration.Goals as goal

pub returns : goal.returns
returns c =
    let put-before = c.put_before-from in
    let put = c.put-said in
    let put-behind = c.put_behind-to in
    λ at. c.store_event.ensures at _ _ (bytes "xml version=\"1.0\" encoding=\"UTF-8\"") (more put-before.ensures (more put.ensures put-behind.ensures))
