use Rattle.list_text.proofs.Putting.{more}
use Rattle.list_values.proofs.put_quoted.Goals as goal

pub returns : goal.returns
returns c =
    let put = c.put-opened in
    let put-escaped = c.put_escaped-shown in
    more put.ensures (more put-escaped.ensures c.put.ensures)
