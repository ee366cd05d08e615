use Rattle.list_text.proofs.Putting.{more}
use Rattle.sheet_text.proofs.put_line.Goals as goal

pub returns : goal.returns
returns c =
    let put = c.put-named in
    let put-decimal = c.put_decimal-number in
    more put.ensures (more put-decimal.ensures c.put.ensures)
