use Rattle.list_text.proofs.Putting.{more}
use Rattle.list_values.proofs.put_number.Goals as goal

pub returns : goal.returns
returns c =
    let put = c.put-space in
    more put.ensures c.put_decimal.ensures
