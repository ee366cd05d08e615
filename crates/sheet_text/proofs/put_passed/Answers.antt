use Rattle.list_text.proofs.Putting.{more, other}
use Rattle.sheet_text.proofs.Answered.{share-parts}
use Rattle.sheet_text.proofs.put_passed.Goals as goal

pub returns : goal.returns
returns c =
    let put = c.put-opened in
    let put-decimal = c.put_decimal-first in
    let args = c.args in
    other (more put.ensures (more put-decimal.ensures c.put_line.ensures)) (share-parts args.passed args.tests)
