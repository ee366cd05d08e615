use Rattle.list_values.specs.of_digits.Digits.{decimal}
use Rattle.list_values.specs.of_list_text.Listing.{status_word, kind_word}
use Rattle.list_sums.specs.inside.Summed.{status_by, kind_by, runs_by}
use Rattle.list_values.proofs.of_list_text.Putting.{more, other}
use Rattle.list_values.proofs.Joining.{three-parts}
use Rattle.list_status.proofs.put_status.Goals as goal

pub returns : goal.returns
returns c =
    let put-main = c.put_main-main in
    let put-kind = c.put_kind-kind in
    let s = c.args.s in
    other (more put-main.ensures (more put-kind.ensures (rw c.runs_of.ensures at c.put_number.ensures)))
    (three-parts (status_word (status_by s)) (kind_word (kind_by s)) (decimal (runs_by s)))
