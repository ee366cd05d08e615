use Rattle.std.proofs.lemmas.Result.{err_from_is_err_and}
use Rattle.read_extra_record.proofs.Extras.{old-full, old-put}
use Rattle.read_element.specs.of_text.Value.{value_text}
use Rattle.read_extra_record.proofs.old_extra.Goals as goal

pub returns-in_err-end : goal.returns-in_err-end
returns-in_err-end c =
    let q = err_from_is_err_and c.from_residual.result c.from_residual.ensures.1 in
    λ g rooms p used hd ro. rw (q.1, q.2) (old-full hd ro (value_text c.args.value.now) p c.args.i c.in_err-end.ensures.result_value)

pub returns : goal.returns
returns c =
    λ g rooms p used hd ro. old-put hd ro (value_text c.args.value.now) p c.args.i c.requires.i_lt_extras
    c.in_ok-end.ensures.result_value c.lay.ensures.text_after c.put_pair.ensures
