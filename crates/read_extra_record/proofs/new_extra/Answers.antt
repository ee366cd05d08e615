use Rattle.std.proofs.lemmas.Result.{err_from_is_err_and}
use Rattle.read_extra_record.proofs.NewExtras.{new-spent, key-full, value-full, new-put}
use Rattle.read_element.specs.of_text.Value.{value_text}
use native.Mathlib.Omega.{arith}
use Rattle.read_extra_record.proofs.new_extra.Goals as goal

pub returns-then-own-at : goal.returns-then-own-at
returns-then-own-at c = λ g rooms p used hd ro. new-spent hd ro p c.args.kind (value_text c.args.key.now) (value_text c.args.value.now) (omega arith)

pub returns-in_err-middle : goal.returns-in_err-middle
returns-in_err-middle c =
    let q = err_from_is_err_and c.from_residual.result c.from_residual.ensures.1 in
    λ g rooms p used hd ro. rw (q.1, q.2)
    (key-full hd ro p c.args.kind (value_text c.args.key.now) (value_text c.args.value.now) (omega arith) c.in_err-middle.ensures.result_value)

pub returns-in_err-end : goal.returns-in_err-end
returns-in_err-end c =
    let q = err_from_is_err_and c.from_residual-in_err-end.result c.from_residual-in_err-end.ensures.1 in
    λ g rooms p used hd ro. rw (q.1, q.2)
    (value-full hd ro p c.args.kind (value_text c.args.key.now) (value_text c.args.value.now) (omega arith)
    c.in_ok-middle.ensures.result_value c.lay.ensures.text_after c.in_err-end.ensures.result_value)

pub returns : goal.returns
returns c =
    λ g rooms p used hd ro. new-put hd ro p c.args.kind (value_text c.args.key.now) (value_text c.args.value.now) (omega arith)
    c.in_ok-middle.ensures.result_value c.lay.ensures.text_after c.in_ok-end.ensures.result_value c.lay-2.ensures.text_after c.put_extra_words.ensures
