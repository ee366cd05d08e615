use mathlib.Core.Path.{sym, ◌∙◌}
use Rattle.explain_text.proofs.of_list_text.Putting.{more, other}
use Rattle.explain_name.proofs.Showing.{not-shown, shown}
use Rattle.explain_name.proofs.put_bracketed.Goals as goal

pub returns-then-not-is_value : goal.returns-then-not-is_value
returns-then-not-is_value c =
    let args = c.args in
    not-shown args.s.now (sym c.is_value.ensures ∙ c.if-not-is_value.true)

pub returns : goal.returns
returns c =
    let args = c.args in
    let is-value = c.is_value in
    let if1 = c.if-not-is_value in
    let put = c.put-opened in
    let put-value = c.put_value-shown in
    other (more put.ensures (more put-value.ensures c.put.ensures)) (shown args.s.now (sym is-value.ensures ∙ if1.false))
