use Prim.Native.Nat.{ℕ}
use mathlib.Core.List.{List}
use mathlib.Core.Path.{sym, ap, ◌∙◌}
use Rattle.explain_text.proofs.of_list_text.Putting.{other, puts_none}
use Rattle.explain_text.specs.Explanation.{text_of, bracketed}
use Rattle.explain_name.proofs.Naming.{no_name, name-found, name-none}
use Rattle.explain_name.proofs.put_name.Goals as goal

pub returns-then-event-kind_at : goal.returns-then-event-kind_at
returns-then-event-kind_at c =
    let args = c.args in
    other (puts_none _) (sym (ap bracketed (no_name args.events.now args.attributes.now args.source.now args.event
    c.kind_at.result (rw c.wide-i.ensures at c.kind_at.ensures) c.if-event-kind_at.true)))

pub returns-then-j-end : goal.returns-then-j-end
returns-then-j-end c =
    let args = c.args in
    let wide = c.wide-i in
    let kind-at = c.kind_at in
    let if1 = c.if-event-kind_at in
    let end-at = c.end_at-end in
    let first-at = c.first_at in
    let named-from = c.named_from-j in
    let if2 = c.if-j-end in
    other c.put_bracketed.ensures (ap (λ (l : List ℕ). bracketed (text_of l)) c.value_at.ensures
    ∙ sym (ap bracketed (name-found args.events.now args.attributes.now args.source.now args.event kind-at.result (rw wide.ensures at kind-at.ensures)
    if1.false named-from.result (rw (first-at.ensures, end-at.ensures, wide.ensures) at named-from.ensures) (rw (end-at.ensures, wide.ensures) at if2.true))))

pub returns : goal.returns
returns c =
    let args = c.args in
    let wide = c.wide-i in
    let kind-at = c.kind_at in
    let if1 = c.if-event-kind_at in
    other (puts_none _) (sym (ap bracketed (name-none args.events.now args.attributes.now args.source.now args.event kind-at.result (rw wide.ensures at kind-at.ensures)
    if1.false c.named_from-j.result (rw (c.first_at.ensures, c.end_at-end.ensures, wide.ensures) at c.named_from-j.ensures)
    (rw (c.end_at-end.ensures, wide.ensures) at c.if-j-end.false))))
