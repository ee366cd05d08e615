use Rattle.list_values.proofs.of_list_text.Putting.{other, more, puts_none}
use Rattle.write_tags.proofs.Tags.{before-open, before-end, before-other, before_text, before-indent, before-none}
use Rattle.write_form.specs.of_write_table.inside.Forms.{lead}
use Rattle.list_values.specs.of_names.Bytes.{bytes}
use mathlib.Core.List.{◌++◌}
use mathlib.Core.Path.{sym, ap, ◌∙◌}
use Prim.Native.Nat.{ℕ}
use Rattle.write_tags.proofs.put_before_xml.Goals as goal

pub returns-then-kind : goal.returns-then-kind
returns-then-kind c =
    let args = c.args in
    let if1 = c.if-kind in
    let put-lead = c.put_lead-led in
    other (more put-lead.ensures c.put.ensures) (before-open args.form args.level args.kind if1.true)

pub returns-then-kind-eq-END : goal.returns-then-kind-eq-END
returns-then-kind-eq-END c =
    let args = c.args in
    let if2 = c.if-kind-eq-END in
    let one_less = c.one_less in
    let put-lead2 = c.put_lead-led-then-kind-eq-END in
    other (more put-lead2.ensures c.put-then-kind-eq-END.ensures) (ap (λ (n : ℕ). lead args.form n ++ bytes "</") one_less.ensures
    ∙ before-end args.form args.level args.kind if2.true)

pub returns-then-kind-eq-OTHER : goal.returns-then-kind-eq-OTHER
returns-then-kind-eq-OTHER c =
    let args = c.args in
    let if3 = c.if-kind-eq-OTHER in
    let put-lead3 = c.put_lead-led-then-kind-eq-OTHER in
    other (more put-lead3.ensures c.put-then-kind-eq-OTHER.ensures) (before-other args.form args.level args.kind if3.true)

pub returns-then-is_text : goal.returns-then-is_text
returns-then-is_text c =
    let args = c.args in
    let if1 = c.if-kind in
    let if2 = c.if-kind-eq-END in
    let if3 = c.if-kind-eq-OTHER in
    let is-text = c.is_text in
    let if4 = c.if-is_text in
    other c.put_closing.ensures (before_text args.form args.level args.kind if1.false if2.false if3.false
    (sym is-text.ensures ∙ if4.true))

pub returns-then-kind-eq-INDENT : goal.returns-then-kind-eq-INDENT
returns-then-kind-eq-INDENT c =
    let args = c.args in
    let if5 = c.if-kind-eq-INDENT in
    other c.put_break.ensures (before-indent args.form args.level args.kind if5.true)

pub returns : goal.returns
returns c =
    let args = c.args in
    let if1 = c.if-kind in
    let if2 = c.if-kind-eq-END in
    other (puts_none _) (before-none args.form args.level args.kind if1.false if2.false c.if-kind-eq-OTHER.false
    (sym c.is_text.ensures ∙ c.if-is_text.false) c.if-kind-eq-INDENT.false)
