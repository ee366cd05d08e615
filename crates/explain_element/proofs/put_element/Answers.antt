use mathlib.Core.Path.{sym, ◌∙◌}
use Rattle.explain_name.proofs.of_list_text.Putting.{more, other}
use Rattle.explain_element.proofs.Parts.{with-name, with-attribute, plain}
use Rattle.explain_element.proofs.put_element.Goals as goal

pub returns-then-has_name : goal.returns-then-has_name
returns-then-has_name c =
    let put-kind = c.put_kind-shown in
    let put-index = c.put_index-index in
    let has-name = c.has_name in
    let if1 = c.if-has_name in
    let w = c.wide-kind.ensures in
    let a = c.args in
    other (more (rw w at put-kind.ensures) (more (rw w at put-index.ensures) c.put_name.ensures))
    (with-name a.events.now a.attributes.now a.source.now a.e.kind a.e.index a.e.event (rw w at (sym has-name.ensures ∙ if1.true)))

pub returns-then-kind-eq-ATTRIBUTE : goal.returns-then-kind-eq-ATTRIBUTE
returns-then-kind-eq-ATTRIBUTE c =
    let put-kind = c.put_kind-shown in
    let put-index = c.put_index-index in
    let has-name = c.has_name in
    let if1 = c.if-has_name in
    let if2 = c.if-kind-eq-ATTRIBUTE in
    let w = c.wide-kind.ensures in
    let a = c.args in
    other (more (rw w at put-kind.ensures) (more (rw w at put-index.ensures) (rw c.wide.ensures at c.put_attribute.ensures)))
    (with-attribute a.events.now a.attributes.now a.source.now a.e.kind a.e.index a.e.event (rw w at (sym has-name.ensures ∙ if1.false)) (rw w at if2.true))

pub returns : goal.returns
returns c =
    let put-kind = c.put_kind-shown in
    let put-index = c.put_index-index in
    let w = c.wide-kind.ensures in
    let a = c.args in
    other (more (rw w at put-kind.ensures) (rw w at put-index.ensures)) (plain a.events.now a.attributes.now a.source.now a.e.kind
    a.e.index a.e.event (rw w at (sym c.has_name.ensures ∙ c.if-has_name.false)) (rw w at c.if-kind-eq-ATTRIBUTE.false))
