use lib.ListN.{length}
use Rattle.refusal_place.proofs.Finding.{at-attribute, at-root, at_none, at-event}
use Rattle.refusal_place.proofs.byte_of.Goals as goal

pub returns-then-attribute-ne-NOWHERE : goal.returns-then-attribute-ne-NOWHERE
returns-then-attribute-ne-NOWHERE c =
    let a = c.args in
    at-attribute a.missing a.event a.attribute a.events.now a.attributes.now (length a.source.now) c.if-attribute-ne-NOWHERE.true _ c.attribute_byte.ensures

pub returns-then-missing-root : goal.returns-then-missing-root
returns-then-missing-root c =
    let a = c.args in
    at-root a.missing a.event a.attribute a.events.now a.attributes.now (length a.source.now) c.if-attribute-ne-NOWHERE.false _ c.root_byte-root.ensures c.if-missing-root.true

pub returns-then-event-eq-NOWHERE : goal.returns-then-event-eq-NOWHERE
returns-then-event-eq-NOWHERE c =
    let a = c.args in
    let if1 = c.if-attribute-ne-NOWHERE in
    let root = c.root_byte-root in
    at_none a.missing a.event a.attribute a.events.now a.attributes.now (length a.source.now) if1.false _ root.ensures c.if-missing-root.false c.if-event-eq-NOWHERE.true

pub returns : goal.returns
returns c =
    let a = c.args in
    let if1 = c.if-attribute-ne-NOWHERE in
    let root = c.root_byte-root in
    let if2 = c.if-missing-root in
    let event = c.event_byte in
    at-event a.missing a.event a.attribute a.events.now a.attributes.now (length a.source.now) if1.false _ root.ensures if2.false c.if-event-eq-NOWHERE.false _ event.ensures
