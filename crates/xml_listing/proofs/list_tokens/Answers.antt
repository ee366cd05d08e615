use lib.ListN.{length}
use Rattle.xml_listing.specs.XmlListing.{lent}
use Rattle.xml_listing.proofs.Answers.{table-shown, refused-shown}
use Rattle.xml_listing.proofs.list_tokens.Goals as goal

pub returns-in-Table : goal.returns-in-Table
returns-in-Table c =
    let a = c.args in
    let b = lent a.records.now a.text.now a.scratch.now a.out.now in
    let events-step = c.table_in in
    let attributes-step = c.table_in-in-Table in
    let p = c.public_listing.ensures in
    let h = table-shown a.events.now a.attributes.now a.source.now b (length a.out.now) _ _ a.told _ _ c.in-Table.is
    events-step.result.now attributes-step.result.now events-step.ensures attributes-step.ensures (p.out, p.count) in
    record { out = h.0; count = h.1; records = p.records; text = p.text; scratch = p.scratch }

pub returns-in-Refused : goal.returns-in-Refused
returns-in-Refused c =
    let a = c.args in
    let b = lent a.records.now a.text.now a.scratch.now a.out.now in
    let p = c.refuse_all.ensures in
    let h = refused-shown a.events.now a.attributes.now a.source.now b (length a.out.now) _ _ a.told _ _ c.in-Refused.is (p.out, p.count) in
    record { out = h.0; count = h.1; records = p.records; text = p.text; scratch = p.scratch }
