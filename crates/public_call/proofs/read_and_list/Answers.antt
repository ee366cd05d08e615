use Rattle.public_call.proofs.Listings.{read-accepted, read-refused, passed, left-layout}
use Rattle.public_claims.proofs.Once.{reads-scratch, reads-refused, once-accepted, left-accepted, once-refused, left-refused}
use Rattle.list_cleared.specs.of_lister.Answer.{listing_from}
use Rattle.reader.specs.of_area.Area.{zeros}
use lib.ListN.{length}
use mathlib.Core.Path.{ap, ◌∙◌}
use Rattle.public_call.proofs.read_and_list.Goals as goal

pub list_and_clear-requires : goal.list_and_clear-requires
list_and_clear-requires c =
    let a = c.args in
    let r = c.read-answer in
    let e = read-accepted r.result _ r.ensures.answer c.in-Accepted.is in
    left-layout a.events.now a.attributes.now a.source.now (length a.records.now) (length a.text.now) (length a.scratch.now) _ _ e r.ensures.records r.ensures.text

pub returns-in-Accepted : goal.returns-in-Accepted
returns-in-Accepted c =
    let a = c.args in
    let r = c.read-answer in
    let l = c.list_and_clear in
    let e = read-accepted r.result _ r.ensures.answer c.in-Accepted.is in
    let m = length a.records.now in
    let n = length a.text.now in
    let s = length a.scratch.now in
    let k = length a.out.now in record { answer = l.ensures.answer ∙ ap listing_from (once-accepted a.events.now a.attributes.now a.source.now m n s k _ _ e r.ensures.records r.ensures.text); out = l.ensures.out ∙ left-accepted a.events.now a.attributes.now a.source.now m n s k _ _ e r.ensures.records r.ensures.text; records = l.ensures.records ∙ ap zeros r.auto.records; text = l.ensures.text ∙ ap zeros r.auto.text; scratch = r.ensures.scratch ∙ reads-scratch a.events.now a.attributes.now a.source.now m n s }

pub returns-in-Refused : goal.returns-in-Refused
returns-in-Refused c =
    let a = c.args in
    let r = c.read-answer in
    let p = c.pass_on in
    let q = read-refused r.result _ r.ensures.answer c.in-Refused.is in
    let m = length a.records.now in
    let n = length a.text.now in
    let s = length a.scratch.now in
    let k = length a.out.now in
    let z = reads-refused a.events.now a.attributes.now a.source.now m n s q.0 q.1 in record { answer = passed r.result _ r.ensures.answer q.0 q.1 _ p.ensures.answer ∙ ap listing_from (once-refused a.events.now a.attributes.now a.source.now m n s k q.0 q.1); out = p.ensures.out ∙ left-refused a.events.now a.attributes.now a.source.now m n s k q.0 q.1; records = r.ensures.records ∙ z.0; text = r.ensures.text ∙ z.1; scratch = r.ensures.scratch ∙ reads-scratch a.events.now a.attributes.now a.source.now m n s }
