use Rattle.public_call.proofs.Listings.{once-printed, once-unprinted}
use Rattle.public_call.proofs.Writing.{refused-there}
use lib.ListN.{length}
use Rattle.public_call.proofs.public_listing.Goals as goal

pub returns-in-Accepted : goal.returns-in-Accepted
returns-in-Accepted c =
    let a = c.args in
    let o = c.read_and_list-listing in
    let h = once-printed a.events.now a.attributes.now a.source.now (length a.records.now) (length a.text.now) (length a.scratch.now) (length a.out.now)
    o.result o.ensures.answer _ c.in-Accepted.is o.ensures.out in
    record { out = h.0; count = h.1; records = o.ensures.records; text = o.ensures.text; scratch = o.ensures.scratch }

pub returns-in-Refused : goal.returns-in-Refused
returns-in-Refused c =
    let a = c.args in
    let o = c.read_and_list-listing in
    let e = once-unprinted a.events.now a.attributes.now a.source.now (length a.records.now) (length a.text.now) (length a.scratch.now) (length a.out.now)
    o.result o.ensures.answer c.in-Refused.is in
    let h = refused-there (length a.out.now) o.new.out _ _ _ o.auto.out e c.refuse.ensures.area c.refuse.ensures.count in
    record { out = h.0; count = h.1; records = o.ensures.records; text = o.ensures.text; scratch = o.ensures.scratch }
