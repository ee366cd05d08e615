use Rattle.xml_listing.proofs.refuse_all.Goals as goal

pub returns : goal.returns
returns c = record { out = c.refuse.ensures.area; count = c.refuse.ensures.count; records = c.clear_all.ensures.records_after; text = c.clear_all.ensures.text_after; scratch = c.clear_all.ensures.scratch_after }
