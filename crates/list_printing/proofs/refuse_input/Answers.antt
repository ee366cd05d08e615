use Rattle.list_printing.proofs.refuse_input.Goals as goal

pub returns : goal.returns
returns c = record { out = c.refuse.ensures.area; count = c.refuse.ensures.count; records = c.clear_all.ensures.records_after; text = c.clear_all.ensures.text_after; scratch = c.clear_all.ensures.scratch_after }
