use Rattle.write_values.proofs.put_named.Goals as goal

pub returns : goal.returns
returns c =
    rw (c.part_of.ensures, c.saturating_sub-len.ensures, c.byte_at.ensures, c.byte_at-start.ensures) at c.put.ensures
