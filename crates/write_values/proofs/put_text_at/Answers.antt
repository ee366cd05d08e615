use Rattle.write_values.proofs.put_text_at.Goals as goal

pub returns : goal.returns
returns c =
    let field = c.field in
    let field2 = c.field-2 in
    rw (c.part_of.ensures, field.ensures, field2.ensures) at c.put_escaped.ensures
