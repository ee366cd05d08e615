use Rattle.list_values.proofs.put_name.Goals as goal

pub returns : goal.returns
returns c =
    let field = c.field in
    let field2 = c.field-2 in
    rw (c.part_of.ensures, field.ensures, field2.ensures) at c.put_quoted.ensures
