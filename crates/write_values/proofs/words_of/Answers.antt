use Rattle.write_values.proofs.words_of.Goals as goal

pub returns : goal.returns
returns c = rw (c.field.ensures, c.field-2.ensures, c.field-3.ensures, c.field-4.ensures)
