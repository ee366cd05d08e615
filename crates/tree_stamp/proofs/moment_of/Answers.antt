use mathlib.Core.Path.{refl}
use Rattle.tree_stamp.specs.Stamp.{cut_moment}
use Rattle.tree_stamp.proofs.moment_of.Goals as goal

pub returns : goal.returns
unfolding cut_moment
returns c =
    let field = c.field in
    let field2 = c.field-2 in
    let field3 = c.field-3 in
    let field4 = c.field-4 in
    let field5 = c.field-5 in
    rw (
      field.ensures,
      field2.ensures,
      field3.ensures,
      field4.ensures,
      field5.ensures,
      c.field-6.ensures,
      c.field-7.ensures,
      c.offset_of.ensures,
      c.field-8.ensures,
    ) refl
