use mathlib.Core.Path.{refl}
use borrow.Author.Tests.{ne_eqb}
use Rattle.write_form.proofs.left_out.Goals as goal

pub returns-then-form-eq-IN_EMPTY : goal.returns-then-form-eq-IN_EMPTY
returns-then-form-eq-IN_EMPTY c = rw c.if-form-eq-IN_EMPTY.true refl

pub returns-then-form-eq-IN_TAG : goal.returns-then-form-eq-IN_TAG
returns-then-form-eq-IN_TAG c = rw c.if-form-eq-IN_TAG.true refl

pub returns-else-form-eq-IN_TAG : goal.returns-else-form-eq-IN_TAG
returns-else-form-eq-IN_TAG c = rw (ne_eqb c.args.form 1 c.if-form-eq-IN_EMPTY.false, ne_eqb c.args.form 2 c.if-form-eq-IN_TAG.false) refl
