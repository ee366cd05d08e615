use borrow.Author.Tests.{eq-eqb, ne_eqb}
use Rattle.write_marks.proofs.place.Goals as goal

pub returns-then-n-eq0 : goal.returns-then-n-eq0
returns-then-n-eq0 c = λ h. rw (eq-eqb c.args.n 0 c.if-n-eq0.true)

pub returns : goal.returns
returns c = λ h. rw (ne_eqb c.args.n 0 c.if-n-eq0.false) (c.word.ensures h)
