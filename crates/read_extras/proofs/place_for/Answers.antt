use mathlib.Core.Path.{sym}
use Rattle.read_extras.proofs.place_for.Goals as goal

pub returns-then-hint-extras : goal.returns-then-hint-extras
returns-then-hint-extras c = λ k. sym (k c.if-hint-extras.true)

pub returns : goal.returns
returns c = λ k. c.place_of.ensures
