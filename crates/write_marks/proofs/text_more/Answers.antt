use Rattle.write_marks.proofs.Spelling.{text-goes}
use mathlib.Core.Path.{◌∙◌}
use Rattle.write_marks.proofs.text_more.Goals as goal

pub returns-in_default : goal.returns-in_default
returns-in_default c = c.shut.ensures ∙ text-goes c.args.k c.args.to _ c.in_default.is

pub returns : goal.returns
returns c = text-goes c.args.k c.args.to _ c.in-Some.is
