use mathlib.Core.Path.{◌∙◌}
use Rattle.xml_ends.proofs.Doctype.{no-doctype, doctype}
use Rattle.xml_ends.proofs.is_doctype.Goals as goal

pub returns-then-source-at : goal.returns-then-source-at
returns-then-source-at c = no-doctype c.args.source.now c.args.at c.if-source-at.true

pub returns : goal.returns
returns c = c.starts_with.ensures.value ∙ doctype c.args.source.now c.args.at
