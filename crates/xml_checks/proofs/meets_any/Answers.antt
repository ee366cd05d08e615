use mathlib.Core.Bool.{or-false}
use Rattle.xml_checks.proofs.meets_any.Goals as goal

pub returns : goal.returns
returns c = cc (or-false c.crosses-5.result)
