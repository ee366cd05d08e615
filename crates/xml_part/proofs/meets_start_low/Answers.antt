use mathlib.Core.Bool.{or-false}
use Rattle.xml_part.proofs.meets_start_low.Goals as goal

pub returns : goal.returns
returns c = cc (or-false c.crosses-8.result)
