use Rattle.xml_state.specs.of_xml_chars.Chars.{crosses}
use mathlib.Core.Path.{refl}
use Rattle.xml_checks.proofs.crosses.Goals as goal

pub returns : goal.returns
unfolding crosses
returns c = refl
