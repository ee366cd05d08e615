use mathlib.Core.Path.{ap}
use Rattle.clearing.specs.of_refusal.declared.Refusal.{Refusal}
use Rattle.clearing.specs.of_refusal.declared.Verdict.TheVariants.{Accepted}
use Rattle.reader.specs.declared.Reading.{Reading}
use Rattle.reader.proofs.accepting.Goals as goal

abbrev accepts : Refusal → Reading
accepts r = record { verdict = Accepted; refusal = r }

pub returns : goal.returns
returns c = ap accepts c.no_refusal.ensures
