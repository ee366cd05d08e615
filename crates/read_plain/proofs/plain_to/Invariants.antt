use Rattle.read_plain.specs.inside.Plain.{Plain}
use Rattle.read_plain.proofs.plain_to.Given as goal

abbrev pub invariant-loop-j : goal.invariant-loop-j
invariant-loop-j l = Plain l.attributes l.source l.first l.j
