use lib.ListN.{take}
use Rattle.read_each.specs.inside.Fresh.{fresh}
use Rattle.read_each.proofs.Going.{Going}
use Rattle.read_each.proofs.read_each.Given as goal

abbrev pub invariant-loop-j : goal.invariant-loop-j
invariant-loop-j l =
    Going l.kind l.attributes l.source l.range.first l.range.end l.initial.own l.initial.text (fresh l.kind (take l.fill l.initial.text)) l.own l.text l.j l.given
