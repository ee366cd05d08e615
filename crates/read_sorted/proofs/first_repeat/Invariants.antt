use Rattle.read_sorted.specs.inside.Repeats.{FirstOf}
use Rattle.key_sort.specs.inside.Numbers.{numbers_in}
use Rattle.read_sorted.proofs.first_repeat.Given as goal

abbrev pub invariant-loop-p : goal.invariant-loop-p
invariant-loop-p l = FirstOf l.attributes l.source (numbers_in l.bytes) l.end l.p l.found
