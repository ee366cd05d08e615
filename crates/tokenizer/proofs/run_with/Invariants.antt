use Prim.Native.Nat.{◌-◌}
use lib.ListN.{length}
use Rattle.xml_skip.specs.of_xml_records.inside.Loop.{At}
use Rattle.tokenizer.proofs.run_with.Given as goal

abbrev pub invariant-loop-at : goal.invariant-loop-at
invariant-loop-at l = At l.source (length l.initial.events) (length l.initial.attributes) l.at l.st l.events l.attributes

abbrev pub decreases-loop-at : goal.decreases-loop-at
decreases-loop-at l = length l.source - l.at
