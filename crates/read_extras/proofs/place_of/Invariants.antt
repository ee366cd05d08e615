use Rattle.read_extras.proofs.Placing.{Placing}
use Rattle.text_key.specs.of_text.Value.{value_text}
use Rattle.read_extras.proofs.place_of.Given as goal

abbrev pub invariant-loop-i : goal.invariant-loop-i
invariant-loop-i l = Placing l.own l.text (value_text l.key) l.extras l.i
