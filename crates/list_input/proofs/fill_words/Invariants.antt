use Rattle.list_input.proofs.Filling.{Filling}
use Rattle.list_input.proofs.fill_words.Given as goal

abbrev pub invariant-loop-i : goal.invariant-loop-i
invariant-loop-i l = Filling l.initial.words l.s l.words l.i
