use Rattle.write_words.proofs.Behind.{Going}
use Rattle.write_words.proofs.put_words.Given as goal

abbrev pub invariant-loop-w : goal.invariant-loop-w
invariant-loop-w l = Going l.initial.out l.words l.initial.mark l.out l.mark l.w-index
