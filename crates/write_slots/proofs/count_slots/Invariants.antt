use Rattle.write_slots.proofs.Counting.{Counting}
use Rattle.write_slots.proofs.count_slots.Given as goal

abbrev pub invariant-loop-code : goal.invariant-loop-code
invariant-loop-code l = Counting l.r l.codes l.n l.code-index
