use Rattle.case_tags.proofs.Counting.{Counted}
use Rattle.case_tags.proofs.case_tags.Given as goal

abbrev pub invariant-loop-i : goal.invariant-loop-i
invariant-loop-i l = Counted l.events l.source l.count l.i
