use Rattle.key_sort.proofs.Running.{Running}
use Rattle.key_sort.specs.inside.Numbers.{numbers_in}
use Rattle.clean_order.specs.inside.CleanOrder.{comes_by}
use Rattle.key_sort.proofs.merge_up.Given as goal

abbrev pub invariant-loop-k : goal.invariant-loop-k
invariant-loop-k l = Running (comes_by l.clean l.attributes l.source) l.h l.n (numbers_in l.initial.bytes) (numbers_in l.bytes) l.i l.j l.k
