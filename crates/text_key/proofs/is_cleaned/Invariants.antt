use Prim.Native.Nat.{◌-◌}
use lib.ListN.{length}
use Rattle.text_key.proofs.Keys.{Matching}
use Rattle.text_key.proofs.is_cleaned.Given as goal

abbrev pub invariant-loop-i : goal.invariant-loop-i
invariant-loop-i l = Matching l.stored l.raw l.i l.k

abbrev pub decreases-loop-i : goal.decreases-loop-i
decreases-loop-i l = length l.raw - l.i
