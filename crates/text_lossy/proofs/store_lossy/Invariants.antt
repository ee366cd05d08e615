use Prim.Native.Nat.{◌-◌, ◌≤◌}
use lib.ListN.{length, drop}
use Rattle.utf8_lossy.proofs.of_area.Laying.{Laying}
use Rattle.text_lossy.specs.LossyText.{lossy_text}
use Rattle.text_lossy.proofs.store_lossy.Given as goal

abbrev pub invariant-loop-i : goal.invariant-loop-i
invariant-loop-i l = (l.i ≤ length l.s) × Laying l.initial.out l.out l.k (lossy_text l.s) (lossy_text (drop l.i l.s))

abbrev pub decreases-loop-i : goal.decreases-loop-i
decreases-loop-i l = length l.s - l.i
