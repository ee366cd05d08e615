use Prim.Native.Nat.{◌≤◌, ◌-◌}
use mathlib.Core.Path.{◌≡◌}
use lib.ListN.{length}
use Rattle.test_writing.proofs.put_full_runs.Given as goal

abbrev pub invariant-loop-at : goal.invariant-loop-at
invariant-loop-at l = (l.at ≤ 161408) × (length l.records ≡ 161440) × (length l.records ≡ length l.initial.records)

abbrev pub decreases-loop-at : goal.decreases-loop-at
decreases-loop-at l = 161408 - l.at
