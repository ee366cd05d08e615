use Prim.Native.Nat.{◌≤◌, ◌-◌}
use mathlib.Core.Path.{◌≡◌}
use lib.ListN.{length}
use Rattle.test_examples.proofs.fill_events.Given as goal

abbrev pub invariant-loop-i : goal.invariant-loop-i
invariant-loop-i l = (l.i ≤ 65537) × (length l.events ≡ 327685) × (length l.events ≡ length l.initial.events)

abbrev pub decreases-loop-i : goal.decreases-loop-i
decreases-loop-i l = 65537 - l.i
