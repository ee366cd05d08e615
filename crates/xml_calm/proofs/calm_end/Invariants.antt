use Prim.Native.Nat.{◌-◌, ◌≤◌}
use mathlib.Core.Path.{◌≡◌}
use lib.ListN.{length}
use Rattle.xml_calm.specs.inside.Calm.{stop_of, Calm}
use Rattle.xml_calm.proofs.calm_end.Given as goal

abbrev pub invariant-loop-at : goal.invariant-loop-at
invariant-loop-at l = (l.from ≤ l.at) × (l.stop ≡ stop_of l.mode) × (stop_of l.mode ≡ 0 → ⊥) × Calm l.source l.mode l.from l.at

abbrev pub decreases-loop-at : goal.decreases-loop-at
decreases-loop-at l = length l.source - l.at
