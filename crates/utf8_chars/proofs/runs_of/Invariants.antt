use Prim.Native.Nat.{◌-◌, ◌≤◌}
use mathlib.Core.Path.{◌≡◌}
use lib.ListN.{length, drop}
use Rattle.utf8.specs.Utf8.{runs}
use Rattle.utf8_chars.proofs.runs_of.Given as goal

abbrev pub invariant-loop-i : goal.invariant-loop-i
invariant-loop-i l = (l.n ≤ length l.s) × (runs l.s l.n l.lo l.hi ≡ runs (drop l.i l.s) (l.n - l.i) l.least l.most)
