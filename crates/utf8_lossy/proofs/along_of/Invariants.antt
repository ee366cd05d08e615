use Prim.Native.Nat.{◌+◌, ◌-◌}
use mathlib.Core.Path.{◌≡◌}
use lib.ListN.{drop}
use Rattle.utf8_lossy.specs.Lossy.{along}
use Rattle.utf8_lossy.proofs.along_of.Given as goal

abbrev pub invariant-loop-i : goal.invariant-loop-i
invariant-loop-i l = along l.s l.n l.lo l.hi ≡ l.i + along (drop l.i l.s) (l.n - l.i) l.least l.most
