use Prim.Native.Nat.{◌*◌}
use mathlib.Core.Path.{◌≡◌}
use mathlib.Core.Bool.{true}
use lib.ListN.{take}
use Rattle.escape.specs.inside.Plain.{plain}
use Rattle.escape.proofs.is_plain_long.Given as goal

abbrev pub invariant-loop-k : goal.invariant-loop-k
invariant-loop-k l = plain (take (l.k * 16) l.s) ≡ true
