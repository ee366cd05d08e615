use Prim.Native.Nat.{◌≤◌, ◌-◌}
use mathlib.Core.Path.{◌≡◌}
use lib.ListN.{length, drop}
use Rattle.utf8_chars.specs.of_utf8.Characters.{chars}
use Rattle.trim.proofs.Trimming.{end_from}
use Rattle.trim.proofs.end_forward.Given as goal

abbrev pub invariant-loop-j : goal.invariant-loop-j
invariant-loop-j l = (l.to ≤ l.j) × (l.j ≤ length l.s) × (end_from 0 0 (chars l.s) ≡ end_from l.to l.j (chars (drop l.j l.s)))

abbrev pub decreases-loop-j : goal.decreases-loop-j
decreases-loop-j l = length l.s - l.j
