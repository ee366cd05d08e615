use Prim.Native.Nat.{◌-◌}
use mathlib.Core.Path.{◌≡◌}
use Rattle.table.specs.Table.{count_of, bad_from}
use Rattle.table.proofs.Walking.{Walking}
use Rattle.table.proofs.check_table.Given as goal

abbrev pub invariant-loop-i : goal.invariant-loop-i
invariant-loop-i l =
    Walking l.events l.attributes l.size (count_of l.events) l.i × (bad_from l.attributes l.size (l.known.end - l.known.start) l.known.start ≡ l.known.end)
