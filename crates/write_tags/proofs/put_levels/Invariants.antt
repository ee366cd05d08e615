use Prim.Native.Nat.{◌*◌}
use lib.ListN.{replicate}
use Rattle.list_values.specs.of_list_text.inside.Behind.{filled, Puts}
use Rattle.write_tags.proofs.put_levels.Given as goal

abbrev pub invariant-loop : goal.invariant-loop
invariant-loop l = Puts (filled l.initial.mark l.initial.bytes) (replicate (l.counter * 4) 32) (filled l.mark l.bytes)
