use Prim.Native.Nat.{ℕ}
use mathlib.Core.List.{List}
use lib.ListN.{drop}
use Rattle.write_entries.specs.of_write_table.Laid.{pairs_of_it}
use Rattle.write_entries.specs.of_write_items.inside.Slots.{slots}
use Rattle.write_entries.specs.of_write_marks.inside.Kept.{kept}
use Rattle.write_entries.proofs.of_write_table.Writing.{Coming}
use Rattle.write_slots.proofs.put_slots.Given as goal

abbrev pub invariant-loop-code : goal.invariant-loop-code
invariant-loop-code l = (ev : List ℕ) → Coming (kept l.initial.mark ev l.initial.attributes l.initial.bytes) (pairs_of_it (slots l.text l.r l.codes))
    (kept l.mark ev l.attributes l.bytes) (pairs_of_it (slots l.text l.r (drop l.code-index l.codes)))
