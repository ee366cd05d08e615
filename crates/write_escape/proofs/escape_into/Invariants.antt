use Rattle.std.specs.Slice.Iter.{chunks_rest}
use Rattle.names.proofs.of_area.Laying.{Laying}
use Rattle.write_escape.specs.Escape.{escaped}
use Rattle.write_escape.proofs.escape_into.Given as goal

abbrev pub invariant-loop-block : goal.invariant-loop-block
invariant-loop-block l =
    (goal.iterator-loop-block).can_next l.block-iterator × (goal.iterator-loop-block).is_finite l.block-iterator
    × Laying l.initial.out l.out l.k (escaped l.fn.s) (escaped (chunks_rest l.block-iterator))
