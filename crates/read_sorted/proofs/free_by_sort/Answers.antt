use Rattle.key_sort.specs.of_area.Area.{zeros}
use mathlib.Core.Path.{ap, ◌∙◌}
use Rattle.read_sorted.proofs.free_by_sort.Goals as goal

pub returns : goal.returns
returns c =
    let free-sorted = c.free_sorted-found in
    record { first_repeat = free-sorted.ensures; bytes_after = c.clear.ensures ∙ ap zeros free-sorted.auto.bytes }
