-- Kept along the loop: the sums are those of the first records.
use Rattle.std.proofs.Common.{◌≡◌, take}
use Rattle.sheet_sums.specs.inside.Running.{begun, onward}
use Rattle.sheet.proofs.release_sheet.Given as goal

abbrev pub invariant-loop-c : goal.invariant-loop-c
invariant-loop-c l = l.t ≡ onward begun (take l.c-index l.c-items)
