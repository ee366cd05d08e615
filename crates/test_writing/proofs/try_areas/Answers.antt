use mathlib.Core.Path.{sym}
use lib.Seq.{length-take-le}
use Rattle.test_writing.proofs.try_areas.Goals as goal

pub slice_bounds-try_write-end-3 : goal.slice_bounds-try_write-end-3
slice_bounds-try_write-end-3 g c =
    let pre = c.requires in
    sym (length-take-le _ _ pre.1)

pub slice_bounds-try_write-end-4 : goal.slice_bounds-try_write-end-4
slice_bounds-try_write-end-4 g c =
    let pre = c.requires in
    sym (length-take-le _ _ pre.2)
