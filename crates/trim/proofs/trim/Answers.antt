use mathlib.Core.Path.{sym}
use lib.Seq.{length-take-le}
use Rattle.trim.proofs.Trimming.{both_ends}
use Rattle.trim.proofs.trim.Goals as goal

pub slice_bounds-result-end : goal.slice_bounds-result-end
slice_bounds-result-end c = sym (length-take-le _ _ c.end_of-to.ensures.0)

pub returns : goal.returns
returns c =
    let args = c.args in
    both_ends args.s.now c.start_of-from.result c.end_of-to.result c.start_of-from.ensures.1 c.end_of-to.ensures.1
