use mathlib.Core.Path.{sym}
use native.Mathlib.Omega.{arith}
use lib.Seq.{length-take-le}
use Rattle.test_vectors.proofs.try_line.Goals as goal

pub slice_bounds-try_leaf-end : goal.slice_bounds-try_leaf-end
slice_bounds-try_leaf-end g c = sym (length-take-le _ _ (omega arith))
