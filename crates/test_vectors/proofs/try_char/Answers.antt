use mathlib.Core.Path.{ap}
use mathlib.Core.List.{append-nil}
use native.Mathlib.Omega.{arith}
use lib.ListN.{length}
use Rattle.test_vectors.proofs.try_char.Goals as goal

pub slice_bounds-front-end : goal.slice_bounds-front-end
slice_bounds-front-end g c = let k = c.copy_into in omega (arith, ap length (append-nil k.new.out), k.auto.out)
