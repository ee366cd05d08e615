use Prim.Native.Nat.{ℕ}
use mathlib.Core.Path.{sym}
use lib.ListN.{length-replicate}
use Rattle.test_examples.proofs.try_limit.Goals as goal

pub slice_bounds-try_filled-end : goal.slice_bounds-try_filled-end
slice_bounds-try_filled-end g c = sym (length-replicate {A = ℕ} 327685 0)

pub try_filled-requires : goal.try_filled-requires
try_filled-requires g c = length-replicate {A = ℕ} 327685 0

pub returns : goal.returns
returns g c = tt
