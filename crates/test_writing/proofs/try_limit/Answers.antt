use Prim.Native.Nat.{ℕ}
use mathlib.Core.Path.{sym}
use lib.ListN.{length-replicate}
use Rattle.test_writing.proofs.try_limit.Goals as goal

pub slice_bounds-try_runs-end : goal.slice_bounds-try_runs-end
slice_bounds-try_runs-end g c = sym (length-replicate {A = ℕ} 161440 0)

pub slice_bounds-try_runs-end-2 : goal.slice_bounds-try_runs-end-2
slice_bounds-try_runs-end-2 g c = sym (length-replicate {A = ℕ} 327685 7)

pub slice_bounds-try_runs-end-3 : goal.slice_bounds-try_runs-end-3
slice_bounds-try_runs-end-3 g c = sym (length-replicate {A = ℕ} 64 7)

pub slice_bounds-try_runs-end-4 : goal.slice_bounds-try_runs-end-4
slice_bounds-try_runs-end-4 g c = sym (length-replicate {A = ℕ} 524288 7)

pub try_runs-requires : goal.try_runs-requires
try_runs-requires g c = length-replicate {A = ℕ} 161440 0
