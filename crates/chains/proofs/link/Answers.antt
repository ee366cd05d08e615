use lib.ListN.{length-set}
use native.Mathlib.Omega.{arith}
use Rattle.chains.proofs.link.Goals as goal

pub bounds-work-b-2 : goal.bounds-work-b-2
bounds-work-b-2 c = simp length-set (omega arith)
