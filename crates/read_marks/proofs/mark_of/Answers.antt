use native.Mathlib.Omega.{arith}
use Rattle.read_marks.proofs.mark_of.Goals as goal

pub returns : goal.returns
returns c = λ h. absurd (omega (arith, h))
