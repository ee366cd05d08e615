use mathlib.Core.Path.{◌∙◌}
use native.Mathlib.Omega.{arith}
use Rattle.names.proofs.of_area.Parts.{rest_part}
use Rattle.integer.proofs.Integers.{unsigned-none, unsigned-plus, unsigned-bare}
use Rattle.integer.proofs.behind_plus.Goals as goal

pub returns-then-is_empty : goal.returns-then-is_empty
returns-then-is_empty c = unsigned-none _ (grind arith)

pub returns-then-s-eq43 : goal.returns-then-s-eq43
returns-then-s-eq43 c =
    let args = c.args in
    rest_part args.s.now 1 ∙ unsigned-plus _ (grind arith) c.if-s-eq43.true

pub returns : goal.returns
returns c = unsigned-bare _ (grind arith) c.if-s-eq43.false
