use Prim.Native.Nat.{ℕ}
use mathlib.Core.Path.{ap, ◌∙◌}
use native.Mathlib.Omega.{arith}
use lib.ListN.{take}
use Rattle.utf8.specs.Characters.{scalar}
use Rattle.utf8.proofs.Runs.{width-length, width-most}
use Rattle.utf8_chars.proofs.scalar_of.Goals as goal

pub scalar_in-requires : goal.scalar_in-requires
scalar_in-requires c = let s = c.args.s.now in omega (arith, width-length s, width-most s, c.char_width.ensures)

pub returns : goal.returns
returns c = c.scalar_in.ensures ∙ ap (λ (n : ℕ). scalar (take n c.args.s.now)) c.char_width.ensures
