-- Text and values as they are written. Assumes nothing.
use Prim.Native.Nat.{ℕ, ◌≤◌, ◌<◌}
use mathlib.Core.Path.{◌≡◌}
use mathlib.Core.List.{List, [], ◌∷◌}
use borrow.Author.Tests.{ne_eqb}
use lib.ListN.{length, set}
use Rattle.names.specs.of_area.Answer.{gives, refuses}
use Rattle.names.specs.of_area.Area.{placing, laid}
use Rattle.names.proofs.of_area.Laying.{laying-start, laying_on, laying-put, laying-done, laying-full}
use Rattle.write_escape.specs.Escape.{written}
use Rattle.names.specs.of_refusal.declared.Cause.TheVariants as cause

-- a byte that stands for itself
module _ (b : ℕ) (h1 : b ≡ 0x26 → ⊥) (h2 : b ≡ 0x3C → ⊥) (h3 : b ≡ 0x3E → ⊥) (h4 : b ≡ 0x27 → ⊥) (h5 : b ≡ 0x22 → ⊥) where
  pub written-plain : written b ≡ b ∷ []
  unfolding written
  written-plain = simp (ne_eqb b 0x26 h1, ne_eqb b 0x3C h2, ne_eqb b 0x3E h3, ne_eqb b 0x27 h4, ne_eqb b 0x22 h5)

  module _ (out : List ℕ) where
    pub plain-full : length out ≤ 0 → (refuses cause.OutputFull ≡ placing cause.OutputFull (length out) (written b)) × (out ≡ laid out (written b))
    plain-full h = laying-full cause.OutputFull (laying_on (laying-start out (written b)) written-plain) h

    pub plain-put : 0 < length out → (gives 1 ≡ placing cause.OutputFull (length out) (written b)) × (set out 0 b ≡ laid out (written b))
    plain-put h = laying-done cause.OutputFull (laying-put (laying_on (laying-start out (written b)) written-plain) h)
