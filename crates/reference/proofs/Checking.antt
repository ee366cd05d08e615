-- The references of a value are checked one after the other. Assumes nothing.
use Prim.Native.Nat.{ℕ, ◌+◌, ◌-◌, ◌≤◌, ◌<◌}
use mathlib.Core.Path.{◌≡◌, sym, ap, ◌∙◌}
use mathlib.Core.List.{List}
use lib.ListN.{length, take, drop, get_or}
use Rattle.names.proofs.of_area.Parts.{rest_part}
use Rattle.reference.specs.Reference.{ref_at, refs_ok}
use Rattle.std.specs.Prelude.{Option, Some}
use Rattle.reference.proofs.Decoding.{refs-good, good-fits}

-- the references of the first i bytes are good
pub record Checking (s : List ℕ) (i : ℕ) : Type 0 where
  pub within : i ≤ length s
  pub whole : refs_ok s 0 ≡ refs_ok (drop i s) 0

module _ {s : List ℕ} {i : ℕ} (k : Checking s i) where
  module _ (h : i < length s) where
    module _ (a : get_or s i 0 ≡ 0x26) {r : Option (ℕ × ℕ)} (e : r ≡ ref_at (take (length s - (i + 1)) (drop (i + 1) s))) where
      behind : ref_at (drop (i + 1) s) ≡ r
      behind = sym (ap ref_at (rest_part s (i + 1))) ∙ sym e

      pub checking-good : (c w : ℕ) → r ≡ Some (c, w) → Checking s (i + 1 + w)
      checking-good c w q = record { within = good-fits s i h c w (behind ∙ q); whole = k.whole ∙ refs-good s i h a c w (behind ∙ q) }
