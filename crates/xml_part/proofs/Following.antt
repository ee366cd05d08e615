-- A further byte, way by way. Assumes nothing.
use Prim.Native.Nat.{ℕ, ◌+◌, ◌-◌, ◌*◌, ◌%◌, ◌≤◌, ◌<◌, max}
use native.Mathlib.Nat.{mul-le-mul}
use native.Mathlib.Omega.{arith}
use mathlib.Core.Path.{◌≡◌, refl, sym, ◌∙◌}
use mathlib.Core.Bool.{Bool, true, false, ◌||◌}
use lib.Dec.{ltb}
use borrow.Author.Tests.{ltb-false}
use Rattle.xml_checks.specs.of_xml_chars.Chars.{meets}
use Rattle.xml_checks.specs.of_xml_state.declared.Part.{Part}
use Rattle.std.specs.Prelude.{Some, None}
use Rattle.xml_checks.specs.of_xml_state.inside.Parts.{class_of, unit_of, low_of, part_of, follow_of}

left_false : (x y : Bool) → (x || y) ≡ false → x ≡ false
left_false true y e = e
left_false false y e = refl

-- a byte of 80 to BF
pub further : (b : ℕ) → (ltb b 0x80 || ltb 0xBF b) ≡ false → 0x80 ≤ b
further b e = ltb-false b 0x80 (left_false (ltb b 0x80) (ltb 0xBF b) e)

pub scaled : {x u : ℕ} → x < 256 → u ≤ 4096 → x * u ≤ 1048576
scaled {x} {u} h k = mul-le-mul (let q : x ≤ 256 = omega arith in q) k

pub outside : (p : Part) (b : ℕ) → (ltb b 0x80 || ltb 0xBF b) ≡ true → None ≡ follow_of p b
unfolding follow_of
outside p b e = rw e

module _ (p : Part) (b : ℕ) {u w x k m : ℕ} {r : Bool} (e : (ltb b 0x80 || ltb 0xBF b) ≡ false) (eu : u ≡ unit_of p.left) (ew : w ≡ p.low) (ex : x ≡ b - 0x80)
    (ek : k ≡ p.least) (em : m ≡ max (w + x * u) k) (er : r ≡ meets (class_of p.class) m (w + x * u + (u - 1))) where
  some-here : r ≡ meets (class_of p.class) (max (low_of p b) p.least) (low_of p b + (unit_of p.left - 1))
  some-here = er ∙ rw (em, ek, ew, ex, eu) refl

  pub takes : {l : ℕ} → r ≡ true → l ≡ p.left - 1 → Some (part_of p.class l ((w + x * u) % 4294967296) p.least) ≡ follow_of p b
  unfolding follow_of
  takes t el = rw (e, sym some-here ∙ t, el, ew, ex, eu) refl

  pub none-begins : r ≡ false → None ≡ follow_of p b
  unfolding follow_of
  none-begins t = rw (e, sym some-here ∙ t) refl
