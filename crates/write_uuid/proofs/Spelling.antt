-- A UUID's text, stored into a row of bytes that has its hyphens. Assumes nothing.
use Prim.Native.Nat.{ℕ, suc, ◌+◌, ◌/◌, ◌%◌}
use mathlib.Core.Path.{◌≡◌, refl}
use mathlib.Core.List.{List}
use native.Mathlib.Omega.{arith}
use lib.ListN.{set}
use lib.Seq.{sets}
use Rattle.uuids.specs.of_names.Bytes.{bytes}
use Rattle.uuids.specs.declared.Words.{Words}
use Rattle.write_uuid.specs.Written.{hex_digit, hex_octets, uuid_text}

module _ (l : List ℕ) (at n : ℕ) where
  pub octets-stored : (a b c d : ℕ) → a ≡ hex_digit (n / 4096 % 16) → b ≡ hex_digit (n / 256 % 16) → c ≡ hex_digit (n / 16 % 16) → d ≡ hex_digit (n % 16)
      → set (set (set (set l at a) (at + 1) b) (at + 2) c) (at + 3) d ≡ sets l at (hex_octets 2 n)
  octets-stored a b c d p q r s =
      let z : n / 4096 ≡ n / 256 / 16 = omega arith in
      let e : at + 1 ≡ suc at = omega arith in
      let f : at + 2 ≡ suc (suc at) = omega arith in
      let g : at + 3 ≡ suc (suc (suc at)) = omega arith in
      rw (p, q, r, s, z, e, f, g) refl

-- the halves of the four words at their places
pub words-stored : (w : Words)
    → sets (sets (sets (sets (sets (sets (sets (sets (bytes "00000000-0000-0000-0000-000000000000") 0 (hex_octets 2 (w.a / 65536))) 4 (hex_octets 2 w.a)) 9 (hex_octets 2 (w.b / 65536)))
    14 (hex_octets 2 w.b)) 19 (hex_octets 2 (w.c / 65536))) 24 (hex_octets 2 w.c)) 28 (hex_octets 2 (w.d / 65536))) 32 (hex_octets 2 w.d) ≡ uuid_text w
unfolding uuid_text
words-stored w =
    let e : w.a / 256 / 256 ≡ w.a / 65536 = omega arith in
    let f : w.d / 256 / 256 ≡ w.d / 65536 = omega arith in
    rw (e, f) refl
