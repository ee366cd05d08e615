-- The character of a code point is a character of the grammar, and has that code point. Assumes nothing.
use Prim.Native.Nat.{ℕ, ◌+◌, ◌*◌, ◌/◌, ◌%◌, ◌≤◌, ◌<◌}
use mathlib.Core.Bool.{Bool, true, false, false≢true}
use mathlib.Core.List.{List, [], ◌∷◌, ◌++◌}
use mathlib.Core.Path.{◌≡◌, refl, sym, ap, ◌∙◌}
use native.Mathlib.Decide.{dec_lt}
use native.Mathlib.Omega.{arith}
use borrow.Author.Tests.{lt-leb}
use lib.Dec.{lit≤}
use lib.ListN.{length, take}
use lib.Seq.{take_at}
use Rattle.area.specs.Area.{zeros, laid}
use Rattle.area.proofs.Laying.{laid-fits, length-laid}
use Rattle.utf8.specs.Characters.{scalar, is_scalar, encode}
use Rattle.utf8.specs.Grammar.{Char, one, two, three-e0, three-e1, three-ed, three-ee, four_f0, four_f1, four_f4}
use Rattle.utf8.specs.Utf8.{utf8}
use Rattle.utf8.proofs.Forms.{form-0, form-1, form-2, form-3, form-4, scalar-most}
use Rattle.utf8.proofs.Rules.{char-on, char-size}

low-six : (x : ℕ) → (128 + x % 64) % 64 ≡ x % 64
low-six x = omega arith

top-three : (x : ℕ) → x < 8 → (240 + x) % 8 ≡ x
top-three x h = omega arith

sum-4 : (c p q r x y z : ℕ) → c ≡ p * 64 + x → p ≡ q * 64 + y → q ≡ r * 64 + z → r * 262144 + z * 4096 + y * 64 + x ≡ c
sum-4 c p q r x y z e f g = omega arith

module _ (c : ℕ) (s : is_scalar c ≡ true) where
  -- decoding undoes encoding
  pub scalar-encode : scalar (encode c) ≡ c
  scalar-encode = go (dec_lt c 0x80) (dec_lt c 0x800) (dec_lt c 0x10000)
    where
      go : Dec (c < 0x80) → Dec (c < 0x800) → Dec (c < 0x10000) → scalar (encode c) ≡ c
      go (yes p) q r = ap scalar (form-1 c s p)
      go (no p) (yes q) r = ap scalar (form-2 c s (omega arith) q) ∙ (omega arith)
      go (no p) (no q) (yes r) = ap scalar (form-3 c s (omega arith) r) ∙ (omega arith)
      go (no p) (no q) (no r) =
          let m : c / 262144 < 8 = omega (arith, scalar-most c s) in
          ap scalar (form-4 c s (omega arith))
          ∙ rw (top-three (c / 262144) m, low-six (c / 4096), low-six (c / 64), low-six c)
          (sum-4 c (c / 64) (c / 4096) (c / 262144) (c % 64) (c / 64 % 64) (c / 4096 % 64) (omega arith) (omega arith) (omega arith))

  no_surrogate : 0xD800 ≤ c → c < 0xE000 → ⊥
  no_surrogate l h = false≢true (sym (simp (lt-leb c 0xD7FF (omega arith), lt-leb 0xE000 c h)) ∙ s)

  pub encode-char : Char (encode c)
  encode-char = from-80 (dec_lt c 0x80)
    where
      from-800 : Dec (c < 0x1000) → Dec (c < 0xD000) → Dec (c < 0xD800) → 0x800 ≤ c → c < 0x10000 → Char ((224 + c / 4096) ∷ (128 + c / 64 % 64) ∷ (128 + c % 64) ∷ [])
      from-800 (yes p) q r l h = three-e0 {a = 224 + c / 4096} {b = 128 + c / 64 % 64} {c = 128 + c % 64} (omega arith) (omega arith) (omega arith)
      from-800 (no p) (yes q) r l h = three-e1 {a = 224 + c / 4096} {b = 128 + c / 64 % 64} {c = 128 + c % 64} (omega arith) (omega arith) (omega arith)
      from-800 (no p) (no q) (yes r) l h = three-ed {a = 224 + c / 4096} {b = 128 + c / 64 % 64} {c = 128 + c % 64} (omega arith) (omega arith) (omega arith)
      from-800 (no p) (no q) (no r) l h = upper (dec_lt c 0xE000)
        where
          upper : Dec (c < 0xE000) → Char ((224 + c / 4096) ∷ (128 + c / 64 % 64) ∷ (128 + c % 64) ∷ [])
          upper (yes t) = absurd (no_surrogate (omega arith) t)
          upper (no t) = three-ee {a = 224 + c / 4096} {b = 128 + c / 64 % 64} {c = 128 + c % 64} (omega arith) (omega arith) (omega arith)

      from-10000 : Dec (c < 0x40000) → Dec (c < 0x100000) → 0x10000 ≤ c → c ≤ 0x10FFFF → Char ((240 + c / 262144) ∷ (128 + c / 4096 % 64) ∷ (128 + c / 64 % 64) ∷ (128 + c % 64) ∷ [])
      from-10000 (yes p) q l h = four_f0 {a = 240 + c / 262144} {b = 128 + c / 4096 % 64} {c = 128 + c / 64 % 64} {d = 128 + c % 64} (omega arith) (omega arith) (omega arith) (omega arith)
      from-10000 (no p) (yes q) l h = four_f1 {a = 240 + c / 262144} {b = 128 + c / 4096 % 64} {c = 128 + c / 64 % 64} {d = 128 + c % 64} (omega arith) (omega arith) (omega arith) (omega arith)
      from-10000 (no p) (no q) l h = four_f4 {a = 240 + c / 262144} {b = 128 + c / 4096 % 64} {c = 128 + c / 64 % 64} {d = 128 + c % 64} (omega arith) (omega arith) (omega arith) (omega arith)

      above_800 : Dec (c < 0x10000) → 0x800 ≤ c → Char (encode c)
      above_800 (yes h) l = rw (form-3 c s l h) (from-800 (dec_lt c 0x1000) (dec_lt c 0xD000) (dec_lt c 0xD800) l h)
      above_800 (no h) l = rw (form-4 c s (omega arith)) (from-10000 (dec_lt c 0x40000) (dec_lt c 0x100000) (omega arith) (scalar-most c s))

      above_80 : Dec (c < 0x800) → 0x80 ≤ c → Char (encode c)
      above_80 (yes h) l = rw (form-2 c s l h) (two {a = 192 + c / 64} {b = 128 + c % 64} (omega arith) (omega arith))
      above_80 (no h) l = above_800 (dec_lt c 0x10000) (omega arith)

      from-80 : Dec (c < 0x80) → Char (encode c)
      from-80 (yes h) = rw (form-1 c s h) (one {a = c} (omega arith))
      from-80 (no h) = above_80 (dec_lt c 0x800) (omega arith)

-- encoding keeps UTF-8, also where there is nothing to encode
pub utf8_encode : (c : ℕ) (t : List ℕ) → utf8 (encode c ++ t) ≡ utf8 t
utf8_encode c t = go (is_scalar c) refl
  where
    go : (u : Bool) → is_scalar c ≡ u → utf8 (encode c ++ t) ≡ utf8 t
    go true s = char-on (encode-char c s) t
    go false s = ap (λ (l : List ℕ). utf8 (l ++ t)) (form-0 c s)

-- a character has at most four bytes, whatever the number is
pub encode-most : (c : ℕ) → length (encode c) ≤ 4
encode-most c = go (is_scalar c) refl
  where
    go : (u : Bool) → is_scalar c ≡ u → length (encode c) ≤ 4
    go true s = (char-size (encode-char c s)).1
    go false s = rw (form-0 c s) (lit≤ tt)

-- what the answer of `encode_of` tells
pub coded-front : (c : ℕ) {n : ℕ} {bytes : List ℕ} → (n ≡ length (encode c)) × (bytes ≡ laid (zeros 4) (encode c)) → (n ≤ 4) × (length bytes ≡ 4) × (take n bytes ≡ encode c)
coded-front c {n} {bytes} p =
    let m = encode-most c in (
      omega (arith, p.0),
      ap length p.1 ∙ length-laid (zeros 4) (encode c),
      rw (p.0, p.1, laid-fits (zeros 4) (encode c) m) (take_at (encode c) _ (length (encode c)) refl),
    )
