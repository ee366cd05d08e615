-- The character of a code point, form by form. Assumes nothing.
use Prim.Native.Nat.{ℕ, ◌+◌, ◌/◌, ◌%◌, ◌≤◌, ◌<◌}
use mathlib.Core.Bool.{true, false, and-false, false≢true}
use mathlib.Core.List.{[], ◌∷◌}
use mathlib.Core.Path.{◌≡◌, sym, ◌∙◌}
use native.Mathlib.Decide.{dec_lt}
use native.Mathlib.Omega.{arith}
use borrow.Author.Tests.{lt-ltb, le-ltb, lt-leb}
use Rattle.utf8.specs.Characters.{is_scalar, encode}

module _ (c : ℕ) where
  -- what is no scalar value has no bytes
  pub form-0 : is_scalar c ≡ false → encode c ≡ []
  unfolding encode
  form-0 s = rw s

  module _ (s : is_scalar c ≡ true) where
    -- a code point of ASCII is one byte
    pub form-1 : c < 0x80 → encode c ≡ c ∷ []
    unfolding encode
    form-1 h = simp (s, lt-ltb c 0x80 h)

    -- the two bytes of a code point from 80 to 7FF
    pub form-2 : 0x80 ≤ c → c < 0x800 → encode c ≡ (192 + c / 64) ∷ (128 + c % 64) ∷ []
    unfolding encode
    form-2 l h = simp (s, le-ltb c 0x80 l, lt-ltb c 0x800 h)

    -- the three bytes of a code point from 800 to FFFF
    pub form-3 : 0x800 ≤ c → c < 0x10000 → encode c ≡ (224 + c / 4096) ∷ (128 + c / 64 % 64) ∷ (128 + c % 64) ∷ []
    unfolding encode
    form-3 l h = simp (s, le-ltb c 0x80 (omega arith), le-ltb c 0x800 l, lt-ltb c 0x10000 h)

    -- the four bytes of a code point from 10000 on
    pub form-4 : 0x10000 ≤ c → encode c ≡ (240 + c / 262144) ∷ (128 + c / 4096 % 64) ∷ (128 + c / 64 % 64) ∷ (128 + c % 64) ∷ []
    unfolding encode
    form-4 l = simp (s, le-ltb c 0x80 (omega arith), le-ltb c 0x800 (omega arith), le-ltb c 0x10000 l)

    -- a scalar value is at most 10FFFF: the bound for the lead byte's sum
    pub scalar-most : c ≤ 0x10FFFF
    scalar-most = go (dec_lt 0x10FFFF c)
      where
        go : Dec (0x10FFFF < c) → c ≤ 0x10FFFF
        go (yes h) = absurd (false≢true (sym (simp (lt-leb c 0xD7FF (omega arith), lt-leb c 0x10FFFF h, and-false)) ∙ s))
        go (no h) = omega arith
