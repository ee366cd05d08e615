-- The code point of the first bytes of a list, in the terms of code that reads them one by one. Assumes nothing.
use Prim.Native.Nat.{ℕ, ◌+◌, ◌*◌, ◌%◌, ◌≤◌}
use mathlib.Core.List.{List, [], ◌∷◌}
use mathlib.Core.Path.{◌≡◌, refl}
use native.Mathlib.Omega.{arith}
use lib.ListN.{length, get_or, take}
use Rattle.utf8.specs.Characters.{scalar}

front-1 : (s : List ℕ) → 1 ≤ length s → take 1 s ≡ get_or s 0 0 ∷ []
front-1 [] h = absurd (omega arith)
front-1 (a ∷ s) h = refl

front-2 : (s : List ℕ) → 2 ≤ length s → take 2 s ≡ get_or s 0 0 ∷ get_or s 1 0 ∷ []
front-2 [] h = absurd (omega arith)
front-2 (a ∷ []) h = absurd (omega arith)
front-2 (a ∷ b ∷ s) h = refl

front-3 : (s : List ℕ) → 3 ≤ length s → take 3 s ≡ get_or s 0 0 ∷ get_or s 1 0 ∷ get_or s 2 0 ∷ []
front-3 [] h = absurd (omega arith)
front-3 (a ∷ []) h = absurd (omega arith)
front-3 (a ∷ b ∷ []) h = absurd (omega arith)
front-3 (a ∷ b ∷ c ∷ s) h = refl

front-4 : (s : List ℕ) → 4 ≤ length s → take 4 s ≡ get_or s 0 0 ∷ get_or s 1 0 ∷ get_or s 2 0 ∷ get_or s 3 0 ∷ []
front-4 [] h = absurd (omega arith)
front-4 (a ∷ []) h = absurd (omega arith)
front-4 (a ∷ b ∷ []) h = absurd (omega arith)
front-4 (a ∷ b ∷ c ∷ []) h = absurd (omega arith)
front-4 (a ∷ b ∷ c ∷ d ∷ s) h = refl

module _ (s : List ℕ) (n : ℕ) (h : n ≤ length s) (a : ℕ) (ea : a ≡ get_or s 0 0) where
  -- one byte is its own code point
  pub scalar-1 : n ≡ 1 → a ≡ scalar (take n s)
  scalar-1 e = rw (e, front-1 s (omega arith)) ea

  -- the code's sum of two bytes is their code point
  pub scalar-2 : (b : ℕ) → b ≡ get_or s 1 0 → n ≡ 2 → a % 32 * 64 + b % 64 ≡ scalar (take n s)
  scalar-2 b eb e = rw (e, front-2 s (omega arith), ea, eb) refl

  -- the code's sum of three bytes is their code point
  pub scalar-3 : (b c : ℕ) → b ≡ get_or s 1 0 → c ≡ get_or s 2 0 → n ≡ 3 → a % 16 * 4096 + b % 64 * 64 + c % 64 ≡ scalar (take n s)
  scalar-3 b c eb ec e = rw (e, front-3 s (omega arith), ea, eb, ec) refl

  -- the code's sum of four bytes is their code point
  pub scalar-4 : (b c d : ℕ) → b ≡ get_or s 1 0 → c ≡ get_or s 2 0 → d ≡ get_or s 3 0 → n ≡ 4
      → a % 8 * 262144 + b % 64 * 4096 + c % 64 * 64 + d % 64 ≡ scalar (take n s)
  scalar-4 b c d eb ec ed e = rw (e, front-4 s (omega arith), ea, eb, ec, ed) refl
