-- The test for UTF-8 and the width of a character, byte by byte. Assumes nothing.
use Prim.Native.Nat.{ℕ, zero, suc, ◌+◌, ◌-◌, ◌≤◌, ◌<◌, suc-le-suc}
use mathlib.Core.Bool.{Bool, true, false, cond, ◌&&◌, ◌||◌, false≢true, and-eq-true_iff, and_assoc}
use mathlib.Core.List.{List, [], ◌∷◌}
use mathlib.Core.Path.{◌≡◌, refl, sym, ap, ◌∙◌}
use native.Mathlib.Numerals.{add-one}
use native.Mathlib.Omega.{arith}
use borrow.Author.Tests.{lt-ltb}
use lib.Dec.{ltb, eqb, eqb-suc-zero, lit≤}
use lib.ListN.{length, get_or, drop, drop_of_length-le}
use Rattle.area.proofs.Lists.{drop-next, one_less}
use Rattle.utf8.specs.Utf8.{need, low, high, within, runs, ok, utf8, width}

-- the bounds of the rows
pub need-most : (b : ℕ) → need b ≤ 3
unfolding need
need-most b = go (ltb b 0x80) (ltb b 0xE0) (ltb b 0xF0) (ltb b 0xF5)
  where
    go : (p q r t : Bool) → cond p 0 (cond q 1 (cond r 2 (cond t 3 1))) ≤ 3
    go true q r t = lit≤ tt
    go false true r t = lit≤ tt
    go false false true t = lit≤ tt
    go false false false true = lit≤ tt
    go false false false false = lit≤ tt

-- the byte behind a lead byte is at least 80 (hexadecimal)
pub low-least : (b : ℕ) → 0x80 ≤ low b
unfolding low
low-least b = go (eqb b 0xE0) (eqb b 0xF0)
  where
    go : (t u : Bool) → 0x80 ≤ cond t 0xA0 (cond u 0x90 0x80)
    go true u = lit≤ tt
    go false true = lit≤ tt
    go false false = lit≤ tt

pub high-most : (b : ℕ) → high b ≤ 0xBF
unfolding high
high-most b = go (ltb b 0xC2 || ltb 0xF4 b) (eqb b 0xED) (eqb b 0xF4)
  where
    go : (p q r : Bool) → cond p 0 (cond q 0x9F (cond r 0x8F 0xBF)) ≤ 0xBF
    go true q r = lit≤ tt
    go false true r = lit≤ tt
    go false false true = lit≤ tt
    go false false false = lit≤ tt

-- behind an ASCII byte nothing is needed
pub need-ascii : (b : ℕ) → b < 0x80 → need b ≡ 0
unfolding need
need-ascii b h = simp (lt-ltb b 0x80 h)

-- between characters the range of the next byte says nothing
pub ok-zero : (s : List ℕ) (lo hi : ℕ) → ok s 0 lo hi ≡ utf8 s
ok-zero [] lo hi = refl
ok-zero (x ∷ s) lo hi = refl

-- characters from here on: the rest of this one, and characters after it
pub ok-runs : (s : List ℕ) (n lo hi : ℕ) → ok s n lo hi ≡ (runs s n lo hi && utf8 (drop n s))
ok-runs [] zero lo hi = refl
ok-runs (b ∷ s) zero lo hi = refl
ok-runs [] (suc n) lo hi = refl
ok-runs (b ∷ s) (suc n) lo hi = rw (ok-runs s n 0x80 0xBF) (sym (and_assoc (within lo hi b) (runs s n 0x80 0xBF) (utf8 (drop n s))))

pub runs-length : (s : List ℕ) (n lo hi : ℕ) → runs s n lo hi ≡ true → n ≤ length s
runs-length s zero lo hi e = omega arith
runs-length [] (suc n) lo hi e = absurd (false≢true e)
runs-length (b ∷ s) (suc n) lo hi e = suc-le-suc (runs-length s n 0x80 0xBF ((and-eq-true_iff (within lo hi b) (runs s n 0x80 0xBF)).0 e).1)

-- the test at a place of the list
module _ (s : List ℕ) (i k lo hi : ℕ) where
  pub ok_end : length s ≤ i → ok (drop i s) k lo hi ≡ eqb k 0
  ok_end h = ap (λ (l : List ℕ). ok l k lo hi) (drop_of_length-le s h) ∙ go k
    where
      go : (n : ℕ) → ok [] n lo hi ≡ eqb n 0
      go zero = refl
      go (suc n) = sym (eqb-suc-zero n)

  module _ (h : i < length s) where
    pub ok-lead : k ≡ 0 → ok (drop i s) k lo hi ≡ ok (drop (i + 1) s) (need (get_or s i 0)) (low (get_or s i 0)) (high (get_or s i 0))
    ok-lead e = ap (λ (l : List ℕ). ok l k lo hi) (drop-next s i h) ∙ ap (λ (n : ℕ). ok (get_or s i 0 ∷ drop (i + 1) s) n lo hi) e

    pub ok-ascii : k ≡ 0 → get_or s i 0 < 0x80 → ok (drop i s) k lo hi ≡ ok (drop (i + 1) s) k lo hi
    ok-ascii e p =
        let b = get_or s i 0 in
        ok-lead e ∙ ap (λ (n : ℕ). ok (drop (i + 1) s) n (low b) (high b)) (need-ascii b p) ∙ ok-zero (drop (i + 1) s) (low b) (high b)
        ∙ sym (ok-zero (drop (i + 1) s) lo hi) ∙ ap (λ (n : ℕ). ok (drop (i + 1) s) n lo hi) (sym e)

    pub ok-tail : (t : Bool) → 0 < k → within lo hi (get_or s i 0) ≡ t → ok (drop i s) k lo hi ≡ (t && ok (drop (i + 1) s) (k - 1) 0x80 0xBF)
    ok-tail t m e =
        ap (λ (l : List ℕ). ok l k lo hi) (drop-next s i h) ∙ ap (λ (n : ℕ). ok (get_or s i 0 ∷ drop (i + 1) s) n lo hi) (one_less k m)
        ∙ ap (λ (u : Bool). u && ok (drop (i + 1) s) (k - 1) 0x80 0xBF) e

    -- one following byte, and those behind it: a turn of the code's loop
    pub runs-next : (t : Bool) → 0 < k → within lo hi (get_or s i 0) ≡ t → runs (drop i s) k lo hi ≡ (t && runs (drop (i + 1) s) (k - 1) 0x80 0xBF)
    runs-next t m e =
        ap (λ (l : List ℕ). runs l k lo hi) (drop-next s i h) ∙ ap (λ (n : ℕ). runs (get_or s i 0 ∷ drop (i + 1) s) n lo hi) (one_less k m)
        ∙ ap (λ (u : Bool). u && runs (drop (i + 1) s) (k - 1) 0x80 0xBF) e

  -- bytes are needed where the list ends: there is no character
  pub runs-end : 0 < k → length s ≤ i → runs (drop i s) k lo hi ≡ false
  runs-end m h = rw (drop_of_length-le s h, one_less k m)

  -- no more bytes are needed: there is a character
  pub runs_done : k ≤ 0 → runs (drop i s) k lo hi ≡ true
  runs_done h = let z : k ≡ 0 = omega arith in rw z

-- the width, from the test that it makes
pub width_some : (s : List ℕ) (b : ℕ) → runs s (need b) (low b) (high b) ≡ true → width (b ∷ s) ≡ suc (need b)
width_some s b e = rw e

-- a lead byte whose following bytes don't suit begins no character
pub width-none : (s : List ℕ) (b : ℕ) → runs s (need b) (low b) (high b) ≡ false → width (b ∷ s) ≡ 0
width-none s b e = rw e

-- no bytes begin no character
pub width-empty : (s : List ℕ) → length s ≡ 0 → width s ≡ 0
width-empty [] e = refl
width-empty (b ∷ s) e = absurd (omega arith)

-- the first character lies in the list
pub width-length : (s : List ℕ) → width s ≤ length s
width-length [] = omega arith
width-length (b ∷ s) = go (runs s (need b) (low b) (high b)) refl
  where
    go : (t : Bool) → runs s (need b) (low b) (high b) ≡ t → width (b ∷ s) ≤ suc (length s)
    go true q = let z : need b ≤ length s = runs-length s (need b) (low b) (high b) q in rw (width_some s b q) (omega arith)
    go false q = rw (width-none s b q) (omega arith)

-- the first character has at most four bytes
pub width-most : (s : List ℕ) → width s ≤ 4
width-most [] = omega arith
width-most (b ∷ s) = go (runs s (need b) (low b) (high b)) refl
  where
    go : (t : Bool) → runs s (need b) (low b) (high b) ≡ t → width (b ∷ s) ≤ 4
    go true q = rw (width_some s b q) (omega (arith, need-most b))
    go false q = rw (width-none s b q) (omega arith)

-- the width, from what the code has found
module _ (s : List ℕ) (n lo hi : ℕ) (h : 0 < length s) (en : n ≡ need (get_or s 0 0)) (el : lo ≡ low (get_or s 0 0)) (eh : hi ≡ high (get_or s 0 0)) where
  found : (t : Bool) → t ≡ runs (drop 1 s) n lo hi → runs (drop 1 s) (need (get_or s 0 0)) (low (get_or s 0 0)) (high (get_or s 0 0)) ≡ t
  found t e = rw (← en, ← el, ← eh) (sym e)

  -- the code found the following bytes: its answer is the character's width
  pub width-found : (t : Bool) → t ≡ runs (drop 1 s) n lo hi → t ≡ true → n + 1 ≡ width s
  width-found t e q = add-one n ∙ ap suc en ∙ sym (ap width (drop-next s 0 h) ∙ width_some (drop 1 s) (get_or s 0 0) (found t e ∙ q))

  -- the code missed one of them: its answer 0 is the width
  pub width-missed : (t : Bool) → t ≡ runs (drop 1 s) n lo hi → t ≡ false → 0 ≡ width s
  width-missed t e q = sym (ap width (drop-next s 0 h) ∙ width-none (drop 1 s) (get_or s 0 0) (found t e ∙ q))
