-- The point of a time's text, and the two parts that it makes. Assumes nothing.
use Prim.Native.Nat.{ℕ, suc, ◌+◌, ◌≤◌}
use mathlib.Core.Path.{◌≡◌, refl, sym, ap, ◌∙◌}
use mathlib.Core.List.{List, [], ◌∷◌, ◌++◌}
use mathlib.Core.Bool.{Bool, true, false, cond, and-eq-true_iff}
use native.Mathlib.Omega.{arith}
use native.Mathlib.Numerals.{add-one}
use borrow.Author.Tests.{ne_eqb, eqb-true}
use lib.Dec.{eqb}
use lib.ListN.{length, take, drop, drop_of_length-le}
use lib.Seq.{take_all, take_at, drop_at}
use Rattle.fraction.proofs.of_area.Lists.{drop_more}
use Rattle.fraction.specs.of_utf8.Utf8.{utf8}
use Rattle.fraction.proofs.of_utf8.Rules.{ascii-on}
use Rattle.fraction.specs.of_digits.Digits.{is_digit, all_digits}
use Rattle.fraction.proofs.of_digits.Ascii.{digit-decimal, digit-ascii}
use Rattle.fraction.proofs.of_digits.Texts.{digits_utf8}
use Rattle.time.specs.Time.{point, whole, fraction}

-- the parts, as code has them that found the point at p
module _ (s : List ℕ) (p : ℕ) (e : p ≡ point s) where
  pub whole-at : take p s ≡ whole s
  whole-at = ap (λ (n : ℕ). take n s) e

  pub fraction-at : drop (p + 1) s ≡ fraction s
  fraction-at = ap (λ (n : ℕ). drop n s) (add-one p ∙ ap suc e)

  pub whole-none : length s ≤ p → s ≡ whole s
  whole-none h = sym (take_all p s h) ∙ whole-at

  pub fraction-none : length s ≤ p → drop p s ≡ fraction s
  fraction-none h = drop_of_length-le s {i = p} h ∙ sym (drop_of_length-le s {i = p + 1} (omega arith)) ∙ fraction-at

-- digits, a point, and what stands behind it
point-between : (w f : List ℕ) → all_digits 10 w ≡ true → point (w ++ (0x2E ∷ f)) ≡ length w
point-between [] f d = refl
point-between (b ∷ w) f d =
    let k = (and-eq-true_iff (is_digit 10 b) (all_digits 10 w)).0 d in
    let h = digit-decimal b k.0 in
    ap (λ (t : Bool). cond t 0 (suc (point (w ++ (0x2E ∷ f))))) (ne_eqb b 0x2E (λ (q : b ≡ 0x2E). omega arith)) ∙ ap suc (point-between w f k.1)

module _ (w f : List ℕ) (d : all_digits 10 w ≡ true) where
  -- digits, a point and a fraction: the whole part is the digits
  pub whole-between : whole (w ++ (0x2E ∷ f)) ≡ w
  whole-between = ap (λ (n : ℕ). take n (w ++ (0x2E ∷ f))) (point-between w f d) ∙ take_at w (0x2E ∷ f) (length w) refl

  -- digits, a point and a fraction: the fraction is what follows the point
  pub fraction-between : fraction (w ++ (0x2E ∷ f)) ≡ f
  fraction-between =
      ap (λ (n : ℕ). drop n (w ++ (0x2E ∷ f))) (ap suc (point-between w f d) ∙ sym (add-one (length w)))
      ∙ drop_more (w ++ (0x2E ∷ f)) f 0x2E (length w) (drop_at w (0x2E ∷ f) (length w) refl)

-- digits and a point are UTF-8
pub parts-utf8 : (s : List ℕ) → all_digits 10 (whole s) ≡ true → all_digits 10 (fraction s) ≡ true → utf8 s ≡ true
parts-utf8 [] v d = refl
parts-utf8 (b ∷ s) v d = go (eqb b 0x2E) refl v d (λ (v : all_digits 10 (whole s) ≡ true) (d : all_digits 10 (fraction s) ≡ true). parts-utf8 s v d)
  where
    go : (t : Bool) → eqb b 0x2E ≡ t → all_digits 10 (take (cond t 0 (suc (point s))) (b ∷ s)) ≡ true → all_digits 10 (drop (suc (cond t 0 (suc (point s)))) (b ∷ s)) ≡ true
        → (all_digits 10 (whole s) ≡ true → all_digits 10 (fraction s) ≡ true → utf8 s ≡ true) → utf8 (b ∷ s) ≡ true
    go true q v d r = let h = eqb-true b 0x2E q in ascii-on b s (omega arith) ∙ digits_utf8 10 s d
    go false q v d r = let k = (and-eq-true_iff (is_digit 10 b) (all_digits 10 (whole s))).0 v in ascii-on b s (digit-ascii 10 b k.0) ∙ r k.1 d
