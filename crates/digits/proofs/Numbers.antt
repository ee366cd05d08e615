-- Which texts are numbers, and reading one digit by digit. Assumes nothing.
use Prim.Native.Nat.{ℕ, ◌+◌, ◌*◌, ◌^◌, ◌≤◌, ◌<◌}
use mathlib.Core.Path.{◌≡◌, refl, sym, ap, ◌∙◌}
use mathlib.Core.List.{List, []}
use mathlib.Core.Bool.{Bool, true, false, cond, ◌&&◌, and-false, and-eq-true_iff}
use native.Mathlib.Nat.{lt_of_lt_of_le}
use native.Mathlib.Omega.{arith}
use borrow.Author.Tests.{lt-ltb, le-ltb, le-leb, lt-leb, ltb-true, leb-true}
use lib.Dec.{ltb, leb}
use lib.ListN.{length, drop, get_or, drop_of_length-le}
use Rattle.utf8.proofs.of_area.Lists.{drop-next}
use Rattle.std.specs.Prelude.{Some, None}
use Rattle.digits.specs.Digits.{digit, all_digits, value_from, value, is_number, number_in}
use Rattle.digits.proofs.Values.{value_grows, value-below}

module _ (base most : ℕ) (s : List ℕ) where
  -- what a text that is a number has: some digits, only digits, and a value in range
  pub number-parts : is_number base most s ≡ true → (0 < length s) × (all_digits base s ≡ true) × (value base s ≤ most)
  unfolding is_number
  number-parts e =
      let p = (and-eq-true_iff (ltb 0 (length s)) (all_digits base s && leb (value base s) most)).0 e in
      let q = (and-eq-true_iff (all_digits base s) (leb (value base s) most)).0 p.1 in
      (ltb-true 0 (length s) p.0, q.0, leb-true (value base s) most q.1)

  -- some digits, only digits and a value in range make a text a number
  pub number-whole : 0 < length s → all_digits base s ≡ true → value base s ≤ most → is_number base most s ≡ true
  unfolding is_number
  number-whole h d l =
      (and-eq-true_iff (ltb 0 (length s)) (all_digits base s && leb (value base s) most)).1
      (lt-ltb 0 (length s) h, (and-eq-true_iff (all_digits base s) (leb (value base s) most)).1 (d, le-leb (value base s) most l))

  -- what is no number
  pub number-empty : length s ≤ 0 → is_number base most s ≡ false
  unfolding is_number
  number-empty h = ap (λ (t : Bool). t && (all_digits base s && leb (value base s) most)) (le-ltb 0 (length s) h)

  pub number-other : all_digits base s ≡ false → is_number base most s ≡ false
  unfolding is_number
  number-other d = ap (λ (t : Bool). ltb 0 (length s) && (t && leb (value base s) most)) d ∙ and-false (ltb 0 (length s))

  pub number-large : most < value base s → is_number base most s ≡ false
  unfolding is_number
  number-large l =
      ap (λ (t : Bool). ltb 0 (length s) && (all_digits base s && t)) (lt-leb (value base s) most l)
      ∙ ap (λ (t : Bool). ltb 0 (length s) && t) (and-false (all_digits base s)) ∙ and-false (ltb 0 (length s))

  -- digits that are too few to pass `most`
  pub number-field : 0 < length s → base ^ length s ≤ most + 1 → is_number base most s ≡ all_digits base s
  number-field h w = go (all_digits base s) refl
    where
      go : (t : Bool) → all_digits base s ≡ t → is_number base most s ≡ t
      go true d = let l = value-below base s d in number-whole h d (omega arith)
      go false d = number-other d

  -- the answer
  pub number_is : is_number base most s ≡ true → number_in base most s ≡ Some (value base s)
  unfolding number_in
  number_is e = rw e

  -- a text that is no number is answered with None
  pub number-not : is_number base most s ≡ false → number_in base most s ≡ None
  unfolding number_in
  number-not e = rw e

  -- the answer Some tells that the text is a number, and which
  pub is-number : (n : ℕ) → Some n ≡ number_in base most s → (is_number base most s ≡ true) × (n ≡ value base s)
  unfolding number_in
  is-number n e = go (is_number base most s) refl e
    where
      go : (t : Bool) → is_number base most s ≡ t → Some n ≡ cond t (Some (value base s)) None → (is_number base most s ≡ true) × (n ≡ value base s)
      go true q p = (q, cc)
      go false q p = let z : ◌≡◌ {A = ℕ} 0 1 = cc in absurd (omega arith)

  -- the answer None tells that the text is no number
  pub not-number : None ≡ number_in base most s → is_number base most s ≡ false
  unfolding number_in
  not-number e = go (is_number base most s) refl e
    where
      go : (t : Bool) → is_number base most s ≡ t → None ≡ cond t (Some (value base s)) None → is_number base most s ≡ false
      go true q p = let z : ◌≡◌ {A = ℕ} 0 1 = cc in absurd (omega arith)
      go false q p = q

-- the first i digits of s are read, and stand for v
pub record Reading (base most : ℕ) (s : List ℕ) (v i : ℕ) : Type 0 where
  pub within : i ≤ length s
  pub small : v ≤ most
  pub whole : value_from base v (drop i s) ≡ value base s
  pub digits : all_digits base (drop i s) ≡ all_digits base s

module _ {base most : ℕ} {s : List ℕ} {v i : ℕ} (r : Reading base most s v i) where
  pub reading-done : length s ≤ i → 0 < length s → Some v ≡ number_in base most s
  reading-done h p =
      let e : drop i s ≡ [] = drop_of_length-le s h in
      let w : v ≡ value base s = ap (value_from base v) (sym e) ∙ r.whole in
      let d : true ≡ all_digits base s = ap (all_digits base) (sym e) ∙ r.digits in
      let l = r.small in
      ap Some w ∙ sym (number_is base most s (number-whole base most s p (sym d) (omega arith)))

  module _ (d : ℕ) (h : i < length s) (e : d ≡ digit base (get_or s i 0)) where
    abbrev rest : List ℕ
    rest = drop (i + 1) s

    whole-on : value_from base (v * base + d) rest ≡ value base s
    whole-on = ap (λ (x : ℕ). value_from base (v * base + x) rest) e ∙ ap (value_from base v) (sym (drop-next s i h)) ∙ r.whole

    digits-on : (ltb d base && all_digits base rest) ≡ all_digits base s
    digits-on = ap (λ (x : ℕ). ltb x base && all_digits base rest) e ∙ ap (all_digits base) (sym (drop-next s i h)) ∙ r.digits

    pub reading-other : base ≤ d → None ≡ number_in base most s
    reading-other k =
        sym (number-not base most s (number-other base most s (sym digits-on ∙ ap (λ (t : Bool). t && all_digits base rest) (le-ltb d base k))))

    pub reading-large : 0 < base → most < v * base + d → None ≡ number_in base most s
    reading-large p k =
        sym (number-not base most s (number-large base most s (rw whole-on at (lt_of_lt_of_le k (value_grows base p (v * base + d) rest)))))
