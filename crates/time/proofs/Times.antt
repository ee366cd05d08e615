-- When a whole part and a fraction make a time, and what a time's text stands for. Assumes nothing.
use Prim.Native.Nat.{ℕ, zero, suc, ◌+◌, ◌≤◌, ◌<◌}
use mathlib.Core.Path.{◌≡◌, refl, sym, ap, ◌∙◌, subst}
use mathlib.Core.List.{List, [], ◌∷◌}
use mathlib.Core.Bool.{Bool, true, false, cond, ◌&&◌, and-eq-true_iff}
use native.Mathlib.Omega.{arith}
use borrow.Author.Tests.{le-leb, lt-ltb, le-ltb, leb-true, leb-false, ltb-true, eqb-true, eqb-false}
use lib.Dec.{leb, ltb, eqb}
use lib.ListN.{length}
use Rattle.fraction.specs.of_area.Answer.{Answer, gives, refuses}
use Rattle.fraction.specs.of_utf8.Utf8.{utf8}
use Rattle.fraction.specs.of_digits.Digits.{all_digits, value, is_number, number_in}
use Rattle.std.specs.Prelude.{Option, Some, None}
use Rattle.fraction.specs.Fraction.{is_fraction, billionths, billionths_of}
use Rattle.fraction.proofs.Fractions.{is-fraction, nine-below}
use Rattle.time.specs.Time.{make_time, is_time, seconds_of, nanos_of, time_of, whole, fraction, up_to, formed_time}
use Rattle.time.proofs.Points.{parts-utf8}
use Rattle.fraction.specs.of_refusal.declared.Cause.TheVariants as cause

-- ---- a number that may have no digit
module _ (most : ℕ) (s : List ℕ) where
  pub up-to-none : length s ≡ 0 → Some 0 ≡ up_to most s
  up-to-none h = go s h
    where
      go : (s : List ℕ) → length s ≡ 0 → Some 0 ≡ up_to most s
      go [] h = sym (ap (λ (t : Bool). cond t (Some 0) None) (le-leb 0 most (omega arith)))
      go (b ∷ s) h = absurd (omega arith)

  pub up-to-some : (length s ≡ 0 → ⊥) → number_in 10 most s ≡ up_to most s
  unfolding number_in is_number
  up-to-some h = ap (λ (t : Bool). cond (t && (all_digits 10 s && leb (value 10 s) most)) (Some (value 10 s)) None) (lt-ltb 0 (length s) (omega arith))

  told : (t : Bool) (v : ℕ) → None ≡ cond t (Some v) None → t ≡ false
  told true v e = let z : ◌≡◌ {A = ℕ} 0 1 = cc in absurd (omega arith)
  told false v e = refl

  named : (t : Bool) (n v : ℕ) → Some n ≡ cond t (Some v) None → (t ≡ true) × (n ≡ v)
  named true n v e = (refl, cc)
  named false n v e = let z : ◌≡◌ {A = ℕ} 0 1 = cc in absurd (omega arith)

  up-to-not : None ≡ up_to most s → (all_digits 10 s && leb (value 10 s) most) ≡ false
  up-to-not e = told (all_digits 10 s && leb (value 10 s) most) (value 10 s) e

  pub up-to-is : (n : ℕ) → Some n ≡ up_to most s → (all_digits 10 s ≡ true) × (n ≡ value 10 s) × (value 10 s ≤ most)
  up-to-is n e =
      let p = named (all_digits 10 s && leb (value 10 s) most) n (value 10 s) e in
      let q = (and-eq-true_iff (all_digits 10 s) (leb (value 10 s) most)).0 p.0 in
      (q.0, p.1, leb-true (value 10 s) most q.1)

-- ---- the parts of a time
and_no : (a b : Bool) → b ≡ false → (a && b) ≡ false
and_no true b h = h
and_no false b h = refl

module _ (w f : List ℕ) where
  pub no_digit : (eqb (length w) 0 && eqb (length f) 0) ≡ true → make_time w f ≡ false
  unfolding make_time
  no_digit h =
      let p = (and-eq-true_iff (eqb (length w) 0) (eqb (length f) 0)).0 h in
      let q = eqb-true (length w) 0 p.0 in
      let r = eqb-true (length f) 0 p.1 in
      let last = ltb (value 10 w) 8388608 in
      let d = ltb 0 (length w + length f) && last in
      let e : d ≡ false = ap (λ (t : Bool). t && last) (le-ltb 0 (length w + length f) (omega arith)) in
      and_no (all_digits 10 w) (all_digits 10 f && (leb (length f) 9 && d)) (and_no (all_digits 10 f) (leb (length f) 9 && d) (and_no (leb (length f) 9) d e))

  pub some-digit : (eqb (length w) 0 && eqb (length f) 0) ≡ false → 0 < length w + length f
  some-digit h = go (length w) (length f) h
    where
      go : (m n : ℕ) → (eqb m 0 && eqb n 0) ≡ false → 0 < m + n
      go zero n h = let k = eqb-false n 0 h in omega arith
      go (suc m) n h = omega arith

  pub bad-whole : None ≡ up_to 8388607 w → make_time w f ≡ false
  unfolding make_time
  bad-whole e =
      go (all_digits 10 w) (all_digits 10 f) (leb (length f) 9) (ltb 0 (length w + length f)) (leb (value 10 w) 8388607) refl (up-to-not 8388607 w e)
    where
      go : (a b c d x : Bool) → leb (value 10 w) 8388607 ≡ x → (a && x) ≡ false → (a && (b && (c && (d && ltb (value 10 w) 8388608)))) ≡ false
      go false b c d x q h = refl
      go true b c d x q h =
          let over = leb-false (value 10 w) 8388607 (q ∙ h) in
          let z = ltb (value 10 w) 8388608 in
          and_no b (c && (d && z)) (and_no c (d && z) (and_no d z (le-ltb (value 10 w) 8388608 (omega arith))))

  pub bad-fraction : is_fraction f ≡ false → make_time w f ≡ false
  unfolding make_time
  bad-fraction e = go (all_digits 10 w) (all_digits 10 f) (leb (length f) 9) (ltb 0 (length w + length f) && ltb (value 10 w) 8388608) e
    where
      go : (a b c d : Bool) → (b && c) ≡ false → (a && (b && (c && d))) ≡ false
      go false b c d h = refl
      go true false c d h = refl
      go true true c d h = ap (λ (t : Bool). t && d) h

  -- what makes two parts a time: digits, at most nine behind the point, and seconds in range
  pub good-parts : all_digits 10 w ≡ true → all_digits 10 f ≡ true → length f ≤ 9 → 0 < length w + length f → value 10 w ≤ 8388607 → make_time w f ≡ true
  unfolding make_time
  good-parts a b c d e = rw (a, b, le-leb (length f) 9 c, lt-ltb 0 (length w + length f) d, lt-ltb (value 10 w) 8388608 (omega arith)) refl

  -- what a time's two parts have
  pub time-parts : make_time w f ≡ true → (all_digits 10 w ≡ true) × (all_digits 10 f ≡ true) × (length f ≤ 9) × (value 10 w < 8388608)
  unfolding make_time
  time-parts h =
      let tested = ltb 0 (length w + length f) && ltb (value 10 w) 8388608 in
      let p = (and-eq-true_iff (all_digits 10 w) (all_digits 10 f && (leb (length f) 9 && tested))).0 h in
      let q = (and-eq-true_iff (all_digits 10 f) (leb (length f) 9 && tested)).0 p.1 in
      let r = (and-eq-true_iff (leb (length f) 9) tested).0 q.1 in
      let l = (and-eq-true_iff (ltb 0 (length w + length f)) (ltb (value 10 w) 8388608)).0 r.1 in
      (p.0, q.0, leb-true (length f) 9 r.0, ltb-true (value 10 w) 8388608 l.1)

-- ---- the answer
module _ (w f : List ℕ) where
  pub formed-not : make_time w f ≡ false → None ≡ formed_time w f
  formed-not h = sym (ap (λ (t : Bool). cond {A = Option (ℕ × ℕ)} t (Some (value 10 w, billionths f)) None) h)

  pub formed-is : make_time w f ≡ true → (a b : ℕ) → a ≡ value 10 w → b ≡ billionths f → Some (a, b) ≡ formed_time w f
  formed-is h a b p q = rw (h, p, q) refl

  -- both parts are numbers
  module _ (seconds nanos : ℕ) (es : Some seconds ≡ up_to 8388607 w) (en : Some nanos ≡ billionths_of f) where
    pub seconds-small : seconds ≤ 8388607
    seconds-small = let p = up-to-is 8388607 w seconds es in omega (arith, p.1, p.2)

    pub nanos-small : nanos < 1000000000
    nanos-small = let p = is-fraction f nanos en in rw p.1 (nine-below f p.0)

    pub formed-good : (eqb (length w) 0 && eqb (length f) 0) ≡ false → Some (seconds, nanos) ≡ formed_time w f
    formed-good s =
        let p = up-to-is 8388607 w seconds es in
        let q = is-fraction f nanos en in
        let r = (and-eq-true_iff (all_digits 10 f) (leb (length f) 9)).0 q.0 in
        formed-is (good-parts w f p.0 r.0 (leb-true (length f) 9 r.1) (some-digit w f s) p.2) seconds nanos p.1 q.1

  is-formed : (a b : ℕ) → Some (a, b) ≡ formed_time w f → (make_time w f ≡ true) × (a ≡ value 10 w) × (b ≡ billionths f)
  is-formed a b e = go (make_time w f) refl e
    where
      go : (t : Bool) → make_time w f ≡ t → Some (a, b) ≡ cond {A = Option (ℕ × ℕ)} t (Some (value 10 w, billionths f)) None → (make_time w f ≡ true) × (a ≡ value 10 w) × (b ≡ billionths f)
      go true q p = let r : ◌≡◌ {A = ℕ × ℕ} (a, b) (value 10 w, billionths f) = cc in (q, ap (λ (x : ℕ × ℕ). x.0) r, ap (λ (x : ℕ × ℕ). x.1) r)
      go false q p = let z : ◌≡◌ {A = ℕ} 0 1 = cc in absurd (omega arith)

  not-formed : None ≡ formed_time w f → make_time w f ≡ false
  not-formed e = go (make_time w f) e
    where
      go : (t : Bool) → None ≡ cond {A = Option (ℕ × ℕ)} t (Some (value 10 w, billionths f)) None → t ≡ false
      go true p = let z : ◌≡◌ {A = ℕ} 0 1 = cc in absurd (omega arith)
      go false p = refl

pub time-utf8 : (s : List ℕ) → is_time s ≡ true → utf8 s ≡ true
time-utf8 s h = let p = time-parts (whole s) (fraction s) h in parts-utf8 s p.0 p.1

module _ (s : List ℕ) where
  -- a text that is a time is answered with its seconds and nanoseconds
  pub time-is : is_time s ≡ true → time_of s ≡ gives (seconds_of s, nanos_of s)
  time-is h = rw (time-utf8 s h, h) refl

  -- what is read is under 8388608 seconds, and less than a second behind them
  pub time-range : (a b : ℕ) → time_of s ≡ gives (a, b) → (a < 8388608) × (b < 1000000000)
  time-range a b e = go (utf8 s) (is_time s) refl e
    where
      go : (u t : Bool) → is_time s ≡ t → cond {A = Answer (ℕ × ℕ)} u (cond t (gives (seconds_of s, nanos_of s)) (refuses cause.BadTime)) (refuses cause.NotUtf8) ≡ gives (a, b)
          → (a < 8388608) × (b < 1000000000)
      go true true i e =
          let k = time-parts (whole s) (fraction s) i in
          let q : ◌≡◌ {A = ℕ × ℕ} (seconds_of s, nanos_of s) (a, b) = cc in
          subst (λ (p : ℕ × ℕ). (p.0 < 8388608) × (p.1 < 1000000000)) q (k.3, nine-below (fraction s) (rw (k.1, le-leb (length (fraction s)) 9 k.2) refl))
      go true false i e = let z : ◌≡◌ {A = ℕ} 0 1 = cc in absurd (omega arith)
      go false t i e = let z : ◌≡◌ {A = ℕ} 0 1 = cc in absurd (omega arith)

  pub read_is : (a b : ℕ) → Some (a, b) ≡ formed_time (whole s) (fraction s) → gives (a, b) ≡ time_of s
  read_is a b e = let p = is-formed (whole s) (fraction s) a b e in rw (p.1, p.2) (sym (time-is p.0))

  pub read-bad : None ≡ formed_time (whole s) (fraction s) → utf8 s ≡ true → refuses cause.BadTime ≡ time_of s
  read-bad e u = rw (u, not-formed (whole s) (fraction s) e) refl
