-- The fraction of a second: its digits, and what they stand for. Assumes nothing.
use Prim.Native.Nat.{ℕ, suc, ◌+◌, ◌-◌, ◌≤◌, ◌<◌}
use mathlib.Core.Path.{◌≡◌, refl, sym, ap, ◌∙◌}
use mathlib.Core.Bool.{Bool, true, false, cond, ◌&&◌, and-eq-true_iff}
use mathlib.Core.List.{List, [], ◌∷◌}
use native.Mathlib.Omega.{arith}
use borrow.Author.Tests.{eq-eqb, ne_eqb, lt-leb, le-leb, leb-true, lt-ltb}
use lib.Dec.{leb, ltb, eqb}
use lib.ListN.{length, get_or, take, drop, length-drop, drop_of_length-le}
use lib.Seq.{length-take-le}
use Rattle.names.proofs.of_area.Lists.{drop-next}
use Rattle.fraction.specs.of_digits.Digits.{digit, is_digit, all_digits}
use Rattle.std.specs.Prelude.{Some, None}
use Rattle.fraction.specs.Fraction.{is_fraction, billionths_of}
use Rattle.fraction.proofs.Fractions.{is-fraction, not-fraction, nine-below}
use Rattle.clock.specs.of_fixed.Fields.{part}
use Rattle.clock.proofs.of_fixed.Tests.{fails}
use Rattle.timestamp.specs.Timestamp.{digit_run, places, fraction_tests, nanos_of}
use Rattle.timestamp.specs.inside.Leaves.{fraction_of}

-- ---- how many digits a text begins with
decimal-class : (b : ℕ) → is_digit 10 b ≡ (leb 0x30 b && leb b 0x39)
unfolding digit
decimal-class b = go (leb 0x30 b && leb b 0x39) refl
  where
    go : (t : Bool) → (leb 0x30 b && leb b 0x39) ≡ t → ltb (cond t (b - 0x30) 10) 10 ≡ t
    go true h =
        let p = (and-eq-true_iff (leb 0x30 b) (leb b 0x39)).0 h in
        let q = leb-true b 0x39 p.1 in
        lt-ltb (b - 0x30) 10 (omega arith)
    go false h = refl

pub run_length : (s : List ℕ) → digit_run s ≤ length s
run_length [] = omega arith
run_length (b ∷ s) = go (is_digit 10 b) (run_length s)
  where
    go : (t : Bool) → digit_run s ≤ length s → cond t (suc (digit_run s)) 0 ≤ suc (length s)
    go true h = omega arith
    go false h = omega arith

pub run-digits : (s : List ℕ) → all_digits 10 (take (digit_run s) s) ≡ true
run-digits [] = refl
run-digits (b ∷ s) = go (is_digit 10 b) refl (run-digits s)
  where
    go : (t : Bool) → is_digit 10 b ≡ t → all_digits 10 (take (digit_run s) s) ≡ true → all_digits 10 (take (cond t (suc (digit_run s)) 0) (b ∷ s)) ≡ true
    go true e h = rw (e, h)
    go false e h = refl

module _ (s : List ℕ) (i : ℕ) where
  pub run_end : length s ≤ i → digit_run (drop i s) ≡ 0
  run_end h = ap digit_run (drop_of_length-le s h)

  pub run-next : i < length s → (t : Bool) → (leb 0x30 (get_or s i 0) && leb (get_or s i 0) 0x39) ≡ t → digit_run (drop i s) ≡ cond t (suc (digit_run (drop (i + 1) s))) 0
  run-next h t e = ap digit_run (drop-next s i h) ∙ rw (decimal-class (get_or s i 0) ∙ e)

-- ---- the fraction that t may begin with
module _ (t : List ℕ) where
  pub fraction-none : (get_or t 0 0 ≡ 0x2E → ⊥) → Some (0, 0) ≡ fraction_of t
  unfolding fraction_of places
  fraction-none n = rw (ne_eqb (get_or t 0 0) 0x2E n)

  module _ (p : get_or t 0 0 ≡ 0x2E) where
    pub places-run : places t ≡ digit_run (drop 1 t)
    unfolding places
    places-run = rw (eq-eqb (get_or t 0 0) 0x2E p)

    point-length : 0 < length t
    point-length = go t p
      where
        go : (t : List ℕ) → get_or t 0 0 ≡ 0x2E → 0 < length t
        go [] e = absurd (omega arith)
        go (b ∷ t) e = omega arith

    pub point-run : digit_run (drop 1 t) + 1 ≤ length t
    point-run = omega (arith, run_length (drop 1 t), length-drop 1 t, point-length)

    pub run-part : all_digits 10 (part 1 (places t) t) ≡ true
    run-part = rw places-run (run-digits (drop 1 t))

    length_run : length (part 1 (places t) t) ≡ places t
    length_run = length-take-le (places t) (drop 1 t) (rw places-run (run_length (drop 1 t)))

    pub run-fraction : is_fraction (part 1 (places t) t) ≡ leb (places t) 9
    run-fraction = rw (run-part, length_run)

    module _ (n : ℕ) (e : n ≡ digit_run (drop 1 t)) where
      count : n ≡ places t
      count = e ∙ sym places-run

      pub fraction-empty : n < 1 → None ≡ fraction_of t
      unfolding fraction_of
      fraction-empty h = rw (fails (fraction_tests t) 0 (rw (eq-eqb (get_or t 0 0) 0x2E p) (lt-leb 1 (places t) (omega (arith, count)))))

      -- the digits, as code has them that stops in front of m
      module _ (m : ℕ) (em : m - 1 ≡ n) where
        digits-at : part 1 (m - 1) t ≡ part 1 (places t) t
        digits-at = ap (λ (k : ℕ). part 1 k t) (em ∙ count)

        pub fraction-long : None ≡ billionths_of (part 1 (m - 1) t) → None ≡ fraction_of t
        unfolding fraction_of
        fraction-long h = rw (fails (fraction_tests t) 1 (sym run-fraction ∙ not-fraction (part 1 (places t) t) (h ∙ ap billionths_of digits-at)))

        module _ (v : ℕ) (h : Some v ≡ billionths_of (part 1 (m - 1) t)) where
          told : (is_fraction (part 1 (places t) t) ≡ true) × (v ≡ nanos_of t)
          told = is-fraction (part 1 (places t) t) v (h ∙ ap billionths_of digits-at)

          pub fraction-small : v < 1000000000
          fraction-small = rw told.1 (nine-below (part 1 (places t) t) told.0)

          pub fraction-right : 1 ≤ n → Some (v, n + 1) ≡ fraction_of t
          unfolding fraction_of
          fraction-right lo =
              let b : eqb (get_or t 0 0) 0x2E ≡ true = eq-eqb (get_or t 0 0) 0x2E p in
              let k : leb 1 (places t) ≡ true = le-leb 1 (places t) (omega (arith, count)) in
              let j : leb (places t) 9 ≡ true = sym run-fraction ∙ told.0 in
              rw (told.1, count, b, k, j)
