-- Presence bits, as parts of their word. Assumes nothing.
use Prim.Native.Nat.{ℕ, zero, suc, ◌+◌, ◌*◌, ◌/◌, ◌%◌, ◌^◌, ◌≤◌, ◌<◌}
use mathlib.Core.Bool.{Bool, true, false, cond}
use mathlib.Core.List.{List, [], ◌∷◌}
use mathlib.Core.Path.{◌≡◌, refl, sym, ap, ◌∙◌}
use native.Mathlib.Decide.{dec_lt}
use native.Mathlib.Nat.{add-mul, mul_assoc, mul_comm, mul-one, zero-mul, div-one, mod-lt, mod-eq_of_lt, pow-suc}
use native.Mathlib.Numerals.{add-one}
use native.Mathlib.Omega.{arith}
use borrow.Author.Tests.{lt-ltb, le-ltb, eq-eqb, ne_eqb, eqb-true, eqb-false}
use lib.Dec.{ltb, eqb}
use lib.ListN.{get_or}
use lib.Pow.{mod-pow-add, pow_pos, shr-shr}
use Rattle.tree_moments.proofs.of_tree_record.Bits.{mask_power}
use Rattle.tree_moments.specs.of_tree_report.inside.Parts.{bits_of, only_bits, report_bits, suite_bits, case_bits, pair_bits, main_bits, skipped_bits, run_bits}

-- n bits from the bit k on
abbrev run : ℕ → ℕ → List ℕ
run k zero = []
run k (suc n) = k ∷ run (k + 1) n

weight : (x w : ℕ) → cond (eqb (x % 2) 1) w 0 ≡ x % 2 * w
weight x w = go (eqb (x % 2) 1) refl
  where
    go : (t : Bool) → eqb (x % 2) 1 ≡ t → cond t w 0 ≡ x % 2 * w
    go true e = let h : x % 2 ≡ 1 = eqb-true (x % 2) 1 e in rw h (omega arith)
    go false e =
        let h : (x % 2 ≡ 1 → ⊥) = eqb-false (x % 2) 1 e in
        let z : x % 2 ≡ 0 = omega arith in
        rw z (omega arith)

carry : (b y w : ℕ) → b * w + y * (w * 2) ≡ (y * 2 + b) * w
carry b y w =
    let p : (y * 2 + b) * w ≡ y * 2 * w + b * w = add-mul (y * 2) b w in
    let q : y * 2 * w ≡ y * (w * 2) = mul_assoc y 2 w ∙ ap (λ (z : ℕ). y * z) (mul_comm 2 w) in
    omega arith

module _ (r : List ℕ) where
  bits-run : (k n : ℕ) → k + n ≤ 32 → bits_of (run k n) r ≡ get_or r 1 0 / 2 ^ k % 2 ^ n * 2 ^ k
  bits-run k zero h =
      let z : get_or r 1 0 / 2 ^ k % 1 ≡ 0 = omega arith in
      sym (ap (λ (x : ℕ). x * 2 ^ k) z ∙ zero-mul (2 ^ k))
  bits-run k (suc n) h =
      let f = get_or r 1 0 in
      let p : 2 ^ (k + 1) ≡ 2 ^ k * 2 = rw (add-one k) (pow-suc 2 k) in
      let q : f / 2 ^ k % 2 ^ suc n ≡ f / 2 ^ (k + 1) % 2 ^ n * 2 + f / 2 ^ k % 2 =
      ap (λ (m : ℕ). f / 2 ^ k % 2 ^ m) (sym (add-one n)) ∙ mod-pow-add (f / 2 ^ k) n 1 ∙ ap (λ (m : ℕ). m % 2 ^ n * 2 + f / 2 ^ k % 2) (shr-shr f k 1)
      in
      ap (λ (m : ℕ). cond (eqb (f / m % 2) 1) m 0 + bits_of (run (k + 1) n) r) (mask_power k (omega arith))
      ∙ ap (λ (x : ℕ). x + bits_of (run (k + 1) n) r) (weight (f / 2 ^ k) (2 ^ k))
      ∙ ap (λ (x : ℕ). f / 2 ^ k % 2 * 2 ^ k + x) (bits-run (k + 1) n (omega arith))
      ∙ ap (λ (x : ℕ). f / 2 ^ k % 2 * 2 ^ k + f / 2 ^ (k + 1) % 2 ^ n * x) p
      ∙ carry (f / 2 ^ k % 2) (f / 2 ^ (k + 1) % 2 ^ n) (2 ^ k)
      ∙ ap (λ (x : ℕ). x * 2 ^ k) (sym q)

  low_bits : (n : ℕ) → n ≤ 32 → ltb (get_or r 1 0) (2 ^ n) ≡ eqb (get_or r 1 0) (bits_of (run 0 n) r)
  low_bits n l = go (dec_lt (get_or r 1 0) (2 ^ n))
    where
      e : bits_of (run 0 n) r ≡ get_or r 1 0 % 2 ^ n
      e = bits-run 0 n (omega arith) ∙ mul-one (get_or r 1 0 / 1 % 2 ^ n) ∙ ap (λ (x : ℕ). x % 2 ^ n) (div-one (get_or r 1 0))

      go : Dec (get_or r 1 0 < 2 ^ n) → ltb (get_or r 1 0) (2 ^ n) ≡ eqb (get_or r 1 0) (bits_of (run 0 n) r)
      go (yes h) = lt-ltb (get_or r 1 0) (2 ^ n) h ∙ sym (eq-eqb (get_or r 1 0) (bits_of (run 0 n) r) (sym (e ∙ mod-eq_of_lt h)))
      go (no h) =
          let m : get_or r 1 0 % 2 ^ n < 2 ^ n = mod-lt (get_or r 1 0) (pow_pos n) in
          le-ltb (get_or r 1 0) (2 ^ n) (omega arith) ∙ sym (ne_eqb (get_or r 1 0) (bits_of (run 0 n) r) (λ q. omega (arith, e)))

  -- properties and extras; cases; runs
  pub pair-bits : ltb (get_or r 1 0) 4 ≡ only_bits pair_bits r
  pair-bits = low_bits 2 (omega arith)

  pub case-bits : ltb (get_or r 1 0) 128 ≡ only_bits case_bits r
  case-bits = low_bits 7 (omega arith)

  pub run-bits : ltb (get_or r 1 0) 256 ≡ only_bits run_bits r
  run-bits = low_bits 8 (omega arith)

  pub report-bits : eqb (get_or r 1 0) (get_or r 1 0 % 4 + get_or r 1 0 / 8 % 4 * 8 + get_or r 1 0 / 256 % 2 * 256) ≡ only_bits report_bits r
  report-bits = ap (eqb (get_or r 1 0)) (omega (arith, bits-run 0 2 (omega arith), bits-run 3 2 (omega arith), bits-run 8 1 (omega arith)))

  pub suite-bits : eqb (get_or r 1 0) (get_or r 1 0 % 32 + get_or r 1 0 / 256 % 2 * 256 + get_or r 1 0 / 1024 % 2 * 1024) ≡ only_bits suite_bits r
  suite-bits = ap (eqb (get_or r 1 0)) (omega (arith, bits-run 0 5 (omega arith), bits-run 8 1 (omega arith), bits-run 10 1 (omega arith)))

  -- a failure or error; skipped
  pub main-bits : eqb (get_or r 1 0) (get_or r 1 0 % 2 + get_or r 1 0 / 32 % 4 * 32 + get_or r 1 0 / 512 % 2 * 512) ≡ only_bits main_bits r
  main-bits = ap (eqb (get_or r 1 0)) (omega (arith, bits-run 0 1 (omega arith), bits-run 5 2 (omega arith), bits-run 9 1 (omega arith)))

  pub skipped-bits : eqb (get_or r 1 0) (get_or r 1 0 % 2 + get_or r 1 0 / 32 % 4 * 32) ≡ only_bits skipped_bits r
  skipped-bits = ap (eqb (get_or r 1 0)) (omega (arith, bits-run 0 1 (omega arith), bits-run 5 2 (omega arith)))
