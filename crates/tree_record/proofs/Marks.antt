-- The presence bits of a record. Assumes nothing.
use Prim.Native.Nat.{ℕ, ◌+◌, ◌/◌, ◌%◌, ◌^◌, min, ◌<◌}
use mathlib.Core.Path.{◌≡◌, refl, sym, ap, ◌∙◌}
use mathlib.Core.Bool.{Bool, true, false}
use mathlib.Core.List.{List}
use native.Mathlib.Omega.{arith}
use borrow.Author.Tests.{ltb-true, ltb-false, eqb-false, eq-eqb}
use lib.Dec.{ltb, eqb}
use lib.ListN.{length, get_or, set, take, drop, length-set}
use lib.Seq.{get_or-take, set_out, take-set-lt, drop-set-lt}
use Rattle.tree_record.proofs.RecordLaws.{field-same, field-other}
use Rattle.tree_record.specs.Record.{mask_of, has_bit, marked}
use Rattle.tree_record.proofs.Bits.{bit-set, bit-other, bit-fits}

module _ (k : ℕ) (r : List ℕ) where
  -- a bit that is set is set by doing nothing
  pub marked-already : has_bit k r ≡ true → marked k r ≡ r
  unfolding marked
  marked-already e = rw e refl

  -- a bit that isn't set is set by adding its value: the code's store
  pub marked-anew : has_bit k r ≡ false → marked k r ≡ set r 1 (get_or r 1 0 + mask_of k)
  unfolding marked
  marked-anew e = rw e refl

module _ (k : ℕ) (r : List ℕ) where
  by_cases : (P : List ℕ → Type 0) → (has_bit k r ≡ true → P r) → (has_bit k r ≡ false → P (set r 1 (get_or r 1 0 + mask_of k))) → P (marked k r)
  by_cases P y n = go (has_bit k r) refl
    where
      go : (t : Bool) → has_bit k r ≡ t → P (marked k r)
      go true e = rw (marked-already k r e) (y e)
      go false e = rw (marked-anew k r e) (n e)

  -- setting a bit leaves the record's length
  pub marked-length : length (marked k r) ≡ length r
  marked-length = by_cases (λ x. length x ≡ length r) (λ _. refl) (λ _. length-set r 1 (get_or r 1 0 + mask_of k))

  -- no word but the word of the bits
  pub marked_other : (p : ℕ) → (p ≡ 1 → ⊥) → get_or (marked k r) p 0 ≡ get_or r p 0
  marked_other p h = by_cases (λ x. get_or x p 0 ≡ get_or r p 0) (λ _. refl) (λ _. field-other r 1 (get_or r 1 0 + mask_of k) p h)

  -- a bit that was set is there
  pub marked-bit : 1 < length r → has_bit k (marked k r) ≡ true
  marked-bit h = by_cases (λ x. has_bit k x ≡ true) (λ e. e) λ e.
      ap (λ (n : ℕ). eqb (n / mask_of k % 2) 1) (field-same r 1 (get_or r 1 0 + mask_of k) h)
      ∙ eq-eqb ((get_or r 1 0 + mask_of k) / mask_of k % 2) 1 (bit-set (get_or r 1 0) (min k 31) (eqb-false (get_or r 1 0 / mask_of k % 2) 1 e))

  -- and no other bit
  pub marked-bits : (j : ℕ) → (min j 31 ≡ min k 31 → ⊥) → has_bit j (marked k r) ≡ has_bit j r
  marked-bits j h = by_cases (λ x. has_bit j x ≡ has_bit j r) (λ _. refl) (λ e. go e (ltb 1 (length r)) refl)
    where
      go : has_bit k r ≡ false → (t : Bool) → ltb 1 (length r) ≡ t → has_bit j (set r 1 (get_or r 1 0 + mask_of k)) ≡ has_bit j r
      go e true q =
          ap (λ (n : ℕ). eqb (n / mask_of j % 2) 1) (field-same r 1 (get_or r 1 0 + mask_of k) (ltb-true 1 (length r) q))
          ∙ ap (λ (n : ℕ). eqb n 1) (bit-other (get_or r 1 0) (min k 31) (eqb-false (get_or r 1 0 / mask_of k % 2) 1 e) (min j 31) h)
      go e false q = ap (has_bit j) (set_out r 1 (get_or r 1 0 + mask_of k) (ltb-false 1 (length r) q))

  -- in a part, just the record at its front
  module _ (n : ℕ) (h : 1 < n) where
    front-bit : has_bit k (take n r) ≡ has_bit k r
    front-bit = ap (λ (v : ℕ). eqb (v / mask_of k % 2) 1) (get_or-take n r 1 0 h)

    -- a front of the record that has the bits' word: setting a bit there is setting it in the whole
    pub marked-front : take n (marked k r) ≡ marked k (take n r)
    marked-front = go (has_bit k r) refl
      where
        go : (t : Bool) → has_bit k r ≡ t → take n (marked k r) ≡ marked k (take n r)
        go true e = ap (take n) (marked-already k r e) ∙ sym (marked-already k (take n r) (front-bit ∙ e))
        go false e =
            ap (take n) (marked-anew k r e) ∙ take-set-lt n r 1 (get_or r 1 0 + mask_of k) h
            ∙ ap (λ (v : ℕ). set (take n r) 1 (v + mask_of k)) (sym (get_or-take n r 1 0 h))
            ∙ sym (marked-anew k (take n r) (front-bit ∙ e))

    -- setting a bit leaves all words behind the bits
    pub marked-behind : drop n (marked k r) ≡ drop n r
    marked-behind = by_cases (λ x. drop n x ≡ drop n r) (λ _. refl) (λ _. drop-set-lt n r 1 (get_or r 1 0 + mask_of k) h)

-- the bits and the value of bit k, as they are read
module _ (k : ℕ) (r : List ℕ) (bits mask : ℕ) (b : bits ≡ get_or r 1 0) (m : mask ≡ mask_of k) where
  pub bit-read : eqb (bits / mask % 2) 1 ≡ has_bit k r
  bit-read = ap (λ (n : ℕ). eqb (n / mask % 2) 1) b ∙ ap (λ (n : ℕ). eqb (get_or r 1 0 / n % 2) 1) m

  -- the sum is a word
  pub mark-fits : has_bit k r ≡ false → bits < 2 ^ 32 → bits + mask < 2 ^ 32
  mark-fits e h =
      let l : get_or r 1 0 < 2 ^ 32 = omega arith in
      let f : get_or r 1 0 + mask_of k < 2 ^ 32 = bit-fits (get_or r 1 0) (min k 31) (eqb-false (get_or r 1 0 / mask_of k % 2) 1 e) 32 (omega arith) l in
      omega arith

  pub mark-put : has_bit k r ≡ false → set r 1 (bits + mask) ≡ marked k r
  mark-put e = ap (λ (n : ℕ). set r 1 (n + mask)) b ∙ ap (λ (n : ℕ). set r 1 (get_or r 1 0 + n)) m ∙ sym (marked-anew k r e)
