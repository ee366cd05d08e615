-- Attributes are looked at one after the other, up to the first bad one. Assumes nothing.
use Prim.Native.Nat.{ℕ, zero, suc, ◌+◌, ◌-◌, ◌*◌, ◌≤◌, ◌<◌}
use mathlib.Core.Path.{◌≡◌, refl, sym, ap, ◌∙◌}
use mathlib.Core.List.{List}
use mathlib.Core.Bool.{Bool, true, false, cond}
use mathlib.Core.Logic.{⊎_elim}
use native.Mathlib.Nat.{eq-or-lt_of_le}
use native.Mathlib.Omega.{arith}
use lib.ListN.{length, take, drop}
use Rattle.table_parts.proofs.of_area.Parts.{rest_part}
use Rattle.table.specs.Table.{good_attribute, bad_from}

module _ (attributes : List ℕ) (size : ℕ) where
  pub bad-end : (j : ℕ) → bad_from attributes size 0 j ≡ j
  unfolding bad_from
  bad-end j = refl

  bad-next : (n j : ℕ) → good_attribute (drop (j * 5) attributes) size ≡ true → bad_from attributes size (suc n) j ≡ bad_from attributes size n (j + 1)
  unfolding bad_from
  bad-next n j e = ap (λ (b : Bool). cond b (bad_from attributes size n (j + 1)) j) e

  bad-here : (n j : ℕ) → good_attribute (drop (j * 5) attributes) size ≡ false → bad_from attributes size (suc n) j ≡ j
  unfolding bad_from
  bad-here n j e = ap (λ (b : Bool). cond b (bad_from attributes size n (j + 1)) j) e

  pub bad-high : (n j : ℕ) → bad_from attributes size n j ≤ j + n
  bad-high zero j = omega (arith, bad-end j)
  bad-high (suc n) j = go (bad-high n (j + 1)) (good_attribute (drop (j * 5) attributes) size) refl
    where
      go : bad_from attributes size n (j + 1) ≤ (j + 1) + n → (b : Bool) → good_attribute (drop (j * 5) attributes) size ≡ b → bad_from attributes size (suc n) j ≤ j + suc n
      go h true e = omega (arith, bad-next n j e)
      go h false e = omega (arith, bad-here n j e)

  -- where none is bad, each is good
  pub bad-none : (n j k : ℕ) → bad_from attributes size n j ≡ j + n → j ≤ k → k < j + n → good_attribute (drop (k * 5) attributes) size ≡ true
  bad-none zero j k e l h = absurd (omega arith)
  bad-none (suc n) j k e l h = go (bad-none n (j + 1) k) (good_attribute (drop (j * 5) attributes) size) refl
    where
      go : (bad_from attributes size n (j + 1) ≡ (j + 1) + n → j + 1 ≤ k → k < (j + 1) + n → good_attribute (drop (k * 5) attributes) size ≡ true)
          → (b : Bool) → good_attribute (drop (j * 5) attributes) size ≡ b → good_attribute (drop (k * 5) attributes) size ≡ true
      go next true q =
          ⊎_elim (λ z. ap (λ (x : ℕ). good_attribute (drop (x * 5) attributes) size) (sym z) ∙ q) (λ z. next (omega (arith, bad-next n j q)) (omega arith) (omega arith)) (eq-or-lt_of_le l)
      go next false q = absurd (omega (arith, bad-here n j q))

  bad-clear : (n j : ℕ) → ((k : ℕ) → j ≤ k → k < j + n → good_attribute (drop (k * 5) attributes) size ≡ true) → bad_from attributes size n j ≡ j + n
  bad-clear zero j g = bad-end j ∙ omega arith
  bad-clear (suc n) j g = bad-next n j (g j (omega arith) (omega arith)) ∙ bad-clear n (j + 1) (λ k l h. g k (omega arith) (omega arith)) ∙ omega arith

  -- within a range that was found good
  pub bad-within : (lo hi first count : ℕ) → bad_from attributes size (hi - lo) lo ≡ hi → lo ≤ first → first + count ≤ hi → bad_from attributes size count first ≡ first + count
  bad-within lo hi first count e l h = bad-clear count first (λ k p q. bad-none (hi - lo) lo k (omega arith) (omega arith) (omega arith))

-- what a test of the part `&attributes[j * 5..]` tells
pub attribute-lent : (attributes : List ℕ) (size j : ℕ) {r t : Bool}
    → r ≡ good_attribute (take (length attributes - j * 5) (drop (j * 5) attributes)) size → r ≡ t → good_attribute (drop (j * 5) attributes) size ≡ t
attribute-lent attributes size j e h = ap (λ (w : List ℕ). good_attribute w size) (sym (rest_part attributes (j * 5))) ∙ sym e ∙ h

-- the attributes from `first` to before j are good
pub record Scanning (attributes : List ℕ) (size first end j : ℕ) : Type 0 where
  pub low : first ≤ j
  pub high : j ≤ end
  pub same : bad_from attributes size (end - first) first ≡ bad_from attributes size (end - j) j

pub scanning-start : (attributes : List ℕ) (size first end : ℕ) → first ≤ end → Scanning attributes size first end first
scanning-start attributes size first end h = record { low = omega arith; high = h; same = refl }

module _ {attributes : List ℕ} {size first end j : ℕ} (s : Scanning attributes size first end j) where
  turn : j < end → bad_from attributes size (end - j) j ≡ bad_from attributes size (suc (end - (j + 1))) j
  turn h = let z : end - j ≡ suc (end - (j + 1)) = omega arith in ap (λ (n : ℕ). bad_from attributes size n j) z

  pub scanning-more : j < end → good_attribute (drop (j * 5) attributes) size ≡ true → Scanning attributes size first end (j + 1)
  scanning-more h e = record { low = let l = s.low in omega arith; high = omega arith; same = s.same ∙ turn h ∙ bad-next attributes size (end - (j + 1)) j e }

  pub scanning-hit : j < end → good_attribute (drop (j * 5) attributes) size ≡ false → j ≡ bad_from attributes size (end - first) first
  scanning-hit h e = sym (s.same ∙ turn h ∙ bad-here attributes size (end - (j + 1)) j e)

  pub scanning-done : end ≤ j → j ≡ bad_from attributes size (end - first) first
  scanning-done h = let z : end - j ≡ 0 = omega arith in sym (s.same ∙ ap (λ (n : ℕ). bad_from attributes size n j) z ∙ bad-end attributes size j)
