-- Areas that are longer than what may be used, and the rooms of the part that is. Assumes nothing.
use Prim.Native.Nat.{ℕ, ◌+◌, ◌-◌, ◌*◌, ◌/◌, ◌≤◌, min}
use mathlib.Core.Path.{◌≡◌, refl, sym, ap, ◌∙◌}
use mathlib.Core.List.{List, ◌++◌, append_assoc}
use mathlib.Core.Bool.{Bool, true, false}
use native.Mathlib.Omega.{arith}
use borrow.Author.Tests.{leb-true, leb-false, le-leb}
use lib.ListN.{length, take, drop, length-append, length-replicate, replicate-append-replicate}
use lib.Seq.{length-take-le}
use lib.Dec.{leb}
use Rattle.clearing.specs.of_area.Area.{zeros, laid}
use Rattle.clearing.proofs.of_area.Lists.{take-zeros, drop-zeros}
use Rattle.clearing.proofs.of_area.Laying.{laid-zeros}
use Rattle.read_step.specs.of_read_element.Outcome.{rooms_of, fits}
use Rattle.read_step.specs.of_read_content.inside.Holds.{Sized}
use Rattle.read_step.specs.inside.Standing.{Lent}

-- ---- rooms
pub rooms-cut : (words text scratch : ℕ) → rooms_of (min (words / 32) 65536 * 32) (min text 16777216) (min scratch 16777216) ≡ rooms_of words text scratch
rooms-cut words text scratch =
    let a : min (min (words / 32) 65536 * 32 / 32) 65536 ≡ min (words / 32) 65536 = omega arith in
    let b : min (min text 16777216) 16777216 ≡ min text 16777216 = omega arith in
    let c : min (min scratch 16777216) 16777216 ≡ min scratch 16777216 = omega arith in
    cc

pub lent_cut : (words text scratch : ℕ) → Lent (min (words / 32) 65536 * 32) (min text 16777216) (min scratch 16777216)
lent_cut words text scratch = record { of-records = omega arith; of_words = omega arith; of-text = omega arith; of-scratch = omega arith }

same_test : (a b c d : ℕ) → (a ≤ b → c ≤ d) → (c ≤ d → a ≤ b) → leb a b ≡ leb c d
same_test a b c d f g = go (leb a b) refl
  where
    go : (t : Bool) → leb a b ≡ t → leb a b ≡ leb c d
    go true e = e ∙ sym (le-leb c d (f (leb-true a b e)))
    go false e = e ∙ sym (other (leb c d) refl)
      where
        other : (t : Bool) → leb c d ≡ t → leb c d ≡ false
        other true q = let x = g (leb-true c d q) in let y = leb-false a b e in absurd (omega arith)
        other false q = q

pub lent-sized : (words text scratch : ℕ) → Lent words text scratch → Sized (rooms_of words text scratch) words text scratch
unfolding fits
lent-sized words text scratch h =
    let a = h.of-records in
    let b = h.of_words in
    let c = h.of-text in
    let d = h.of-scratch in
    record {
      for-records = λ n. same_test n (min (words / 32) 65536) (n * 32) words (λ x. omega arith) (λ x. omega arith);
      for-text = λ n. same_test n (min text 16777216) n text (λ x. omega arith) (λ x. omega arith);
      for-scratch = λ n. same_test n (min scratch 16777216) n scratch (λ x. omega arith) (λ x. omega arith);
    }

-- ---- the part that is used, and the whole
module _ (l : List ℕ) (zero : l ≡ zeros (length l)) (k : ℕ) (h : k ≤ length l) where
  pub part-zeros : take k l ≡ zeros (length (take k l))
  part-zeros = ap (take k) zero ∙ take-zeros k (length l) h ∙ sym (ap zeros (length-take-le k l h))

  -- what the part holds behind the call, the whole holds
  pub part-back : (f part : List ℕ) (room : ℕ) → part ≡ f ++ zeros room → part ++ drop k l ≡ f ++ zeros (room + (length l - k))
  part-back f part room e =
      ap (λ (x : List ℕ). x ++ drop k l) e
      ∙ ap (λ (x : List ℕ). (f ++ zeros room) ++ x) (ap (drop k) zero ∙ drop-zeros k (length l))
      ∙ append_assoc f (zeros room) (zeros (length l - k))
      ∙ ap (λ (x : List ℕ). f ++ x) (replicate-append-replicate room (length l - k) 0)

-- an area that is zero behind f is that of f laid into zeros
pub laid-behind : (n : ℕ) (f area : List ℕ) (room : ℕ) → length area ≡ n → area ≡ f ++ zeros room → area ≡ laid (zeros n) f
laid-behind n f area room h e =
    let z : length area ≡ length f + room = ap length e ∙ length-append f (zeros room) ∙ ap (λ (m : ℕ). length f + m) (length-replicate room 0) in
    let y : room ≡ n - length f = omega arith in
    e ∙ ap (λ (m : ℕ). f ++ zeros m) y ∙ sym (laid-zeros n f (omega arith))
