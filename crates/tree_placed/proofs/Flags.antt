-- One presence bit set or cleared. Assumes nothing.
use Prim.Native.Nat.{ℕ, zero, suc, ◌+◌, ◌-◌, ◌*◌, ◌/◌, ◌%◌, ◌^◌, ◌≤◌, ◌<◌}
use mathlib.Core.Bool.{Bool, true, false}
use mathlib.Core.List.{List, [], ◌∷◌}
use mathlib.Core.Path.{◌≡◌, refl, ap, ◌∙◌}
use native.Mathlib.Nat.{pow-succ'}
use native.Mathlib.Omega.{arith}
use lib.Dec.{eqb}
use lib.ListN.{length, get_or, set}
use Rattle.tree_report.specs.inside.Cells.{flags_of}
use Rattle.tree_report.proofs.EncodeCells.{bit-flag}
use Rattle.tree_put.specs.of_tree_record.Record.{mask_of, marked, has_bit, unmarked}
use Rattle.tree_put.proofs.of_tree_record.Bits.{mask_power}
use Rattle.tree_put.proofs.of_tree_record.Marks.{marked-already, marked-anew}

flags-set : (k : ℕ) (bs : List Bool) → k < length bs → get_or bs k false ≡ false → flags_of bs + 2 ^ k ≡ flags_of (set bs k true)
flags-set k [] h e = absurd (omega arith)
flags-set zero (b ∷ bs) h e = rw e (omega arith)
flags-set (suc k) (b ∷ bs) h e =
    let i = flags-set k bs (omega arith) e in
    let p : 2 ^ suc k ≡ 2 * 2 ^ k = pow-succ' 2 k in
    omega arith

flags-clear : (k : ℕ) (bs : List Bool) → k < length bs → get_or bs k false ≡ true → flags_of bs ≡ flags_of (set bs k false) + 2 ^ k
flags-clear k [] h e = absurd (omega arith)
flags-clear zero (b ∷ bs) h e = rw e (omega arith)
flags-clear (suc k) (b ∷ bs) h e =
    let i = flags-clear k bs (omega arith) e in
    let p : 2 ^ suc k ≡ 2 * 2 ^ k = pow-succ' 2 k in
    omega arith

set_same : (k : ℕ) (c : Bool) (bs : List Bool) → k < length bs → get_or bs k false ≡ c → bs ≡ set bs k c
set_same k c [] h e = refl
set_same zero c (b ∷ bs) h e = ap (λ (c : Bool). c ∷ bs) e
set_same (suc k) c (b ∷ bs) h e = ap (λ (l : List Bool). b ∷ l) (set_same k c bs (omega arith) e)

pub unmarked-already : (k : ℕ) (r : List ℕ) → has_bit k r ≡ false → unmarked k r ≡ r
unfolding unmarked
unmarked-already k r e = rw e refl

pub unmarked-anew : (k : ℕ) (r : List ℕ) → has_bit k r ≡ true → unmarked k r ≡ set r 1 (get_or r 1 0 - mask_of k)
unfolding unmarked
unmarked-anew k r e = rw e refl

module _ (κ k : ℕ) (bs : List Bool) (ws : List ℕ) (h : k < length bs) (s : k ≤ 31) where
  bit : has_bit k (κ ∷ flags_of bs ∷ ws) ≡ get_or bs k false
  bit = ap (λ (m : ℕ). eqb (flags_of bs / m % 2) 1) (mask_power k s) ∙ bit-flag k bs

  pub marked-flags : marked k (κ ∷ flags_of bs ∷ ws) ≡ κ ∷ flags_of (set bs k true) ∷ ws
  marked-flags = go (get_or bs k false) refl
    where
      go : (t : Bool) → get_or bs k false ≡ t → marked k (κ ∷ flags_of bs ∷ ws) ≡ κ ∷ flags_of (set bs k true) ∷ ws
      go true e = marked-already k (κ ∷ flags_of bs ∷ ws) (bit ∙ e) ∙ ap (λ (l : List Bool). κ ∷ flags_of l ∷ ws) (set_same k true bs h e)
      go false e =
          marked-anew k (κ ∷ flags_of bs ∷ ws) (bit ∙ e) ∙ ap (λ (m : ℕ). κ ∷ (flags_of bs + m) ∷ ws) (mask_power k s)
          ∙ ap (λ (n : ℕ). κ ∷ n ∷ ws) (flags-set k bs h e)

  pub unmarked-flags : unmarked k (κ ∷ flags_of bs ∷ ws) ≡ κ ∷ flags_of (set bs k false) ∷ ws
  unmarked-flags = go (get_or bs k false) refl
    where
      go : (t : Bool) → get_or bs k false ≡ t → unmarked k (κ ∷ flags_of bs ∷ ws) ≡ κ ∷ flags_of (set bs k false) ∷ ws
      go false e = unmarked-already k (κ ∷ flags_of bs ∷ ws) (bit ∙ e) ∙ ap (λ (l : List Bool). κ ∷ flags_of l ∷ ws) (set_same k false bs h e)
      go true e =
          let c = flags-clear k bs h e in
          let d : flags_of bs - 2 ^ k ≡ flags_of (set bs k false) = omega arith in
          unmarked-anew k (κ ∷ flags_of bs ∷ ws) (bit ∙ e) ∙ ap (λ (m : ℕ). κ ∷ (flags_of bs - m) ∷ ws) (mask_power k s)
          ∙ ap (λ (n : ℕ). κ ∷ n ∷ ws) d
