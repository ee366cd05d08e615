-- A record by its parts: presence bits, texts, numbers, timestamp and time; what it is good for, and what putting does to it. Assumes nothing.
use Prim.Native.Nat.{ℕ, zero, suc, ◌+◌, ◌*◌, ◌/◌, ◌%◌, ◌^◌, ◌≤◌, ◌<◌}
use mathlib.Core.Bool.{Bool, true, false}
use mathlib.Core.List.{List, [], ◌∷◌}
use mathlib.Core.Path.{◌≡◌, refl, ap, ◌∙◌}
use native.Mathlib.Nat.{pow-succ'}
use native.Mathlib.Omega.{arith}
use lib.Dec.{eqb}
use lib.ListN.{length, get_or, set}
use Rattle.tree_report.specs.inside.Cells.{flags_of}
use Rattle.tree_report.proofs.EncodeCells.{bit-flag}
use Rattle.tree_put.specs.of_tree_record.Record.{marked, has_bit}
use Rattle.tree_put.proofs.of_tree_record.Bits.{mask_power}
use Rattle.tree_put.proofs.of_tree_record.Marks.{marked-already, marked-anew}

-- ---- one presence bit set
flags-set : (k : ℕ) (bs : List Bool) → k < length bs → get_or bs k false ≡ false → flags_of bs + 2 ^ k ≡ flags_of (set bs k true)
flags-set k [] h e = absurd (omega arith)
flags-set zero (b ∷ bs) h e = rw e (omega arith)
flags-set (suc k) (b ∷ bs) h e =
    let i = flags-set k bs (omega arith) e in
    let p : 2 ^ suc k ≡ 2 * 2 ^ k = pow-succ' 2 k in
    omega arith

set_same : (k : ℕ) (bs : List Bool) → get_or bs k false ≡ true → bs ≡ set bs k true
set_same k [] e = refl
set_same zero (b ∷ bs) e = ap (λ (c : Bool). c ∷ bs) e
set_same (suc k) (b ∷ bs) e = ap (λ (l : List Bool). b ∷ l) (set_same k bs e)

-- setting bit k of a record is setting flag k of the list that its bits are made of
pub marked-flags : (κ k : ℕ) (bs : List Bool) (ws : List ℕ) → k < length bs → k ≤ 31 → marked k (κ ∷ flags_of bs ∷ ws) ≡ κ ∷ flags_of (set bs k true) ∷ ws
marked-flags κ k bs ws h s = go (get_or bs k false) refl
  where
    bit : has_bit k (κ ∷ flags_of bs ∷ ws) ≡ get_or bs k false
    bit = ap (λ (m : ℕ). eqb (flags_of bs / m % 2) 1) (mask_power k s) ∙ bit-flag k bs

    go : (t : Bool) → get_or bs k false ≡ t → marked k (κ ∷ flags_of bs ∷ ws) ≡ κ ∷ flags_of (set bs k true) ∷ ws
    go true e = marked-already k (κ ∷ flags_of bs ∷ ws) (bit ∙ e) ∙ ap (λ (l : List Bool). κ ∷ flags_of l ∷ ws) (set_same k bs e)
    go false e =
        marked-anew k (κ ∷ flags_of bs ∷ ws) (bit ∙ e) ∙ ap (λ (m : ℕ). κ ∷ (flags_of bs + m) ∷ ws) (mask_power k s)
        ∙ ap (λ (n : ℕ). κ ∷ n ∷ ws) (flags-set k bs h e)
