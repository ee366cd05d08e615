-- One entry, read off the computed tests. Assumes nothing.
use Prim.Native.Nat.{ℕ, zero, suc, ◌+◌, ◌-◌, ◌*◌, ◌<◌}
use native.Mathlib.Nat.{add-zero, zero-add, add-suc, suc-add, le_of_suc-le-suc, not-suc-le-zero}
use native.Mathlib.Omega.{arith}
use mathlib.Core.Path.{◌≡◌, refl, sym, ap, subst, ◌∙◌}
use mathlib.Core.List.{List, [], ◌∷◌, ◌++◌}
use mathlib.Core.Bool.{Bool, true, false}
use lib.Dec.{T, leb, eqb, eqb→eq}
use lib.ListN.{length, get_or, get_or-append}
use lib.Seq.{get_or-append-add}
use Rattle.xml_state.specs.declared.Move.{Move}
use Rattle.xml_state.specs.inside.Tables.{concat, class_table}
use Rattle.xml_state.specs.inside.Rows.{always, bad}
use Rattle.xml_moves.proofs.Fit.{both, same, bytes_fit, rows_fit_of, classes_fit_of}

pub both_left : (a b : Bool) → T (both a b) → T a
both_left true b t = tt
both_left false b t = t

pub both_right : (a b : Bool) → T (both a b) → T b
both_right true b t = t
both_right false b t = absurd t

byte-from : (row : ℕ → Move) (n a cs : List ℕ) (b : ℕ) → T (bytes_fit row n a b cs) → (k : ℕ) → k < length cs → T (same n a (get_or cs k 0) (row (b + k)))
byte-from row n a [] b t k h = absurd (not-suc-le-zero h)
byte-from row n a (c ∷ cs) b t zero h =
    subst (λ (m : ℕ). T (same n a c (row m))) (sym (add-zero b)) (both_left (same n a c (row b)) (bytes_fit row n a (suc b) cs) t)
byte-from row n a (c ∷ cs) b t (suc k) h =
    subst (λ (m : ℕ). T (same n a (get_or cs k 0) (row m))) (suc-add b k ∙ sym (add-suc b k))
    (byte-from row n a cs (suc b) (both_right (same n a c (row b)) (bytes_fit row n a (suc b) cs) t) k (le_of_suc-le-suc h))

pub byte_at : (row : ℕ → Move) (n a cs : List ℕ) → T (bytes_fit row n a 0 cs) → (b : ℕ) → b < length cs → T (same n a (get_or cs b 0) (row b))
byte_at row n a cs t b h = subst (λ (m : ℕ). T (same n a (get_or cs b 0) (row m))) (zero-add b) (byte-from row n a cs 0 t b h)

pub row_at : (rs : List (ℕ → Move)) (ns ks : List (List ℕ)) → T (rows_fit_of rs ns ks) → (i : ℕ) → i < length rs →
    T (bytes_fit (get_or rs i (always bad)) (get_or ns i []) (get_or ks i []) 0 class_table)
row_at [] ns ks t i h = absurd (not-suc-le-zero h)
row_at (r ∷ rs) [] ks t i h = absurd t
row_at (r ∷ rs) (n ∷ ns) [] t i h = absurd t
row_at (r ∷ rs) (n ∷ ns) (a ∷ ks) t zero h = both_left (bytes_fit r n a 0 class_table) (rows_fit_of rs ns ks) t
row_at (r ∷ rs) (n ∷ ns) (a ∷ ks) t (suc i) h = row_at rs ns ks (both_right (bytes_fit r n a 0 class_table) (rows_fit_of rs ns ks) t) i (le_of_suc-le-suc h)

pub class-at : (cs : List ℕ) → T (classes_fit_of cs) → (b : ℕ) → b < length cs → T (both (leb 48 (get_or cs b 0)) (leb (get_or cs b 0) 83))
class-at [] t b h = absurd (not-suc-le-zero h)
class-at (c ∷ cs) t zero h = both_left (both (leb 48 c) (leb c 83)) (classes_fit_of cs) t
class-at (c ∷ cs) t (suc b) h = class-at cs (both_right (both (leb 48 c) (leb c 83)) (classes_fit_of cs) t) b (le_of_suc-le-suc h)

-- rows of 36 entries, one behind the other
abbrev pub wide36 : List (List ℕ) → Bool
wide36 [] = true
wide36 (r ∷ rs) = both (eqb (length r) 36) (wide36 rs)

pub flat : (rs : List (List ℕ)) → T (wide36 rs) → (i k : ℕ) → k < 36 → get_or (concat rs) (i * 36 + k) 0 ≡ get_or (get_or rs i []) k 0
flat [] t i k h = refl
flat (r ∷ rs) t zero k h =
    let e : length r ≡ 36 = eqb→eq (length r) 36 (both_left (eqb (length r) 36) (wide36 rs) t) in
    let z : 0 * 36 + k ≡ k = omega arith in
    ap (λ (n : ℕ). get_or (r ++ concat rs) n 0) z ∙ get_or-append r (concat rs) 0 k (omega arith)
flat (r ∷ rs) t (suc i) k h =
    let e : length r ≡ 36 = eqb→eq (length r) 36 (both_left (eqb (length r) 36) (wide36 rs) t) in
    let z : suc i * 36 + k ≡ length r + (i * 36 + k) = omega arith in
    ap (λ (n : ℕ). get_or (r ++ concat rs) n 0) z ∙ get_or-append-add r (concat rs) (i * 36 + k) 0 ∙ flat rs (both_right (eqb (length r) 36) (wide36 rs) t) i k h
