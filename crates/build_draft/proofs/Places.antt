-- A record of an area as the part that begins with it, which is empty where the area is too short. Assumes nothing.
use Prim.Native.Nat.{ℕ, zero, suc, ◌-◌, ◌*◌, min}
use mathlib.Core.Path.{◌≡◌, refl, ap, ◌∙◌}
use mathlib.Core.List.{List, [], ◌∷◌, ◌++◌}
use native.Mathlib.Nat.{zero-min, min-zero, suc-min-suc}
use lib.ListN.{length, take, drop}
use borrow.Rule.Slice.PartMut.{put_mid}
use Rattle.text_lossy.proofs.of_area.Parts.{rest_part, rest_back}
use Rattle.build_draft.specs.Draft.{on_record_of}

-- an area ends at its length
take-least : (n : ℕ) (l : List ℕ) → take (min n (length l)) l ≡ take n l
take-least zero l = rw (zero-min (length l)) refl
take-least (suc n) [] = rw (min-zero (suc n)) refl
take-least (suc n) (x ∷ l) = rw (suc-min-suc n (length l)) (ap (λ (r : List ℕ). x ∷ r) (take-least n l))

drop-least : (n : ℕ) (l : List ℕ) → drop (min n (length l)) l ≡ drop n l
drop-least zero l = rw (zero-min (length l)) refl
drop-least (suc n) [] = rw (min-zero (suc n)) refl
drop-least (suc n) (x ∷ l) = rw (suc-min-suc n (length l)) (drop-least n l)

module _ (l : List ℕ) (n : ℕ) {at : ℕ} (e : at ≡ min n (length l)) where
  -- what `&l[at..]` is
  pub part-from : take (length l - at) (drop at l) ≡ drop n l
  part-from = rest_part l at ∙ ap (λ (k : ℕ). drop k l) e ∙ drop-least n l

  -- the whole, with the part `&mut l[at..]` back at ys
  pub part-back : (ys : List ℕ) → put_mid at (length l - at) l ys ≡ take n l ++ ys
  part-back ys = rest_back l at ys ∙ ap (λ (k : ℕ). take k l ++ ys) e ∙ ap (λ (z : List ℕ). z ++ ys) (take-least n l)

-- the part that begins with record i
pub record-part : (l : List ℕ) (i : ℕ) {at : ℕ} → at ≡ min (i * 32) (length l) → take (length l - at) (drop at l) ≡ drop (i * 32) l
record-part l i e = part-from l (i * 32) e

-- the whole, with it back from a change
pub record-back : (l : List ℕ) (i : ℕ) {at : ℕ} → at ≡ min (i * 32) (length l) → (f : List ℕ → List ℕ) {ys : List ℕ}
    → ys ≡ f (take (length l - at) (drop at l)) → put_mid at (length l - at) l ys ≡ on_record_of i f l
record-back l i e f {ys} h = part-back l (i * 32) e ys ∙ ap (λ (z : List ℕ). take (i * 32) l ++ z) (h ∙ ap f (record-part l i e))
