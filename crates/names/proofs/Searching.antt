-- A name is looked for in a table, one name after the other. Assumes nothing.
use Prim.Native.Nat.{ℕ, zero, suc, ◌+◌, ◌-◌, ◌≤◌, ◌<◌, min}
use mathlib.Core.Path.{◌≡◌, refl, sym, ap, ◌∙◌}
use mathlib.Core.List.{List, [], ◌∷◌}
use mathlib.Core.Bool.{true, false, cond}
use native.Mathlib.Nat.{zero-min, min-zero, suc-min-suc}
use native.Mathlib.Numerals.{add-one}
use native.Mathlib.Omega.{arith}
use lib.ListN.{length, take, drop, get_or, length-drop, drop_of_length-le}
use lib.Seq.{drop-drop}
use Rattle.area.proofs.Lists.{drop-next}
use Rattle.names.specs.Names.{same_bytes, code_from, code_in, cut}

take-least : (n : ℕ) (l : List ℕ) → take (min n (length l)) l ≡ take n l
take-least zero l = rw (zero-min (length l)) refl
take-least (suc n) [] = rw (min-zero (suc n)) refl
take-least (suc n) (x ∷ l) = rw (suc-min-suc n (length l)) (ap (λ (r : List ℕ). x ∷ r) (take-least n l))

drop-least : (n : ℕ) (l : List ℕ) → drop (min n (length l)) l ≡ drop n l
drop-least zero l = rw (zero-min (length l)) refl
drop-least (suc n) [] = rw (min-zero (suc n)) refl
drop-least (suc n) (x ∷ l) = rw (suc-min-suc n (length l)) (drop-least n l)

-- the first k names, which end at `at`, are not s
pub record Searching (names lengths s : List ℕ) (at k : ℕ) : Type 0 where
  pub within : at ≤ length names
  pub fits : k ≤ length lengths
  pub left : code_in (cut names lengths) s ≡ code_from (suc k) (cut (drop at names) (drop k lengths)) s

pub searching-start : (names lengths s : List ℕ) → Searching names lengths s 0 0
searching-start names lengths s = record { within = omega arith; fits = omega arith; left = refl }

pub searching-done : {names lengths s : List ℕ} {at k : ℕ} → Searching names lengths s at k → length lengths ≤ k → 0 ≡ code_in (cut names lengths) s
unfolding cut code_from
searching-done {names} {lengths} {s} {at} {k} g h = sym (g.left ∙ rw (drop_of_length-le lengths {i = k} h) refl)

module _ {names lengths s : List ℕ} {at k : ℕ} (g : Searching names lengths s at k) (h : k < length lengths) where
  module _ (end : ℕ) (e : end ≡ min (at + get_or lengths k 0) (length names)) where
    size : end - at ≡ min (get_or lengths k 0) (length (drop at names))
    size = rw (length-drop at names) (omega (arith, g.within))

    part : take (end - at) (drop at names) ≡ take (get_or lengths k 0) (drop at names)
    part = rw size (take-least (get_or lengths k 0) (drop at names))

    behind : drop end names ≡ drop (get_or lengths k 0) (drop at names)
    behind =
        let z : end ≡ at + (end - at) = omega (arith, g.within) in
        ap (λ (n : ℕ). drop n names) z ∙ sym (drop-drop (end - at) at names) ∙ ap (λ (n : ℕ). drop n (drop at names)) size ∙ drop-least (get_or lengths k 0) (drop at names)

    next : code_in (cut names lengths) s ≡ cond (same_bytes (take (end - at) (drop at names)) s) (suc k) (code_from (suc (suc k)) (cut (drop end names) (drop (k + 1) lengths)) s)
    unfolding cut code_from
    next = g.left ∙ rw (drop-next lengths k h, part, behind) refl

    pub searching-hit : same_bytes (take (end - at) (drop at names)) s ≡ true → k + 1 ≡ code_in (cut names lengths) s
    searching-hit t = add-one k ∙ sym (next ∙ rw t refl)

    pub searching-more : same_bytes (take (end - at) (drop at names)) s ≡ false → Searching names lengths s end (k + 1)
    searching-more t = record { within = omega arith; fits = omega arith; left = next ∙ rw (t, add-one k) refl }
