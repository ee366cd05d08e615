-- The texts of the text area, up to the first zero byte. Assumes nothing.
use Prim.Native.Nat.{ℕ, suc, ◌-◌, ◌≤◌}
use mathlib.Core.Bool.{Bool, true, false, cond, ◌&&◌}
use mathlib.Core.List.{List, [], ◌∷◌}
use mathlib.Core.Path.{◌≡◌, refl, ap, ◌∙◌}
use native.Mathlib.Omega.{arith}
use lib.Dec.{eqb}
use lib.ListN.{length, take, drop}
use Rattle.tree_shape.specs.of_area.Area.{first_at}
use Rattle.tree_shape.proofs.of_area.Parts.{rest_part}
use Rattle.tree_shape.specs.of_utf8.Utf8.{utf8}
use Rattle.tree_shape.specs.of_text_filter.Filter.{unfiltered}
use Rattle.tree_order.specs.of_tree_report.Layout.{filled, all_zero, good_text}

-- the texts up to the first zero byte are the area's front
pub filled-front : (s : List ℕ) → take (length (filled s)) s ≡ filled s
filled-front [] = refl
filled-front (b ∷ s) = go (eqb b 0) (filled-front s)
  where
    go : (t : Bool) → take (length (filled s)) s ≡ filled s → take (length (cond t [] (b ∷ filled s))) (b ∷ s) ≡ cond t [] (b ∷ filled s)
    go true h = refl
    go false h = ap (λ (l : List ℕ). b ∷ l) h

filled-length : (s : List ℕ) → length (filled s) ≤ length s
filled-length [] = omega arith
filled-length (b ∷ s) = go (eqb b 0) (filled-length s)
  where
    go : (t : Bool) → length (filled s) ≤ length s → length (cond t [] (b ∷ filled s)) ≤ suc (length s)
    go true h = omega arith
    go false h = omega arith

-- they end in front of the first zero byte
first-filled : (s : List ℕ) → first_at 0 s ≡ length (filled s)
first-filled [] = refl
first-filled (b ∷ s) = go (eqb b 0) (first-filled s)
  where
    go : (t : Bool) → first_at 0 s ≡ length (filled s) → cond t 0 (suc (first_at 0 s)) ≡ length (cond t [] (b ∷ filled s))
    go true h = refl
    go false h = ap suc h

pub fill-first : (s : List ℕ) (fill : ℕ) → fill ≡ first_at 0 s → fill ≡ length (filled s)
fill-first s fill e = e ∙ first-filled s

-- the three tests of the text area, from its fill
pub good-text : (s : List ℕ) (fill : ℕ) → fill ≡ length (filled s) → (utf8 (take fill s) && (unfiltered (take fill s) && all_zero (take (length s - fill) (drop fill s)))) ≡ good_text s
unfolding good_text
good-text s fill e =
    let f : take fill s ≡ filled s = ap (λ (n : ℕ). take n s) e ∙ filled-front s in
    ap (λ (l : List ℕ). utf8 l && (unfiltered l && all_zero (take (length s - fill) (drop fill s)))) f
    ∙ ap (λ (l : List ℕ). utf8 (filled s) && (unfiltered (filled s) && all_zero l)) (rest_part s fill)
    ∙ ap (λ (n : ℕ). utf8 (filled s) && (unfiltered (filled s) && all_zero (drop n s))) e

pub fill-fits : (s : List ℕ) (fill : ℕ) → fill ≡ length (filled s) → fill ≤ length s
fill-fits s fill e = omega (arith, filled-length s)
