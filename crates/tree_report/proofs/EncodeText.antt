-- The text area: the texts, one behind the other, and zeros. Assumes nothing.
use Prim.Native.Nat.{ℕ, zero, suc, ◌+◌, ◌-◌, ◌≤◌}
use mathlib.Core.Bool.{Bool, true, false, not, true≢false}
use mathlib.Core.List.{List, [], ◌∷◌, ◌++◌}
use mathlib.Core.Path.{◌≡◌, refl, sym, ap, ◌∙◌}
use native.Mathlib.Omega.{arith}
use borrow.Author.Tests.{eqb-true, not-true}
use lib.Dec.{eqb}
use lib.ListN.{length, take}
use lib.Seq.{take-append-add, drop-append_seam}
use Rattle.schema.specs.of_area.Area.{zeros}
use Rattle.schema.specs.of_utf8.Utf8.{utf8}
use Rattle.schema.specs.of_text_filter.Filter.{dropped, unfiltered}
use Rattle.tree_report.specs.Layout.{filled, good_text}
pub use Rattle.schema.proofs.Tests.{zero-zeros}
use Rattle.tree_report.proofs.EncodeLists.{both, and_left, and_right}

-- ---- zeros
-- an area of which only the first n are used
pub take-area : (l : List ℕ) (k n : ℕ) → length l ≤ n → (j : ℕ) × (take n (l ++ zeros k) ≡ l ++ zeros j)
take-area l k n h =
    let e : n ≡ length l + (n - length l) = omega arith in
    let p = some-zeros k (n - length l) in
    (p.0, ap (λ (m : ℕ). take m (l ++ zeros k)) e ∙ take-append-add l (zeros k) (n - length l) ∙ ap (λ (z : List ℕ). l ++ z) p.1)
  where
    some-zeros : (k n : ℕ) → (j : ℕ) × (take n (zeros k) ≡ zeros j)
    some-zeros k zero = (0, refl)
    some-zeros zero (suc n) = (0, refl)
    some-zeros (suc k) (suc n) = let p = some-zeros k n in (suc p.0, ap (λ (z : List ℕ). 0 ∷ z) p.1)

-- ---- what is filled
clean-nonzero : (b : ℕ) → dropped b ≡ false → eqb b 0 ≡ false
clean-nonzero b e = go (eqb b 0) refl
  where
    go : (t : Bool) → eqb b 0 ≡ t → eqb b 0 ≡ false
    go true z = absurd (true≢false (sym (ap dropped (eqb-true b 0 z)) ∙ e))
    go false z = z

-- with zeros behind them, texts are found again: none of them has a zero byte
pub filled-texts : (t : List ℕ) (k : ℕ) → unfiltered t ≡ true → filled (t ++ zeros k) ≡ t
filled-texts [] zero e = refl
filled-texts [] (suc k) e = refl
filled-texts (b ∷ t) k e =
    let n = clean-nonzero b (not-true (dropped b) (and_left (not (dropped b)) (unfiltered t) e)) in
    rw n (ap (λ (l : List ℕ). b ∷ l) (filled-texts t k (and_right (not (dropped b)) (unfiltered t) e)))

-- texts with zeros behind them pass the layout's test
pub good-texts : (t : List ℕ) (k : ℕ) → utf8 t ≡ true → unfiltered t ≡ true → good_text (t ++ zeros k) ≡ true
unfolding good_text
good-texts t k u c = rw (filled-texts t k c) (both u (both c (rw (drop-append_seam t (zeros k)) (zero-zeros k))))
