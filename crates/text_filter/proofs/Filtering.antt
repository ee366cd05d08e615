-- The filter: what it keeps, along a list, and that it keeps UTF-8. Assumes nothing.
use Prim.Native.Nat.{ℕ, zero, suc, ◌+◌, ◌≤◌, ◌<◌}
use mathlib.Core.Path.{◌≡◌, refl, sym, ap, ◌∙◌}
use mathlib.Core.List.{List, [], ◌∷◌, ◌++◌}
use mathlib.Core.Bool.{Bool, true, false, cond, not, ◌&&◌, false≢true, and-eq-true_iff}
use native.Mathlib.Omega.{arith}
use native.Mathlib.Decide.{dec_lt}
use borrow.Author.Tests.{le-leb, lt-leb, ne_eqb, leb-true}
use lib.Dec.{leb, lit≤}
use lib.ListN.{length, get_or, drop, drop_of_length-le}
use Rattle.copying.proofs.of_area.Lists.{drop-next}
use Rattle.utf8.specs.Utf8.{need, low, high, within, ok, utf8}
use Rattle.utf8.proofs.Runs.{low-least, need-ascii, ok-zero}
use Rattle.text_filter.specs.Filter.{dropped, filtered, unfiltered}

-- a byte from 0x20 on is kept
pub kept_high : (b : ℕ) → 0x20 ≤ b → dropped b ≡ false
kept_high b h = simp (lt-leb b 0x08 (omega arith), ne_eqb b 0x0B (omega arith), ne_eqb b 0x0C (omega arith), le-leb 0x0E b (omega arith), lt-leb b 0x1F (omega arith))

pub dropped-low : (b : ℕ) → dropped b ≡ true → b < 0x20
dropped-low b e = go (dec_lt b 0x20)
  where
    go : Dec (b < 0x20) → b < 0x20
    go (yes h) = h
    go (no h) = absurd (false≢true (sym (kept_high b (omega arith)) ∙ e))

-- the filter of a list, by its first byte
module _ (b : ℕ) (s : List ℕ) where
  pub filter-drop : dropped b ≡ true → filtered (b ∷ s) ≡ filtered s
  filter-drop e = ap (λ (t : Bool). cond t (filtered s) (b ∷ filtered s)) e

  pub filter-keep : dropped b ≡ false → filtered (b ∷ s) ≡ b ∷ filtered s
  filter-keep e = ap (λ (t : Bool). cond t (filtered s) (b ∷ filtered s)) e

-- the same at a place of a list
module _ (s : List ℕ) (i : ℕ) where
  pub filter_drop-at : i < length s → dropped (get_or s i 0) ≡ true → filtered (drop i s) ≡ filtered (drop (i + 1) s)
  filter_drop-at h e = ap filtered (drop-next s i h) ∙ filter-drop (get_or s i 0) (drop (i + 1) s) e

  pub filter_keep-at : i < length s → dropped (get_or s i 0) ≡ false → filtered (drop i s) ≡ get_or s i 0 ∷ filtered (drop (i + 1) s)
  filter_keep-at h e = ap filtered (drop-next s i h) ∙ filter-keep (get_or s i 0) (drop (i + 1) s) e

  pub filter-end : length s ≤ i → filtered (drop i s) ≡ []
  filter-end h = ap filtered (drop_of_length-le s h)

-- the filter goes part by part
pub filtered-append : (s t : List ℕ) → filtered (s ++ t) ≡ filtered s ++ filtered t
filtered-append [] t = refl
filtered-append (b ∷ s) t = go (dropped b) (filtered-append s t)
  where
    go : (d : Bool) → filtered (s ++ t) ≡ filtered s ++ filtered t → cond d (filtered (s ++ t)) (b ∷ filtered (s ++ t)) ≡ cond d (filtered s) (b ∷ filtered s) ++ filtered t
    go true ih = ih
    go false ih = ap (λ (l : List ℕ). b ∷ l) ih

-- filtering never lengthens
pub length-filtered : (s : List ℕ) → length (filtered s) ≤ length s
length-filtered [] = omega arith
length-filtered (b ∷ s) = go (dropped b) (length-filtered s)
  where
    go : (d : Bool) → length (filtered s) ≤ length s → length (cond d (filtered s) (b ∷ filtered s)) ≤ suc (length s)
    go true ih = omega arith
    go false ih = omega arith

-- what was filtered holds nothing that is dropped, and the filter leaves such a text as it is
pub unfiltered-filtered : (s : List ℕ) → unfiltered (filtered s) ≡ true
unfiltered-filtered [] = refl
unfiltered-filtered (b ∷ s) = go (dropped b) refl (unfiltered-filtered s)
  where
    go : (d : Bool) → dropped b ≡ d → unfiltered (filtered s) ≡ true → unfiltered (cond d (filtered s) (b ∷ filtered s)) ≡ true
    go true q ih = ih
    go false q ih = ap (λ (t : Bool). not t && unfiltered (filtered s)) q ∙ ih

-- a text with nothing to filter stays as it is
pub filtered-same : (s : List ℕ) → unfiltered s ≡ true → filtered s ≡ s
filtered-same [] e = refl
filtered-same (b ∷ s) e = go (dropped b) refl (filtered-same s)
  where
    go : (d : Bool) → dropped b ≡ d → (unfiltered s ≡ true → filtered s ≡ s) → filtered (b ∷ s) ≡ b ∷ s
    go true q ih = absurd (false≢true (sym (ap (λ (t : Bool). not t && unfiltered s) q) ∙ e))
    go false q ih = filter-keep b s q ∙ ap (λ (l : List ℕ). b ∷ l) (ih (sym (ap (λ (t : Bool). not t && unfiltered s) q) ∙ e))

pub filtered-twice : (s : List ℕ) → filtered (filtered s) ≡ filtered s
filtered-twice s = filtered-same (filtered s) (unfiltered-filtered s)

-- a joined text has nothing to filter exactly if both its parts have nothing
pub unfiltered-append : (s t : List ℕ) → unfiltered (s ++ t) ≡ (unfiltered s && unfiltered t)
unfiltered-append [] t = refl
unfiltered-append (b ∷ s) t = go (dropped b) (unfiltered-append s t)
  where
    go : (d : Bool) → unfiltered (s ++ t) ≡ (unfiltered s && unfiltered t) → (not d && unfiltered (s ++ t)) ≡ ((not d && unfiltered s) && unfiltered t)
    go true ih = refl
    go false ih = ih

-- a dropped byte is a whole character, so what is left of a text is one
ok-filtered : (s : List ℕ) (n lo hi : ℕ) → 0x20 ≤ lo → ok s n lo hi ≡ true → ok (filtered s) n lo hi ≡ true
ok-filtered [] zero lo hi h e = refl
ok-filtered [] (suc n) lo hi h e = e
ok-filtered (b ∷ s) zero lo hi h e = go (ok-filtered s (need b) (low b) (high b) (let g = low-least b in omega arith) e) (dropped b) refl
  where
    go : ok (filtered s) (need b) (low b) (high b) ≡ true → (t : Bool) → dropped b ≡ t → ok (filtered (b ∷ s)) zero lo hi ≡ true
    go ih true q =
        ap (λ (l : List ℕ). ok l zero lo hi) (filter-drop b s q) ∙ ok-zero (filtered s) lo hi ∙ sym (ok-zero (filtered s) (low b) (high b))
        ∙ ap (λ (n : ℕ). ok (filtered s) n (low b) (high b)) (sym (need-ascii b (let c = dropped-low b q in omega arith))) ∙ ih
    go ih false q = ap (λ (l : List ℕ). ok l zero lo hi) (filter-keep b s q) ∙ ih
ok-filtered (b ∷ s) (suc n) lo hi h e =
    let p = (and-eq-true_iff (within lo hi b) (ok s n 0x80 0xBF)).0 e in
    let q = leb-true lo b ((and-eq-true_iff (leb lo b) (leb b hi)).0 p.0).0 in
    ap (λ (l : List ℕ). ok l (suc n) lo hi) (filter-keep b s (kept_high b (omega arith)))
    ∙ ap (λ (t : Bool). t && ok (filtered s) n 0x80 0xBF) p.0 ∙ ok-filtered s n 0x80 0xBF (lit≤ tt) p.1

-- UTF-8 stays UTF-8, since whole characters are taken out
pub utf8-filtered : (s : List ℕ) → utf8 s ≡ true → utf8 (filtered s) ≡ true
utf8-filtered s e = ok-filtered s 0 0x80 0xBF (lit≤ tt) e
