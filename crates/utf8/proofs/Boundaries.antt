-- Parts of UTF-8 at the places between characters. Assumes nothing.
use Prim.Native.Nat.{ℕ, zero, suc, ◌+◌, ◌-◌, ◌≤◌, ◌<◌}
use mathlib.Core.Bool.{Bool, true, false, not, false≢true, and-eq-true_iff}
use mathlib.Core.List.{List, [], ◌∷◌, ◌++◌}
use mathlib.Core.Path.{◌≡◌, refl, sym, ap, ◌∙◌}
use native.Mathlib.Decide.{dec_lt}
use native.Mathlib.Omega.{arith}
use borrow.Author.Tests.{ne_eqb, lt-ltb, le-ltb}
use lib.Dec.{leb-suc-suc, eqb-suc-suc, eqb-zero-suc, lit≤}
use lib.ListN.{length, take, drop, length-append}
use lib.Seq.{drop-append_seam}
use Rattle.utf8.specs.Characters.{boundary}
use Rattle.utf8.specs.Utf8.{need, low, high, within, ok, utf8}
use Rattle.utf8.proofs.Rules.{within_in, in_within, tail-first}
use Rattle.utf8.proofs.Runs.{low-least, high-most}

boundary-suc : (b : ℕ) (s : List ℕ) (i : ℕ) → boundary (b ∷ s) (suc i) ≡ boundary s i
boundary-suc b s i = rw (eqb-suc-suc i (length s), leb-suc-suc (suc i) (length s))

boundary-zero : (b : ℕ) (s : List ℕ) → boundary (b ∷ s) 0 ≡ not (within 0x80 0xBF b)
boundary-zero b s = simp (eqb-zero-suc (length s), lt-ltb 0 (suc (length s)) (omega arith))

-- a place of the list without its first i bytes
pub boundary-drop : (i : ℕ) (s : List ℕ) (j : ℕ) → i ≤ length s → boundary s (i + j) ≡ boundary (drop i s) j
boundary-drop zero s j h = let e : 0 + j ≡ j = omega arith in rw e refl
boundary-drop (suc i) [] j h = absurd (omega arith)
boundary-drop (suc i) (b ∷ s) j h =
    let e : suc i + j ≡ suc (i + j) = omega arith in
    ap (boundary (b ∷ s)) e ∙ boundary-suc b s (i + j) ∙ boundary-drop i s j (omega arith)

-- a boundary lies in the text or at its end
pub boundary-in : (s : List ℕ) (i : ℕ) → boundary s i ≡ true → i ≤ length s
boundary-in s i e = go (dec_lt (length s) i)
  where
    go : Dec (length s < i) → i ≤ length s
    go (yes h) = absurd (false≢true (sym (simp (ne_eqb i (length s) (omega arith), le-ltb i (length s) (omega arith))) ∙ e))
    go (no h) = omega arith

cut : (s : List ℕ) (n lo hi i : ℕ) → 0x80 ≤ lo → hi ≤ 0xBF → ok s n lo hi ≡ true → boundary s i ≡ true → (ok (take i s) n lo hi ≡ true) × (utf8 (drop i s) ≡ true)
cut [] n lo hi zero l h e p = (e, refl)
cut [] n lo hi (suc i) l h e p = absurd (let q = boundary-in [] (suc i) p in omega arith)
cut (b ∷ s) zero lo hi zero l h e p = (refl, e)
cut (b ∷ s) (suc n) lo hi zero l h e p =
    let q = within_in lo hi b ((and-eq-true_iff (within lo hi b) (ok s n 0x80 0xBF)).0 e).0 in
    absurd (false≢true (sym (boundary-zero b s ∙ ap not (in_within 0x80 0xBF b (omega arith))) ∙ p))
cut (b ∷ s) zero lo hi (suc i) l h e p = cut s (need b) (low b) (high b) i (low-least b) (high-most b) e (sym (boundary-suc b s i) ∙ p)
cut (b ∷ s) (suc n) lo hi (suc i) l h e p =
    let q = (and-eq-true_iff (within lo hi b) (ok s n 0x80 0xBF)).0 e in
    let r = cut s n 0x80 0xBF i (lit≤ tt) (lit≤ tt) q.1 (sym (boundary-suc b s i) ∙ p) in
    (rw q.0 r.0, r.1)

-- a boundary parts UTF-8 in two
pub utf8-cut : (s : List ℕ) (i : ℕ) → utf8 s ≡ true → boundary s i ≡ true → (utf8 (take i s) ≡ true) × (utf8 (drop i s) ≡ true)
utf8-cut s i e p = cut s 0 0x80 0xBF i (lit≤ tt) (lit≤ tt) e p

-- what stands between two boundaries is UTF-8
pub utf8-part : (s : List ℕ) (i j : ℕ) → utf8 s ≡ true → boundary s i ≡ true → boundary s j ≡ true → i ≤ j → utf8 (take (j - i) (drop i s)) ≡ true
utf8-part s i j e p q h =
    let z : i + (j - i) ≡ j = omega arith in
    (utf8-cut (drop i s) (j - i) (utf8-cut s i e p).1 (sym (boundary-drop i s (j - i) (boundary-in s i p)) ∙ ap (boundary s) z ∙ q)).0

-- the start of UTF-8 is a boundary, wherever it stands
boundary_start : (s : List ℕ) → utf8 s ≡ true → boundary s 0 ≡ true
boundary_start [] e = refl
boundary_start (b ∷ s) e = boundary-zero b s ∙ go (within 0x80 0xBF b) refl
  where
    go : (t : Bool) → within 0x80 0xBF b ≡ t → not (within 0x80 0xBF b) ≡ true
    go true q = absurd (tail-first b s e (within_in 0x80 0xBF b q))
    go false q = rw q

-- where UTF-8 is put behind a text there is a boundary
pub boundary-append : (a b : List ℕ) → utf8 b ≡ true → boundary (a ++ b) (length a) ≡ true
boundary-append a b e =
    let z : length a + 0 ≡ length a = omega arith in
    sym (ap (boundary (a ++ b)) z) ∙ boundary-drop (length a) (a ++ b) 0 (simp length-append (omega arith)) ∙ ap (λ (l : List ℕ). boundary l 0) (drop-append_seam a b) ∙ boundary_start b e
