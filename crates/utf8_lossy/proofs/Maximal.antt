-- The part that a list begins with, by the grammar of RFC 3629: a character, or the longest beginning of one. Assumes nothing.
use Prim.Native.Nat.{ℕ, zero, suc, ◌≤◌, ◌<◌}
use mathlib.Core.Bool.{Bool, true, false, and-eq-true_iff}
use mathlib.Core.List.{List, [], ◌∷◌, ◌++◌, append-nil}
use mathlib.Core.Path.{◌≡◌, refl, sym, ap, ◌∙◌}
use native.Mathlib.Nat.{le_of_eq}
use native.Mathlib.Omega.{arith}
use lib.ListN.{length, take, drop, take-append-drop}
use lib.Seq.{take_all}
use Rattle.utf8.specs.Grammar.{Char}
use Rattle.utf8.specs.Utf8.{need, low, high, within, runs, width}
use Rattle.utf8.proofs.Rules.{run-char, width-char, char-size}
use Rattle.utf8.proofs.Runs.{width_some, width-none}
use Rattle.utf8_lossy.specs.Lossy.{along, behind, part_width, is_whole, Begins}
use Rattle.utf8_lossy.proofs.Parts.{along-length, runs-along}

-- p can be filled up to n bytes
abbrev Filled : List ℕ → ℕ → ℕ → ℕ → Type 0
Filled p n lo hi = (t : List ℕ) × (runs (p ++ t) n lo hi ≡ true) × (length (p ++ t) ≡ n)

tails : (n : ℕ) → Filled [] n 0x80 0xBF
tails zero = ([], refl, refl)
tails (suc n) = let f = tails n in (0x80 ∷ f.0, f.1, ap suc f.2)

filled_on : (b : ℕ) (p : List ℕ) (n lo hi : ℕ) → within lo hi b ≡ true → Filled p n 0x80 0xBF → Filled (b ∷ p) (suc n) lo hi
filled_on b p n lo hi e f = (f.0, rw e f.1, ap suc f.2)

later : (s : List ℕ) (j n : ℕ) → j ≤ along s n 0x80 0xBF → Filled (take j s) n 0x80 0xBF
later s zero n h = tails n
later [] (suc j) n h = absurd (let m = along-length [] n 0x80 0xBF in omega arith)
later (b ∷ s) (suc j) zero h = absurd (omega arith)
later (b ∷ s) (suc j) (suc n) h = go (within 0x80 0xBF b) refl (later s j n)
  where
    go : (t : Bool) → within 0x80 0xBF b ≡ t → (j ≤ along s n 0x80 0xBF → Filled (take j s) n 0x80 0xBF) → Filled (b ∷ take j s) (suc n) 0x80 0xBF
    go true q f = filled_on b (take j s) n 0x80 0xBF q (f (let g = rw q at h in omega arith))
    go false q f = absurd (let g = rw q at h in omega arith)

first : (s : List ℕ) (j n lo hi : ℕ) → suc j ≤ along s n lo hi → Filled (take (suc j) s) n lo hi
first [] j n lo hi h = absurd (let m = along-length [] n lo hi in omega arith)
first (b ∷ s) j zero lo hi h = absurd (omega arith)
first (b ∷ s) j (suc n) lo hi h = go (within lo hi b) refl
  where
    go : (t : Bool) → within lo hi b ≡ t → Filled (b ∷ take j s) (suc n) lo hi
    go true q = filled_on b (take j s) n lo hi q (later s j n (let g = rw q at h in omega arith))
    go false q = absurd (let g = rw q at h in omega arith)

begun : (b : ℕ) (s : List ℕ) (k : ℕ) → behind b s ≡ suc k → Begins (b ∷ take (suc k) s)
begun b s k e =
    let f = first s k (need b) (low b) (high b) (le_of_eq (sym e)) in
    let c : Char (b ∷ take (need b) (take (suc k) s ++ f.0)) = run-char b (take (suc k) s ++ f.0) f.1 in
    (f.0, rw (take_all (need b) (take (suc k) s ++ f.0) (le_of_eq f.2)) at c)

-- a part of more than one byte begins a character
pub part-begins : (s : List ℕ) → 1 < part_width s → Begins (take (part_width s) s)
part-begins [] h = absurd (omega arith)
part-begins (b ∷ s) h = go (behind b s) refl
  where
    go : (k : ℕ) → behind b s ≡ k → Begins (b ∷ take (behind b s) s)
    go zero e = absurd (omega arith)
    go (suc k) e = rw e (begun b s k e)

-- what begins a character goes along
along-far : (s : List ℕ) (j n lo hi : ℕ) (t : List ℕ) → j ≤ length s → length (take j s ++ t) ≡ n → runs (take j s ++ t) n lo hi ≡ true → j ≤ along s n lo hi
along-far s zero n lo hi t h l e = omega arith
along-far [] (suc j) n lo hi t h l e = absurd (omega arith)
along-far (b ∷ s) (suc j) zero lo hi t h l e = absurd (omega arith)
along-far (b ∷ s) (suc j) (suc n) lo hi t h l e =
    let p = (and-eq-true_iff (within lo hi b) (runs (take j s ++ t) n 0x80 0xBF)).0 e in
    let r = along-far s j n 0x80 0xBF t (omega arith) (omega arith) p.1 in
    rw p.0 (omega arith)

-- a character, by its lead byte
char-row : (b : ℕ) (x : List ℕ) → Char (b ∷ x) → (runs x (need b) (low b) (high b) ≡ true) × (length x ≡ need b)
char-row b x c = go (runs x (need b) (low b) (high b)) refl
  where
    w : width (b ∷ x) ≡ suc (length x)
    w = sym (ap width (append-nil (b ∷ x))) ∙ width-char c []

    go : (t : Bool) → runs x (need b) (low b) (high b) ≡ t → (t ≡ true) × (length x ≡ need b)
    go true q = (refl, omega (arith, w, width_some x b q))
    go false q = absurd (omega (arith, w, width-none x b q))

-- and nothing longer that stands there does
pub part-longest : (s : List ℕ) (m : ℕ) → part_width s < m → m ≤ length s → Begins (take m s) → ⊥
part-longest s zero h l g = omega arith
part-longest [] (suc j) h l g = omega arith
part-longest (b ∷ s) (suc j) h l g =
    let r = char-row b (take j s ++ g.0) g.1 in
    let f = along-far s j (need b) (low b) (high b) g.0 (omega arith) r.1 r.0 in
    omega arith

-- a part is whole exactly if a character stands there
pub whole-char : (s : List ℕ) → 0 < length s → is_whole s ≡ true → Char (take (part_width s) s)
whole-char [] h e = absurd (omega arith)
whole-char (b ∷ s) h e = rw (runs-along s (need b) (low b) (high b) e) (run-char b s e)

pub char-whole : (s : List ℕ) (m : ℕ) → Char (take m s) → is_whole s ≡ true
char-whole [] m c = refl
char-whole (b ∷ s) m c = go (runs s (need b) (low b) (high b)) refl
  where
    w : width (b ∷ s) ≡ length (take m (b ∷ s))
    w = sym (ap width (take-append-drop m (b ∷ s))) ∙ width-char c (drop m (b ∷ s))

    go : (t : Bool) → runs s (need b) (low b) (high b) ≡ t → t ≡ true
    go true q = refl
    go false q = absurd (let n = char-size c in omega (arith, w, width-none s b q))
