-- The characters of a list of bytes. Assumes nothing.
use Prim.Native.Nat.{ℕ, zero, suc, ◌≤◌, ◌<◌}
use mathlib.Core.Bool.{Bool, true, false, false≢true, and-eq-true_iff}
use mathlib.Core.List.{List, [], ◌∷◌, ◌++◌}
use mathlib.Core.Path.{◌≡◌, refl, sym, ap, ◌∙◌}
use native.Mathlib.Omega.{arith}
use lib.ListN.{length, take, drop, take-append-drop, length-append}
use lib.Seq.{take-append-le, take-append_seam, drop-append_seam}
use Rattle.utf8.specs.Characters.{following, step, split, chars, joined}
use Rattle.utf8.specs.Grammar.{Char}
use Rattle.utf8.specs.Utf8.{need, low, high, within, runs, ok, utf8, width}
use Rattle.utf8.proofs.Rules.{utf8-first, run-char, char-on, width-char, char-size}
use Rattle.utf8.proofs.Runs.{runs-length, width_some, width-none}

-- ---- how far a character reaches
module _ (b : ℕ) (s : List ℕ) where
  pub following-some : runs s (need b) (low b) (high b) ≡ true → following b s ≡ need b
  following-some e = rw e

  pub following-none : runs s (need b) (low b) (high b) ≡ false → following b s ≡ 0
  following-none e = rw e

  following-length : following b s ≤ length s
  following-length = go (runs s (need b) (low b) (high b)) refl
    where
      go : (t : Bool) → runs s (need b) (low b) (high b) ≡ t → following b s ≤ length s
      go true q = rw (following-some q) (runs-length s (need b) (low b) (high b) q)
      go false q = rw (following-none q) (omega arith)

-- a step goes on by some byte, so that the loop ends
pub step-some : (s : List ℕ) → 0 < length s → 0 < step s
step-some [] h = absurd (omega arith)
step-some (b ∷ s) h = omega arith

-- a step stays in the list
pub step-length : (s : List ℕ) → step s ≤ length s
step-length [] = omega arith
step-length (b ∷ s) = let f = following-length b s in omega arith

-- the width, or 1 for a byte that stands alone
pub step-width : (s : List ℕ) → 0 < width s → step s ≡ width s
step-width [] h = refl
step-width (b ∷ s) h = go (runs s (need b) (low b) (high b)) refl
  where
    go : (t : Bool) → runs s (need b) (low b) (high b) ≡ t → step (b ∷ s) ≡ width (b ∷ s)
    go true q = ap suc (following-some b s q) ∙ sym (width_some s b q)
    go false q = let z = width-none s b q in absurd (omega arith)

-- where no character begins, a step is one byte
pub step-stray : (s : List ℕ) → 0 < length s → width s ≡ 0 → step s ≡ 1
step-stray [] h e = absurd (omega arith)
step-stray (b ∷ s) h e = go (runs s (need b) (low b) (high b)) refl
  where
    go : (t : Bool) → runs s (need b) (low b) (high b) ≡ t → step (b ∷ s) ≡ 1
    go true q = let z = width_some s b q in absurd (omega arith)
    go false q = ap suc (following-none b s q)

pub step-utf8 : (s : List ℕ) → utf8 s ≡ true → step s ≡ width s
step-utf8 [] e = refl
step-utf8 (b ∷ s) e = let p = (utf8-first b s e).0 in ap suc (following-some b s p) ∙ sym (width_some s b p)

-- what a list begins with: a character of the grammar, or a byte that is none
pub first_char : (s : List ℕ) → 0 < width s → Char (take (width s) s)
first_char [] h = absurd (omega arith)
first_char (b ∷ s) h = go (runs s (need b) (low b) (high b)) refl
  where
    go : (t : Bool) → runs s (need b) (low b) (high b) ≡ t → Char (take (width (b ∷ s)) (b ∷ s))
    go true q = rw (width_some s b q) (run-char b s q)
    go false q = let z = width-none s b q in absurd (omega arith)

-- where no character begins, the first byte by itself is no UTF-8
pub first-stray : (s : List ℕ) → 0 < length s → width s ≡ 0 → utf8 (take 1 s) ≡ false
first-stray [] h e = absurd (omega arith)
first-stray (b ∷ s) h e = go (need b) refl
  where
    go : (n : ℕ) → need b ≡ n → ok [] (need b) (low b) (high b) ≡ false
    go zero q = let z = width_some s b (ap (λ (n : ℕ). runs s n (low b) (high b)) q) in absurd (omega arith)
    go (suc n) q = ap (λ (k : ℕ). ok [] k (low b) (high b)) q

-- ---- the characters
-- a skip is a drop
pub split-drop : (s : List ℕ) (k : ℕ) → split s k ≡ chars (drop k s)
split-drop [] zero = refl
split-drop [] (suc k) = refl
split-drop (b ∷ s) zero = refl
split-drop (b ∷ s) (suc k) = split-drop s k

-- the first character, and those of the rest
pub chars-step : (s : List ℕ) → 0 < length s → chars s ≡ take (step s) s ∷ chars (drop (step s) s)
chars-step [] h = absurd (omega arith)
chars-step (b ∷ s) h = ap (λ (cs : List (List ℕ)). (b ∷ take (following b s) s) ∷ cs) (split-drop s (following b s))

joined-split : (s : List ℕ) (k : ℕ) → joined (split s k) ≡ drop k s
joined-split [] zero = refl
joined-split [] (suc k) = refl
joined-split (b ∷ s) zero =
    ap (λ (t : List ℕ). b ∷ (take (following b s) s ++ t)) (joined-split s (following b s)) ∙ ap (λ (t : List ℕ). b ∷ t) (take-append-drop (following b s) s)
joined-split (b ∷ s) (suc k) = joined-split s k

-- the characters are the whole list
pub joined-chars : (s : List ℕ) → joined (chars s) ≡ s
joined-chars s = joined-split s 0

-- P of each
abbrev pub Each : (List ℕ → Type 0) → List (List ℕ) → Type 0
Each P [] = Unit {0}
Each P (c ∷ cs) = P c × Each P cs

split-each : (s : List ℕ) (k lo hi : ℕ) → ok s k lo hi ≡ true → Each Char (split s k)
split-each [] zero lo hi e = tt
split-each [] (suc k) lo hi e = tt
split-each (b ∷ s) zero lo hi e =
    let p = (utf8-first b s e).0 in rw (following-some b s p) (run-char b s p, split-each s (need b) (low b) (high b) e)
split-each (b ∷ s) (suc k) lo hi e = split-each s k 0x80 0xBF ((and-eq-true_iff (within lo hi b) (ok s k 0x80 0xBF)).0 e).1

-- those of UTF-8 are characters of the grammar
pub chars-each : (s : List ℕ) → utf8 s ≡ true → Each Char (chars s)
chars-each s e = split-each s 0 0x80 0xBF e

-- characters joined are UTF-8
pub joined-utf8 : (cs : List (List ℕ)) → Each Char cs → utf8 (joined cs) ≡ true
joined-utf8 [] a = refl
joined-utf8 (c ∷ cs) a = char-on a.0 (joined cs) ∙ joined-utf8 cs a.1

runs_append : (a b : List ℕ) (n lo hi : ℕ) → runs a n lo hi ≡ true → runs (a ++ b) n lo hi ≡ true
runs_append a b zero lo hi e = refl
runs_append [] b (suc n) lo hi e = absurd (false≢true e)
runs_append (x ∷ a) b (suc n) lo hi e =
    let p = (and-eq-true_iff (within lo hi x) (runs a n 0x80 0xBF)).0 e in rw p.0 (runs_append a b n 0x80 0xBF p.1)

split-append : (a b : List ℕ) (k lo hi : ℕ) → ok a k lo hi ≡ true → split (a ++ b) k ≡ split a k ++ chars b
split-append [] b zero lo hi e = refl
split-append [] b (suc k) lo hi e = absurd (false≢true e)
split-append (x ∷ a) b zero lo hi e =
    let p = (utf8-first x a e).0 in
    rw (following-some x a p, following-some x (a ++ b) (runs_append a b (need x) (low x) (high x) p), take-append-le (need x) a b (runs-length a (need x) (low x) (high x) p))
    (ap (λ (cs : List (List ℕ)). (x ∷ take (need x) a) ∷ cs) (split-append a b (need x) (low x) (high x) e))
split-append (x ∷ a) b (suc k) lo hi e = split-append a b k 0x80 0xBF ((and-eq-true_iff (within lo hi x) (ok a k 0x80 0xBF)).0 e).1

-- UTF-8 in front of anything
pub chars-append : (a b : List ℕ) → utf8 a ≡ true → chars (a ++ b) ≡ chars a ++ chars b
chars-append a b e = split-append a b 0 0x80 0xBF e

-- a character in front is split off as the first
pub chars-char : {c : List ℕ} → Char c → (s : List ℕ) → chars (c ++ s) ≡ c ∷ chars s
chars-char {c} h s =
    let n = char-size h in
    let w : width (c ++ s) ≡ length c = width-char h s in
    let e : step (c ++ s) ≡ length c = step-width (c ++ s) (omega arith) ∙ w in
    chars-step (c ++ s) (simp length-append (omega arith))
    ∙ ap (λ (k : ℕ). take k (c ++ s) ∷ chars (drop k (c ++ s))) e
    ∙ rw (take-append_seam c s, drop-append_seam c s) refl

-- characters, joined and split again
pub chars-joined : (cs : List (List ℕ)) → Each Char cs → chars (joined cs) ≡ cs
chars-joined [] a = refl
chars-joined (c ∷ cs) a = chars-char a.0 (joined cs) ∙ ap (λ (ds : List (List ℕ)). c ∷ ds) (chars-joined cs a.1)
