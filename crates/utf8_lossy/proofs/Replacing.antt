-- Bytes read lossily, part by part: always UTF-8, UTF-8 unchanged, at most three times as long. Assumes nothing.
use Prim.Native.Nat.{ℕ, zero, suc, ◌+◌, ◌-◌, ◌*◌, ◌≤◌}
use mathlib.Core.Bool.{true, and-eq-true_iff}
use mathlib.Core.List.{List, [], ◌∷◌, ◌++◌}
use mathlib.Core.Path.{◌≡◌, refl, ap, ◌∙◌}
use native.Mathlib.Omega.{arith}
use lib.ListN.{length, take, drop, length-append, take-append-drop, drop_of_length-le}
use lib.Seq.{drop-drop}
use Rattle.utf8.specs.Utf8.{need, low, high, within, ok, utf8}
use Rattle.utf8.proofs.Rules.{utf8-first, char-on}
use Rattle.utf8_lossy.specs.Lossy.{behind, part_width, part_text, lossy_from, lossy}
use Rattle.utf8_lossy.proofs.Parts.{along-length, runs-along, text-whole, text-char, text-most}

-- a skip is a drop
lossy-drop : (s : List ℕ) (k : ℕ) → lossy_from s k ≡ lossy (drop k s)
lossy-drop [] zero = refl
lossy-drop [] (suc k) = refl
lossy-drop (b ∷ s) zero = refl
lossy-drop (b ∷ s) (suc k) = lossy-drop s k

-- the first part, and the rest
lossy-on : (s : List ℕ) → lossy s ≡ part_text s ++ lossy (drop (part_width s) s)
lossy-on [] = refl
lossy-on (b ∷ s) = ap (λ (l : List ℕ). part_text (b ∷ s) ++ l) (lossy-drop s (behind b s))

-- the same at a place of the list
pub lossy-next : (s : List ℕ) (i : ℕ) → lossy (drop i s) ≡ part_text (drop i s) ++ lossy (drop (i + part_width (drop i s)) s)
lossy-next s i = lossy-on (drop i s) ∙ ap (λ (l : List ℕ). part_text (drop i s) ++ lossy l) (drop-drop (part_width (drop i s)) i s)

-- behind the end nothing is left to read
pub lossy-end : (s : List ℕ) (i : ℕ) → length s ≤ i → lossy (drop i s) ≡ []
lossy-end s i h = ap lossy (drop_of_length-le s h)

utf8-from : (s : List ℕ) (k : ℕ) → utf8 (lossy_from s k) ≡ true
utf8-from [] k = refl
utf8-from (b ∷ s) zero = char-on (text-char b s) (lossy_from s (behind b s)) ∙ utf8-from s (behind b s)
utf8-from (b ∷ s) (suc k) = utf8-from s k

-- the result is always UTF-8
pub utf8-lossy : (s : List ℕ) → utf8 (lossy s) ≡ true
utf8-lossy s = utf8-from s 0

same_from : (s : List ℕ) (k lo hi : ℕ) → ok s k lo hi ≡ true → lossy_from s k ≡ drop k s
same_from [] zero lo hi e = refl
same_from [] (suc k) lo hi e = refl
same_from (b ∷ s) zero lo hi e =
    let p = (utf8-first b s e).0 in
    ap (λ (l : List ℕ). l ++ lossy_from s (behind b s)) (text-whole b s p)
    ∙ ap (λ (n : ℕ). b ∷ (take (need b) s ++ lossy_from s n)) (runs-along s (need b) (low b) (high b) p)
    ∙ ap (λ (l : List ℕ). b ∷ (take (need b) s ++ l)) (same_from s (need b) (low b) (high b) e)
    ∙ ap (λ (l : List ℕ). b ∷ l) (take-append-drop (need b) s)
same_from (b ∷ s) (suc k) lo hi e = same_from s k 0x80 0xBF ((and-eq-true_iff (within lo hi b) (ok s k 0x80 0xBF)).0 e).1

-- UTF-8 stays as it is
pub lossy-same : (s : List ℕ) → utf8 s ≡ true → lossy s ≡ s
lossy-same s e = same_from s 0 0x80 0xBF e

length_from : (s : List ℕ) (k : ℕ) → length (lossy_from s k) ≤ 3 * (length s - k)
length_from [] k = omega arith
length_from (b ∷ s) zero =
    let m = along-length s (need b) (low b) (high b) in
    rw (length-append (part_text (b ∷ s)) (lossy_from s (behind b s))) (omega (arith, text-most b s, length_from s (behind b s)))
length_from (b ∷ s) (suc k) = let h = length_from s k in omega arith

-- read lossily, a text has at most three times its bytes: the bound for areas
pub length-lossy : (s : List ℕ) → length (lossy s) ≤ 3 * length s
length-lossy s = let h = length_from s 0 in omega arith
