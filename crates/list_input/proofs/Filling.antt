-- An area is filled with the words of a text, one by one. Assumes nothing.
use Prim.Native.Nat.{ℕ, zero, suc, ◌+◌, ◌*◌, ◌-◌, ◌≤◌, ◌<◌}
use mathlib.Core.Path.{◌≡◌, refl, sym, ap, ◌∙◌}
use mathlib.Core.List.{List, [], ◌∷◌, ◌++◌, append-nil}
use native.Mathlib.Omega.{arith}
use native.Mathlib.Nat.{not-suc-le-zero, le_of_suc-le-suc}
use native.Mathlib.Numerals.{add-one}
use lib.ListN.{length, take, drop, set}
use lib.Seq.{drop-drop, drop-length, length-take-le}
use Rattle.area.specs.Area.{laid}
use Rattle.area.proofs.Parts.{rest_part}
use Rattle.area.proofs.Laying.{laid-fits}
use Rattle.list_input.specs.Input.{word_of, words_of}

put-suc : (n : ℕ) (s d : List ℕ) → n < length d → set (words_of n s ++ drop n d) n (word_of (drop (n * 4) s)) ≡ words_of (suc n) s ++ drop (suc n) d
unfolding words_of
put-suc n s [] l = absurd (not-suc-le-zero l)
put-suc zero s (x ∷ d) l = refl
put-suc (suc n) s (x ∷ d) l =
    let e : suc n * 4 ≡ 4 + n * 4 = omega arith in
    ap (λ (r : List ℕ). word_of s ∷ r)
    (ap (λ (w : ℕ). set (words_of n (drop 4 s) ++ drop n d) n w) (ap (λ (k : ℕ). word_of (drop k s)) e ∙ ap word_of (sym (drop-drop (n * 4) 4 s)))
    ∙ put-suc n (drop 4 s) d (le_of_suc-le-suc l))

-- i words are put: words₀ is the area as it was, words as it is
pub record Filling (words₀ s words : List ℕ) (i : ℕ) : Type 0 where
  pub fits : i ≤ length words₀
  pub done : words ≡ words_of i s ++ drop i words₀

pub filling-start : (words s : List ℕ) → Filling words s words 0
unfolding words_of
filling-start words s = record { fits = omega arith; done = refl }

pub filling-more : {words₀ s words : List ℕ} {i : ℕ} → Filling words₀ s words i → i < length words₀ → (w : ℕ) → w ≡ word_of (drop (i * 4) s) → Filling words₀ s (set words i w) (i + 1)
filling-more {words₀} {s} {words} {i} k h w e = record { fits = omega arith; done = rw (k.done, e, add-one i) (put-suc i s words₀ h) }

pub filling-done : {words₀ s words : List ℕ} {i : ℕ} → Filling words₀ s words i → length words₀ ≤ i → words ≡ words_of (length words₀) s
filling-done {words₀} {s} {words} {i} k h =
    let e : i ≡ length words₀ = omega (arith, k.fits) in
    k.done ∙ rw (e, drop-length words₀) (append-nil (words_of (length words₀) s))

pub length-words : (n : ℕ) (s : List ℕ) → length (words_of n s) ≡ n
unfolding words_of
length-words zero s = refl
length-words (suc n) s = ap suc (length-words n (drop 4 s))

-- the front of an area was filled from a place of s on
pub front-filled : (n at : ℕ) (area s r : List ℕ) → n ≤ length area → r ≡ words_of (length (take n area)) (take (length s - at) (drop at s)) → r ++ drop n area ≡ laid area (words_of n (drop at s))
front-filled n at area s r h e =
    let f : r ≡ words_of n (drop at s) = e ∙ ap (λ (k : ℕ). words_of k (take (length s - at) (drop at s))) (length-take-le n area h) ∙ ap (words_of n) (rest_part s at) in
    let l : length (words_of n (drop at s)) ≡ n = length-words n (drop at s) in
    let g : length (words_of n (drop at s)) ≤ length area = omega arith in
    rw f (ap (λ (k : ℕ). words_of n (drop at s) ++ drop k area) (sym l) ∙ sym (laid-fits area (words_of n (drop at s)) g))
