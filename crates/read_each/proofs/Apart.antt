-- The stored keys of extras, of which no two are the same. Assumes nothing.
use Prim.Native.Nat.{ℕ, zero, suc, ◌<◌}
use mathlib.Core.Path.{◌≡◌, refl, sym, ap, ◌∙◌}
use mathlib.Core.Bool.{Bool, true, false, cond, ◌||◌, false≢true}
use mathlib.Core.List.{List, [], ◌∷◌, ◌++◌}
use native.Mathlib.Omega.{arith}
use borrow.Author.Tests.{le-leb, leb-true}
use lib.Dec.{leb}
use lib.ListN.{length, get_or}
use Rattle.read_free.specs.of_names.Names.{same_bytes}
use Rattle.read_free.proofs.of_names.NameLaws.{same_refl, same_true}
use Rattle.read_free.specs.of_tree_record.Record.{text_at}
use Rattle.read_free.specs.of_read_element.Attributes.{place_of, among}

-- the stored keys of extras
abbrev pub key_texts : List ℕ → List (List ℕ) → List (List ℕ)
key_texts texts [] = []
key_texts texts (r ∷ rs) = text_at texts r 2 ∷ key_texts texts rs

pub length-texts : (texts : List ℕ) (rs : List (List ℕ)) → length (key_texts texts rs) ≡ length rs
length-texts texts [] = refl
length-texts texts (r ∷ rs) = ap suc (length-texts texts rs)

-- no two are the same
abbrev pub Apart : List (List ℕ) → Type 0
Apart [] = Unit {0}
Apart (k ∷ ks) = (among k ks ≡ false) × Apart ks

pub or-none : (t u : Bool) → (t || u) ≡ false → (t ≡ false) × (u ≡ false)
or-none true u e = absurd (false≢true (sym e))
or-none false u e = (refl, e)

pub among-append : (k : List ℕ) (a b : List (List ℕ)) → among k a ≡ false → among k b ≡ false → among k (a ++ b) ≡ false
among-append k [] b e f = f
among-append k (x ∷ a) b e f =
    let p = or-none (same_bytes x k) (among k a) e in
    ap (λ (t : Bool). t || among k (a ++ b)) p.0 ∙ among-append k a b p.1 f

unlike-back : (a b : List ℕ) → same_bytes a b ≡ false → same_bytes b a ≡ false
unlike-back a b e = go (same_bytes b a) refl
  where
    go : (t : Bool) → same_bytes b a ≡ t → t ≡ false
    go true q = absurd (false≢true (sym e ∙ ap (same_bytes a) (same_true b a q) ∙ same_refl a))
    go false q = refl

pub apart_more : (ks : List (List ℕ)) (k : List ℕ) → Apart ks → among k ks ≡ false → Apart (ks ++ (k ∷ []))
apart_more [] k a e = (refl, tt)
apart_more (x ∷ ks) k a e =
    let p = or-none (same_bytes x k) (among k ks) e in
    (among-append x ks (k ∷ []) a.0 (ap (λ (t : Bool). t || false) (unlike-back x k p.0)), apart_more ks k a.1 p.1)

-- a key whose place is their number isn't among them
pub not_found : (texts k : List ℕ) (rs : List (List ℕ)) → leb (length rs) (place_of texts k rs) ≡ true → among k (key_texts texts rs) ≡ false
not_found texts k [] e = refl
not_found texts k (r ∷ rs) e = go (same_bytes (text_at texts r 2) k) e (not_found texts k rs)
  where
    go : (t : Bool) → leb (suc (length rs)) (cond t 0 (suc (place_of texts k rs))) ≡ true
        → (leb (length rs) (place_of texts k rs) ≡ true → among k (key_texts texts rs) ≡ false) → (t || among k (key_texts texts rs)) ≡ false
    go true e f = let h = leb-true (suc (length rs)) 0 e in absurd (omega arith)
    go false e f = let h = leb-true (suc (length rs)) (suc (place_of texts k rs)) e in f (le-leb (length rs) (place_of texts k rs) (omega arith))

pub place_none : (texts k : List ℕ) (rs : List (List ℕ)) → among k (key_texts texts rs) ≡ false → place_of texts k rs ≡ length rs
place_none texts k [] e = refl
place_none texts k (r ∷ rs) e =
    let p = or-none (same_bytes (text_at texts r 2) k) (among k (key_texts texts rs)) e in
    ap (λ (t : Bool). cond t 0 (suc (place_of texts k rs))) p.0 ∙ ap suc (place_none texts k rs p.1)

among-at : (x : List ℕ) (ks : List (List ℕ)) (i : ℕ) → among x ks ≡ false → i < length ks → same_bytes (get_or ks i []) x ≡ false
among-at x [] i e h = absurd (omega arith)
among-at x (k ∷ ks) zero e h = (or-none (same_bytes k x) (among x ks) e).0
among-at x (k ∷ ks) (suc i) e h = among-at x ks i (or-none (same_bytes k x) (among x ks) e).1 (omega arith)

-- where no two are the same, a key that stands somewhere has that place
pub place-apart : (texts k : List ℕ) (rs : List (List ℕ)) (i : ℕ) → Apart (key_texts texts rs) → i < length rs → same_bytes (get_or (key_texts texts rs) i []) k ≡ true → place_of texts k rs ≡ i
place-apart texts k [] i a h e = absurd (omega arith)
place-apart texts k (r ∷ rs) zero a h e = ap (λ (t : Bool). cond t 0 (suc (place_of texts k rs))) e
place-apart texts k (r ∷ rs) (suc i) a h e =
    let l = length-texts texts rs in
    let s : same_bytes k (text_at texts r 2) ≡ false =
    ap (λ (x : List ℕ). same_bytes x (text_at texts r 2)) (sym (same_true (get_or (key_texts texts rs) i []) k e)) ∙ among-at (text_at texts r 2) (key_texts texts rs) i a.0 (omega arith) in
    ap (λ (t : Bool). cond t 0 (suc (place_of texts k rs))) (unlike-back k (text_at texts r 2) s) ∙ ap suc (place-apart texts k rs i a.1 (omega arith) e)
