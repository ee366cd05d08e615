-- Texts spelled by a table, whatever its lists are. Assumes nothing.
use Prim.Native.Nat.{ℕ, ◌+◌, ◌*◌, ◌≤◌, ◌<◌}
use mathlib.Core.Path.{◌≡◌, refl, sym, ap, ◌∙◌}
use mathlib.Core.List.Memᴰ
use mathlib.Core.List.{List, [], ◌∷◌, ◌++◌, append_assoc, Memᴰ}
use mathlib.Core.Logic.{⊎_elim}
use native.Mathlib.Nat.{mul-suc}
use native.Mathlib.Omega.{arith}
use lib.ListN.{length, drop, get_or, length-append, drop_of_length-le}
use Rattle.copying.proofs.of_area.Lists.{drop-next}
use Rattle.copying.proofs.of_area.Laying.{Laying, laying_on}
use Rattle.escape.specs.Escape.{spelled}

module _ (table : ℕ → List ℕ) where
  -- spelling goes part by part, so that a text may be spelled in pieces
  pub spelled-append : (s t : List ℕ) → spelled table (s ++ t) ≡ spelled table s ++ spelled table t
  spelled-append [] t = refl
  spelled-append (b ∷ s) t = ap (λ (l : List ℕ). table b ++ l) (spelled-append s t) ∙ sym (append_assoc (table b) (spelled table s) (spelled table t))

  -- the text from i on, by its first byte's list
  pub spelled-next : (s : List ℕ) (i : ℕ) → i < length s → spelled table (drop i s) ≡ table (get_or s i 0) ++ spelled table (drop (i + 1) s)
  spelled-next s i h = ap (spelled table) (drop-next s i h)

  -- behind the end there is nothing to spell
  pub spelled-end : (s : List ℕ) (i : ℕ) → length s ≤ i → spelled table (drop i s) ≡ []
  spelled-end s i h = ap (spelled table) (drop_of_length-le s {i = i} h)

  -- s is put up to its byte i, and f is still to come of what stands for that byte
  abbrev pub Coming : (out₀ out : List ℕ) (k : ℕ) (s : List ℕ) (i : ℕ) (f : List ℕ) → Type 0
  Coming out₀ out k s i f = Laying out₀ out k (spelled table s) (f ++ spelled table (drop (i + 1) s))

  pub coming : {out₀ out f : List ℕ} {k : ℕ} (s : List ℕ) (i : ℕ) → Laying out₀ out k (spelled table s) (spelled table (drop i s)) → i < length s → table (get_or s i 0) ≡ f → Coming out₀ out k s i f
  coming s i l h e = laying_on l (spelled-next s i h ∙ ap (λ (x : List ℕ). x ++ spelled table (drop (i + 1) s)) e)

  -- a text grows at most n times as long where no list is longer than n
  pub spelled-length : (n : ℕ) → ((b : ℕ) → length (table b) ≤ n) → (s : List ℕ) → length (spelled table s) ≤ n * length s
  spelled-length n short [] = omega arith
  spelled-length n short (b ∷ s) = rw (length-append (table b) (spelled table s), mul-suc n (length s)) (omega (arith, short b, spelled-length n short s))

  -- a byte of the spelled text is one of some byte's list
  pub spelled-all : (P : ℕ → Type 0) → ((b x : ℕ) → Memᴰ x (table b) → P x) → (s : List ℕ) (x : ℕ) → Memᴰ x (spelled table s) → P x
  spelled-all P each [] x m = absurd (Memᴰ.not-nil m)
  spelled-all P each (b ∷ s) x m = ⊎_elim (each b x) (spelled-all P each s x) (Memᴰ.append_cases (table b) m)

  -- a text is known by its spelling where a list can't be taken for another one
  pub spelled-injective : ((b : ℕ) (x : List ℕ) → table b ++ x ≡ [] → ⊥)
      → ((a b : ℕ) (x y : List ℕ) → table a ++ x ≡ table b ++ y → (a ≡ b) × (x ≡ y)) → (s t : List ℕ) → spelled table s ≡ spelled table t → s ≡ t
  spelled-injective some told [] [] e = refl
  spelled-injective some told [] (b ∷ t) e = absurd (some b (spelled table t) (sym e))
  spelled-injective some told (a ∷ s) [] e = absurd (some a (spelled table s) e)
  spelled-injective some told (a ∷ s) (b ∷ t) e =
      let h = told a b (spelled table s) (spelled table t) e in
      let r = spelled-injective some told s t h.1 in
      cc
