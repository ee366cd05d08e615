-- Text in the public listing. Assumes nothing.
use Prim.Native.Nat.{ℕ, ◌*◌, ◌≤◌}
use mathlib.Core.Path.{◌≡◌, refl, sym, ap, ap₂, subst, ◌∙◌}
use mathlib.Core.Bool.{Bool, true, false, cond, not, and-eq-true_iff, true≢false}
use mathlib.Core.List.Memᴰ
use mathlib.Core.List.{List, [], ◌∷◌, ◌++◌, Memᴰ}
use mathlib.Core.Logic.{⊎_elim}
use native.Mathlib.Omega.{arith}
use borrow.Author.Tests.{eqb-true, eqb-false, ne_eqb, not-true}
use lib.Dec.{eqb}
use lib.ListN.{length}
use Rattle.escape.specs.Escape.{marked, letter, listed, escaped}
use Rattle.escape.specs.inside.Plain.{plain}
use Rattle.escape.proofs.Spelling.{spelled-length, spelled-all, spelled-injective}

pub listed-marked : (b : ℕ) → marked b ≡ true → listed b ≡ 92 ∷ letter b ∷ []
unfolding listed
listed-marked b m = rw m

pub listed_plain : (b : ℕ) → marked b ≡ false → listed b ≡ letter b ∷ []
unfolding listed
listed_plain b m = rw m

listed-length : (b : ℕ) → length (listed b) ≤ 2
unfolding listed
listed-length b = go (marked b)
  where
    go : (t : Bool) → length (cond t (92 ∷ letter b ∷ []) (letter b ∷ [])) ≤ 2
    go true = omega arith
    go false = omega arith

pub escaped-length : (s : List ℕ) → length (escaped s) ≤ 2 * length s
escaped-length = spelled-length listed 2 listed-length

-- x, or any other number
at-or_else : (P : ℕ → Type 0) (x b : ℕ) → P x → ((b ≡ x → ⊥) → P b) → P b
at-or_else P x b p other = go (eqb b x) refl
  where
    go : (t : Bool) → eqb b x ≡ t → P b
    go true e = subst P (sym (eqb-true b x e)) p
    go false e = other (eqb-false b x e)

-- one of the five marked bytes, or a byte that stands for itself
by-case : (P : ℕ → Type 0) → P 34 → P 92 → P 10 → P 9 → P 13 → ((b : ℕ) → marked b ≡ false → letter b ≡ b → P b) → (b : ℕ) → P b
unfolding letter
by-case P p34 p92 p10 p9 p13 other b =
    at-or_else P 34 b p34 (λ h34. at-or_else P 92 b p92 (λ h92. at-or_else P 10 b p10 (λ h10. at-or_else P 9 b p9 (λ h9. at-or_else P 13 b p13 (λ h13.
    other b (simp (ne_eqb b 34 h34, ne_eqb b 92 h92, ne_eqb b 10 h10, ne_eqb b 9 h9, ne_eqb b 13 h13)) (simp (ne_eqb b 10 h10, ne_eqb b 9 h9, ne_eqb b 13 h13)))))))

letter-twice : (b : ℕ) → letter (letter b) ≡ letter b
unfolding letter
letter-twice = by-case (λ (b : ℕ). letter (letter b) ≡ letter b) refl refl refl refl refl (λ b h e. ap letter e)

-- an unmarked byte stands for itself
pub plain-letter : (b : ℕ) → marked b ≡ false → letter b ≡ b
plain-letter = by-case (λ (b : ℕ). marked b ≡ false → letter b ≡ b) never never never never never (λ b h e t. e)
  where
    never : {A : Type 0} → true ≡ false → A
    never h = absurd (true≢false h)

-- a plain text is listed as it is
pub plain-escaped : (s : List ℕ) → plain s ≡ true → escaped s ≡ s
plain-escaped [] h = refl
plain-escaped (b ∷ s) h =
    let p = (and-eq-true_iff (not (marked b)) (plain s)).0 h in
    let m : marked b ≡ false = not-true (marked b) p.0 in
    ap₂ ◌++◌ (listed_plain b m ∙ ap (λ (x : ℕ). x ∷ []) (plain-letter b m)) (plain-escaped s p.1)

-- the byte that a letter behind a backslash stands for
meant : ℕ → ℕ
meant m = cond (eqb m 110) 10 (cond (eqb m 116) 9 (cond (eqb m 114) 13 m))

meant-letter : (b : ℕ) → marked b ≡ true → meant (letter b) ≡ b
unfolding letter meant
meant-letter = by-case (λ (b : ℕ). marked b ≡ true → meant (letter b) ≡ b) (λ h. refl) (λ h. refl) (λ h. refl) (λ h. refl) (λ h. refl) (λ b h e t. absurd (true≢false (sym t ∙ h)))

-- no newline, tab or return stands in an escaped text: `letter` changes these, and none of its bytes
pub escaped-letters : (s : List ℕ) (x : ℕ) → Memᴰ x (escaped s) → letter x ≡ x
unfolding listed letter
escaped-letters = spelled-all listed (λ (x : ℕ). letter x ≡ x) (λ b x. each b x (marked b))
  where
    of-letter : (b x : ℕ) → x ≡ letter b → letter x ≡ x
    of-letter b x e = ap letter e ∙ letter-twice b ∙ sym e

    each : (b x : ℕ) (t : Bool) → Memᴰ x (cond t (92 ∷ letter b ∷ []) (letter b ∷ [])) → letter x ≡ x
    each b x true m = ⊎_elim (λ e. ap letter e ∙ sym e) (λ m'. of-letter b x (Memᴰ.eq_of_singleton m')) (Memᴰ.cases_cons m)
    each b x false m = of-letter b x (Memᴰ.eq_of_singleton m)

listed-some : (b : ℕ) (x : List ℕ) → listed b ++ x ≡ [] → ⊥
unfolding listed
listed-some b x = go (marked b)
  where
    go : (t : Bool) → cond t (92 ∷ letter b ∷ []) (letter b ∷ []) ++ x ≡ [] → ⊥
    go true e = let z : ◌≡◌ {A = ℕ} 0 1 = cc in omega arith
    go false e = let z : ◌≡◌ {A = ℕ} 0 1 = cc in omega arith

-- what stands for a byte tells the byte, and what comes behind it
pub listed-told : (a b : ℕ) (x y : List ℕ) → listed a ++ x ≡ listed b ++ y → (a ≡ b) × (x ≡ y)
unfolding listed
listed-told a b x y = go (marked a) (marked b) refl refl
  where
    no-backslash : (c : ℕ) → marked c ≡ false → 92 ≡ letter c → ⊥
    no-backslash c h e = true≢false (ap marked (e ∙ plain-letter c h) ∙ h)

    go : (t u : Bool) → marked a ≡ t → marked b ≡ u → cond t (92 ∷ letter a ∷ []) (letter a ∷ []) ++ x ≡ cond u (92 ∷ letter b ∷ []) (letter b ∷ []) ++ y → (a ≡ b) × (x ≡ y)
    go true true p q e = let h : letter a ≡ letter b = cc in (sym (meant-letter a p) ∙ ap meant h ∙ meant-letter b q, cc)
    go true false p q e = let h : 92 ≡ letter b = cc in absurd (no-backslash b q h)
    go false true p q e = let h : 92 ≡ letter a = cc in absurd (no-backslash a p h)
    go false false p q e = let h : letter a ≡ letter b = cc in (sym (plain-letter a p) ∙ h ∙ plain-letter b q, cc)

-- two texts are never listed alike
pub escaped-injective : (s t : List ℕ) → escaped s ≡ escaped t → s ≡ t
escaped-injective = spelled-injective listed listed-some listed-told
