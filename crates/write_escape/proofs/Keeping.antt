-- What escaping keeps, UTF-8, and what it leaves out, markup; and how long a text becomes. Assumes nothing.
use Prim.Native.Nat.{ℕ, zero, suc, ◌*◌, ◌≤◌, ◌<◌}
use mathlib.Core.Path.{◌≡◌, refl, sym, ap, subst, ◌∙◌}
use mathlib.Core.Bool.{Bool, true, false, ◌&&◌}
use mathlib.Core.List.{List, [], ◌∷◌, ◌++◌}
use native.Mathlib.Omega.{arith}
use borrow.Author.Tests.{eqb-true, eqb-false, ne_eqb, lt-leb}
use lib.Dec.{eqb, lit≤, lit<}
use lib.ListN.{length}
use Rattle.names.specs.Bytes.{bytes}
use Rattle.escape.proofs.Spelling.{spelled-length}
use Rattle.utf8.specs.Utf8.{need, low, high, within, ok, utf8}
use Rattle.utf8.proofs.Runs.{low-least, ok-zero}
use Rattle.utf8.specs.inside.Ascii.{ascii}
use Rattle.utf8.proofs.Rules.{ascii-on, ascii_append}
use Rattle.write_escape.specs.Escape.{written, escaped, is_markup, no_markup}
use Rattle.write_escape.proofs.Escaping.{written-plain}

at-or_else : (P : ℕ → Type 0) (x b : ℕ) → P x → ((b ≡ x → ⊥) → P b) → P b
at-or_else P x b p other = go (eqb b x) refl
  where
    go : (t : Bool) → eqb b x ≡ t → P b
    go true e = subst P (sym (eqb-true b x e)) p
    go false e = other (eqb-false b x e)

-- one of the five bytes with its reference, or a byte that stands for itself
pub by-case : (P : ℕ → List ℕ → Type 0) → P 0x26 (bytes "&amp;") → P 0x3C (bytes "&lt;") → P 0x3E (bytes "&gt;") → P 0x27 (bytes "&apos;") → P 0x22 (bytes "&quot;")
    → ((b : ℕ) → (b ≡ 0x26 → ⊥) → is_markup b ≡ false → P b (b ∷ [])) → (b : ℕ) → P b (written b)
unfolding written
by-case P amp lt gt apos quot other b =
    at-or_else (λ (x : ℕ). P x (written x)) 0x26 b amp (λ h1. at-or_else (λ (x : ℕ). P x (written x)) 0x3C b lt (λ h2.
    at-or_else (λ (x : ℕ). P x (written x)) 0x3E b gt (λ h3. at-or_else (λ (x : ℕ). P x (written x)) 0x27 b apos (λ h4.
    at-or_else (λ (x : ℕ). P x (written x)) 0x22 b quot (λ h5.
    subst (P b) (sym (written-plain b h1 h2 h3 h4 h5)) (other b h1 (simp (ne_eqb b 0x3C h2, ne_eqb b 0x3E h3, ne_eqb b 0x27 h4, ne_eqb b 0x22 h5))))))))

-- none of < > ' " is left
one-clear : (s : List ℕ) → no_markup s ≡ true → (b : ℕ) → no_markup (written b ++ s) ≡ true
one-clear s h = by-case (λ (x : ℕ) (f : List ℕ). no_markup (f ++ s) ≡ true) h h h h h (λ x n e. rw e h)

pub escaped-clear : (s : List ℕ) → no_markup (escaped s) ≡ true
escaped-clear [] = refl
escaped-clear (b ∷ s) = one-clear (escaped s) (escaped-clear s) b

-- n bytes, the first from lo to hi, and then characters: a byte below 80 ends that as a text of such bytes does
ascii-kept : (x b : ℕ) (t s s' : List ℕ) (n lo hi : ℕ) → 0x80 ≤ lo → x < 0x80 → ascii (x ∷ t) ≡ true → b < 0x80 → utf8 s' ≡ utf8 s → ok ((x ∷ t) ++ s') n lo hi ≡ ok (b ∷ s) n lo hi
ascii-kept x b t s s' zero lo hi l k a h e = ok-zero ((x ∷ t) ++ s') lo hi ∙ ascii_append (x ∷ t) s' a ∙ e ∙ sym (ascii-on b s h) ∙ sym (ok-zero (b ∷ s) lo hi)
ascii-kept x b t s s' (suc n) lo hi l k a h e = rw (lt-leb lo x (omega arith), lt-leb lo b (omega arith)) refl

module _ (s : List ℕ) (rest : (n lo hi : ℕ) → 0x80 ≤ lo → ok (escaped s) n lo hi ≡ ok s n lo hi) where
  reference-kept : (x : ℕ) (t : List ℕ) (n lo hi : ℕ) → 0x80 ≤ lo → ascii (0x26 ∷ t) ≡ true → x < 0x80 → ok ((0x26 ∷ t) ++ escaped s) n lo hi ≡ ok (x ∷ s) n lo hi
  reference-kept x t n lo hi l a h = ascii-kept 0x26 x t s (escaped s) n lo hi l (lit< tt) a h (rest 0 0x80 0xBF (lit≤ tt))

  self-kept : (x n lo hi : ℕ) → ok (x ∷ escaped s) n lo hi ≡ ok (x ∷ s) n lo hi
  self-kept x zero lo hi = rest (need x) (low x) (high x) (low-least x)
  self-kept x (suc n) lo hi = ap (λ (t : Bool). within lo hi x && t) (rest n 0x80 0xBF (lit≤ tt))

  one_kept : (n lo hi : ℕ) → 0x80 ≤ lo → (b : ℕ) → ok (written b ++ escaped s) n lo hi ≡ ok (b ∷ s) n lo hi
  one_kept n lo hi l =
      by-case (λ (x : ℕ) (f : List ℕ). ok (f ++ escaped s) n lo hi ≡ ok (x ∷ s) n lo hi)
      (reference-kept 0x26 (bytes "amp;") n lo hi l refl (lit< tt)) (reference-kept 0x3C (bytes "lt;") n lo hi l refl (lit< tt))
      (reference-kept 0x3E (bytes "gt;") n lo hi l refl (lit< tt)) (reference-kept 0x27 (bytes "apos;") n lo hi l refl (lit< tt))
      (reference-kept 0x22 (bytes "quot;") n lo hi l refl (lit< tt)) (λ x h e. self-kept x n lo hi)

kept : (s : List ℕ) (n lo hi : ℕ) → 0x80 ≤ lo → ok (escaped s) n lo hi ≡ ok s n lo hi
kept [] n lo hi l = refl
kept (b ∷ s) n lo hi l = one_kept s (kept s) n lo hi l b

-- what is written is UTF-8 exactly where the text is
pub utf8-escaped : (s : List ℕ) → utf8 (escaped s) ≡ utf8 s
utf8-escaped s = kept s 0 0x80 0xBF (lit≤ tt)

-- a text grows at most six times as long
written-length : (b : ℕ) → length (written b) ≤ 6
written-length = by-case (λ (b : ℕ) (f : List ℕ). length f ≤ 6) (lit≤ tt) (lit≤ tt) (lit≤ tt) (lit≤ tt) (lit≤ tt) (λ b n e. lit≤ tt)

pub escaped-length : (s : List ℕ) → length (escaped s) ≤ 6 * length s
escaped-length = spelled-length written 6 written-length
