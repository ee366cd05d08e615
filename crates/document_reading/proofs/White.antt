-- White space of a document behind a text: it is read as itself, and trimming leaves nothing of it. Assumes nothing.
use Prim.Native.Nat.{ℕ, zero, suc, ◌≤◌, ◌<◌}
use mathlib.Core.Bool.{Bool, true, false, cond, ◌&&◌, ◌||◌, false≢true, and-eq-true_iff}
use mathlib.Core.List.{List, [], ◌∷◌, ◌++◌, append_assoc, append-nil}
use mathlib.Core.Path.{◌≡◌, refl, sym, ap, subst, ◌∙◌}
use native.Mathlib.Omega.{arith}
use borrow.Author.Tests.{eqb-true, lt-leb}
use lib.Dec.{eqb}
use lib.ListN.{length, take}
use lib.Seq.{take-append-le}
use Rattle.read_spelling.specs.of_area.Answer.{gives}
use Rattle.read_spelling.specs.of_utf8.Utf8.{need, low, high, within, runs, ok}
use Rattle.read_spelling.specs.of_utf8.Characters.{following, split, chars, joined}
use Rattle.read_spelling.proofs.of_utf8.Runs.{low-least}
use Rattle.read_spelling.proofs.of_utf8.Splitting.{step-length}
use Rattle.read_spelling.specs.of_trim.Trim.{blank, no_start_of, no_end_of, trimmed}
use Rattle.read_spelling.specs.of_reference.Reference.{no_ampersand}
use Rattle.read_spelling.proofs.of_reference.Decoding.{plain-refs, plain-decoded}
use Rattle.xml_grammar.specs.of_table.Event.{Text}
use Rattle.document_events.specs.of_read_content.Content.{piece_of}
use Rattle.document_events.specs.inside.Respelt.{is_white}

abbrev is_blank : ℕ → Bool
is_blank b = eqb b 10 || eqb b 32

-- what holds of a newline and of a space holds of a white byte
white-byte : (P : ℕ → Type 0) → P 10 → P 32 → (b : ℕ) → is_blank b ≡ true → P b
white-byte P n s b e = go (eqb b 10) (eqb b 32) refl refl e
  where
    go : (x y : Bool) → eqb b 10 ≡ x → eqb b 32 ≡ y → (x || y) ≡ true → P b
    go true y p q h = subst P (sym (eqb-true b 10 p)) n
    go false true p q h = subst P (sym (eqb-true b 32 q)) s
    go false false p q h = absurd (false≢true h)

-- ---- the characters of a text with white space behind it
module _ (b : ℕ) (small : b < 128) (alone : chars (b ∷ []) ≡ (b ∷ []) ∷ []) (white : blank (b ∷ []) ≡ true) where
  runs_on : (a : List ℕ) (n lo hi : ℕ) → 128 ≤ lo → runs (a ++ (b ∷ [])) n lo hi ≡ runs a n lo hi
  runs_on a zero lo hi l = refl
  runs_on [] (suc n) lo hi l = rw (lt-leb lo b (omega arith)) refl
  runs_on (x ∷ a) (suc n) lo hi l = ap (λ (t : Bool). within lo hi x && t) (runs_on a n 0x80 0xBF (omega arith))

  following-on : (x : ℕ) (a : List ℕ) → following x (a ++ (b ∷ [])) ≡ following x a
  following-on x a = ap (λ (t : Bool). cond t (need x) 0) (runs_on a (need x) (low x) (high x) (low-least x))

  split-on : (a : List ℕ) (k : ℕ) → k ≤ length a → split (a ++ (b ∷ [])) k ≡ split a k ++ ((b ∷ []) ∷ [])
  split-on [] zero h = alone
  split-on [] (suc k) h = absurd (omega arith)
  split-on (x ∷ a) zero h =
      let f : following x a ≤ length a = let l = step-length (x ∷ a) in omega arith in
      rw (following-on x a, take-append-le (following x a) a (b ∷ []) f) (ap (λ (cs : List (List ℕ)). (x ∷ take (following x a) a) ∷ cs) (split-on a (following x a) f))
  split-on (x ∷ a) (suc k) h = split-on a k (omega arith)

  end-blank : (cs : List (List ℕ)) → no_end_of (cs ++ ((b ∷ []) ∷ [])) ≡ no_end_of cs
  end-blank [] = rw white refl
  end-blank (c ∷ cs) = rw (end-blank cs) refl

  ends-blank : (cs : List (List ℕ)) → no_end_of (no_start_of (cs ++ ((b ∷ []) ∷ []))) ≡ no_end_of (no_start_of cs)
  ends-blank [] = rw white refl
  ends-blank (c ∷ cs) = go (blank c) (ends-blank cs)
    where
      go : (t : Bool) → no_end_of (no_start_of (cs ++ ((b ∷ []) ∷ []))) ≡ no_end_of (no_start_of cs)
          → no_end_of (cond t (no_start_of (cs ++ ((b ∷ []) ∷ []))) (c ∷ (cs ++ ((b ∷ []) ∷ [])))) ≡ no_end_of (cond t (no_start_of cs) (c ∷ cs))
      go true ih = ih
      go false ih = end-blank (c ∷ cs)

  trimmed-byte : (s : List ℕ) → trimmed (s ++ (b ∷ [])) ≡ trimmed s
  trimmed-byte s = ap (λ (cs : List (List ℕ)). joined (no_end_of (no_start_of cs))) (split-on s 0 (omega arith)) ∙ ap joined (ends-blank (chars s))

abbrev Trims : ℕ → Type 0
Trims b = (s : List ℕ) → trimmed (s ++ (b ∷ [])) ≡ trimmed s

newline-trims : Trims 10
unfolding need low high
newline-trims = trimmed-byte 10 (omega arith) refl refl

space_trims : Trims 32
unfolding need low high
space_trims = trimmed-byte 32 (omega arith) refl refl

pub trimmed-white : (w : List ℕ) → is_white w ≡ true → (s : List ℕ) → trimmed (s ++ w) ≡ trimmed s
trimmed-white [] h s = ap trimmed (append-nil s)
trimmed-white (b ∷ w) h s =
    let q = (and-eq-true_iff (is_blank b) (is_white w)).0 h in
    ap trimmed (sym (append_assoc s (b ∷ []) w)) ∙ trimmed-white w q.1 (s ++ (b ∷ [])) ∙ white-byte Trims newline-trims space_trims b q.0 s

-- ---- as a piece
white-utf8 : (w : List ℕ) (lo hi : ℕ) → is_white w ≡ true → ok w 0 lo hi ≡ true
white-utf8 [] lo hi h = refl
white-utf8 (b ∷ w) lo hi h =
    let q = (and-eq-true_iff (is_blank b) (is_white w)).0 h in
    rw (white-byte (λ (x : ℕ). need x ≡ 0) (unfold need in refl) (unfold need in refl) b q.0) (white-utf8 w (low b) (high b) q.1)

white-plain : (w : List ℕ) → is_white w ≡ true → no_ampersand w ≡ true
white-plain [] h = refl
white-plain (b ∷ w) h =
    let q = (and-eq-true_iff (is_blank b) (is_white w)).0 h in
    rw (white-byte (λ (x : ℕ). eqb x 0x26 ≡ false) refl refl b q.0) (white-plain w q.1)

pub white-piece : (w : List ℕ) → is_white w ≡ true → piece_of Text w ≡ gives w
unfolding piece_of
white-piece w h =
    rw (white-utf8 w 0x80 0xBF h, plain-refs w (white-plain w h)) (ap (λ (l : List ℕ). gives l) (plain-decoded w (white-plain w h)))
