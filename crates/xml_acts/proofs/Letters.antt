-- A letter of fixed bytes, way by way. Assumes nothing.
use Prim.Native.Nat.{ℕ, ◌+◌, ◌≤◌, ◌<◌}
use mathlib.Core.Path.{◌≡◌, refl, sym, ap, ◌∙◌}
use lib.ListN.{get_or}
use borrow.Author.Tests.{lt-ltb, le-ltb, eq-eqb, ne_eqb}
use Rattle.xml_part.specs.of_xml_chars.Chars.{lower}
use Rattle.xml_part.specs.of_xml_state.declared.State.{State}
use Rattle.xml_part.specs.of_xml_state.declared.Step.TheVariants.{Go, Bad}
use Rattle.xml_part.specs.of_xml_state.inside.Registers.{in_mode, at_mark_of}
use Rattle.xml_part.specs.of_xml_state.inside.Acts.{words, letter_of, next_letter, spelled_of}

pub letter-exact : {w b t : ℕ} → w < 44 → t ≡ b → t ≡ letter_of w b
letter-exact {w} h e = rw (lt-ltb w 44 h) e

pub letter-lower : {w t : ℕ} (b : ℕ) → 44 ≤ w → t ≡ lower b → t ≡ letter_of w b
letter-lower {w} b h e = rw (le-ltb w 44 h) e

module _ (s : State) (b at : ℕ) {w t x : ℕ} (ew : w ≡ s.word) (et : t ≡ letter_of w b) (ex : x ≡ get_or words w 0) where
  letter : t ≡ letter_of s.word b
  letter = et ∙ ap (λ (k : ℕ). letter_of k b) ew

  wants : x ≡ get_or words s.word 0
  wants = ex ∙ ap (λ (k : ℕ). get_or words k 0) ew

  pub other-letter : (t ≡ x → ⊥) → Bad ≡ spelled_of s b at
  unfolding spelled_of
  other-letter n = rw (ne_eqb (letter_of s.word b) (get_or words s.word 0) (λ q. n (letter ∙ q ∙ sym wants))) refl

  module _ {y : ℕ} (same : t ≡ x) (ey : y ≡ get_or words (w + 1) 0) where
    right : letter_of s.word b ≡ get_or words s.word 0
    right = sym letter ∙ same ∙ wants

    behind : y ≡ get_or words (s.word + 1) 0
    behind = ey ∙ ap (λ (k : ℕ). get_or words (k + 1) 0) ew

    pub word-ends : {r : State} → y ≡ 10 → r ≡ in_mode s.then s → Go r ≡ spelled_of s b at
    unfolding spelled_of
    word-ends q e = rw (eq-eqb (letter_of s.word b) (get_or words s.word 0) right, sym behind ∙ q) (ap Go e)

    pub mark-ends : {r : State} → y ≡ 9 → r ≡ at_mark_of (at + 1) (in_mode s.then s) → Go r ≡ spelled_of s b at
    unfolding spelled_of
    mark-ends q e = rw (eq-eqb (letter_of s.word b) (get_or words s.word 0) right, sym behind ∙ q) (ap Go e)

    pub word-goes : {r : State} → (y ≡ 10 → ⊥) → (y ≡ 9 → ⊥) → r ≡ next_letter s → Go r ≡ spelled_of s b at
    unfolding spelled_of
    word-goes n m e =
        rw (
          eq-eqb (letter_of s.word b) (get_or words s.word 0) right,
          ne_eqb (get_or words (s.word + 1) 0) 10 (λ q. n (behind ∙ q)),
          ne_eqb (get_or words (s.word + 1) 0) 9 (λ q. m (behind ∙ q)),
        )
        (ap Go e)
