-- Characters among which `]]>` or `?>` stands nowhere. Assumes nothing.
use Prim.Native.Nat.{ℕ}
use mathlib.Core.Path.{◌≡◌, refl, sym}
use mathlib.Core.List.{List, [], ◌∷◌, ◌++◌}
use mathlib.Core.Bool.{true}
use native.Mathlib.Omega.{arith}
use borrow.Author.Tests.{ne_eqb}
use Rattle.xml_grammar.specs.of_names.Bytes.{bytes}
use Rattle.xml_grammar.specs.Grammar.{lacks}
use Rattle.xml_machine.specs.State.{Brackets, b0, b1, b2}
use Rattle.xml_machine.specs.Machine.{more}
use Rattle.xml_sound.proofs.Parts.{standing}

-- what begins with a can't begin at c
pub lacks-other : (a : ℕ) (x : List ℕ) (c : ℕ) (s : List ℕ) → ¬ (c ≡ a) → lacks (a ∷ x) s ≡ true → lacks (a ∷ x) (c ∷ s) ≡ true
lacks-other a x c s h e = rw (ne_eqb a c (λ i. h (sym i))) e

pub lacks-none : (k : Brackets) → lacks (bytes "]]>") (standing k ++ []) ≡ true
lacks-none b0 = refl
lacks-none b1 = refl
lacks-none b2 = refl

pub lacks-bracket : (k : Brackets) (d : List ℕ) → lacks (bytes "]]>") (standing (more k) ++ d) ≡ true → lacks (bytes "]]>") (standing k ++ (0x5D ∷ d)) ≡ true
lacks-bracket b0 d e = e
lacks-bracket b1 d e = e
lacks-bracket b2 d e = e

one-before : (c : ℕ) (d : List ℕ) → ¬ (c ≡ 0x5D) → lacks (bytes "]]>") d ≡ true → lacks (bytes "]]>") (0x5D ∷ c ∷ d) ≡ true
one-before c d h e = rw (ne_eqb 0x5D c (λ i. h (sym i))) e

pub lacks-behind : (k : Brackets) (c : ℕ) (d : List ℕ) → ¬ (c ≡ 0x5D) → ¬ (c ≡ 0x3E) → lacks (bytes "]]>") d ≡ true → lacks (bytes "]]>") (standing k ++ (c ∷ d)) ≡ true
lacks-behind b0 c d h i e = lacks-other 0x5D (0x5D ∷ 0x3E ∷ []) c d h e
lacks-behind b1 c d h i e = one-before c d h e
lacks-behind b2 c d h i e = rw (ne_eqb 0x3E c (λ j. i (sym j))) (one-before c d h e)

no-bracket : ¬ (◌≡◌ {A = ℕ} 0x3E 0x5D)
no-bracket = omega arith

-- `>` behind at most one bracket
pub lacks-angle_0 : (d : List ℕ) → lacks (bytes "]]>") d ≡ true → lacks (bytes "]]>") (0x3E ∷ d) ≡ true
lacks-angle_0 d e = lacks-other 0x5D (0x5D ∷ 0x3E ∷ []) 0x3E d no-bracket e

pub lacks-angle_1 : (d : List ℕ) → lacks (bytes "]]>") d ≡ true → lacks (bytes "]]>") (0x5D ∷ 0x3E ∷ d) ≡ true
lacks-angle_1 d e = one-before 0x3E d no-bracket e

pub lacks-query : (c : ℕ) (s : List ℕ) → ¬ (c ≡ 0x3F) → ¬ (c ≡ 0x3E) → lacks (bytes "?>") s ≡ true → lacks (bytes "?>") (0x3F ∷ c ∷ s) ≡ true
lacks-query c s h i e = rw (ne_eqb 0x3E c (λ j. i (sym j))) (lacks-other 0x3F (0x3E ∷ []) c s h e)
