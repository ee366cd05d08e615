-- `=`, white space and a quote, in tags and in the declaration. Assumes nothing.
use Prim.Native.Nat.{ℕ}
use mathlib.Core.Path.{◌≡◌, refl}
use mathlib.Core.List.{List, ◌∷◌}
use mathlib.Core.Bool.{true}
use Rattle.xml_grammar.specs.of_xml_chars.Chars.{is_space, Quote, single, double, mark}
use Rattle.xml_grammar.specs.Grammar.{no_char, a-char}
use Rattle.xml_machine.specs.State.{State, Act, no}
use Rattle.xml_machine.specs.Machine.{spaced, only, quoted}
use Rattle.xml_sound.proofs.Then.{Then, take-byte, take-mark, each}
use Rattle.xml_sound.proofs.Parts.{Quoting, quoting-of, Equals, equals-of}
use Rattle.xml_sound.proofs.Rests.{Rest}
use Rattle.xml_sound.proofs.Leading.{Leads, good, bad, byte, space}

pub equals-space : {In : Quote → List ℕ → Type 0} {c : ℕ} {s : List ℕ} → is_space c ≡ true → Equals In s → Equals In (c ∷ s)
equals-space e (equals-of h q) = equals-of (a-char e h) q

pub equals-sign : {In : Quote → List ℕ → Type 0} {s : List ℕ} → Quoting In s → Equals In (0x3D ∷ s)
equals-sign q = equals-of no_char q

quoting-space : {In : Quote → List ℕ → Type 0} {c : ℕ} {s : List ℕ} → is_space c ≡ true → Quoting In s → Quoting In (c ∷ s)
quoting-space e (quoting-of h q i) = quoting-of (a-char e h) q i

quoting-mark : {In : Quote → List ℕ → Type 0} (q : Quote) {s : List ℕ} → In q s → Quoting In (mark q ∷ s)
quoting-mark q i = quoting-of no_char q i

module _ (In : Quote → List ℕ → Type 0) (R : List ℕ → Type 0) (b : ℕ) (act : Act) where
  -- before the `=`
  pub equals-back : (s u : State) → ((t : List ℕ) → Rest s t → Then (Equals In) R t) → ((t : List ℕ) → Rest u t → Then (Quoting In) R t) →
      Leads (Then (Equals In) R) b (spaced b act s (only 0x3D b act u))
  equals-back s u f g =
      space b (λ e i. good (λ t r. take-byte b i (each (λ s. equals-space e) (f t r))))
      (byte b 0x3D (good (λ t r. take-mark 0x3D refl (each (λ s. equals-sign) (g t r)))) (λ j. bad))

  -- before the quote
  pub quoting-back : (stay : Act) (s : State) (u : Quote → State) → ((t : List ℕ) → Rest s t → Then (Quoting In) R t) → ((q : Quote) (t : List ℕ) → Rest (u q) t → Then (In q) R t) →
      Leads (Then (Quoting In) R) b (spaced b stay s (quoted b act u no))
  quoting-back stay s u f g =
      space b (λ e i. good (λ t r. take-byte b i (each (λ s. quoting-space e) (f t r))))
      (byte b 0x22 (good (λ t r. take-mark 0x22 refl (each (λ s. quoting-mark double) (g double t r))))
      (λ i. byte b 0x27 (good (λ t r. take-mark 0x27 refl (each (λ s. quoting-mark single) (g single t r)))) (λ j. bad)))
