-- Text and sections: character data in which `]]>` stands nowhere. Assumes nothing.
use Prim.Native.Nat.{ℕ, ◌≤◌}
use mathlib.Core.Path.{◌≡◌, refl}
use mathlib.Core.List.{List, [], ◌∷◌, ◌++◌}
use mathlib.Core.Bool.{Bool, true, false, not, ◌||◌, false≢true, and-eq-true_iff}
use native.Mathlib.Omega.{arith}
use borrow.Author.Tests.{ne_eqb, eqb-true, eqb-false}
use lib.Dec.{eqb}
use Rattle.xml_grammar.specs.of_names.Bytes.{bytes}
use Rattle.xml_grammar.specs.of_utf8.Characters.{encode}
use Rattle.xml_grammar.specs.of_xml_chars.Chars.{is_in, any_char, begins}
use Rattle.xml_grammar.specs.of_xml_chars.Bytes.{Part, whole}
use Rattle.xml_grammar.proofs.of_xml_chars.CharLaws.{in-scalar}
use Rattle.xml_grammar.specs.Grammar.{Many, no_char, a-char, lacks, in_data_of}
use Rattle.xml_machine.specs.State as state
use Rattle.xml_machine.specs.State.{State, text, section, Stay, Brackets, b0, b1, b2}
use Rattle.xml_machine.specs.Machine.{char, more, in_text, in_section, step}
use Rattle.xml_machine.proofs.Stays.{Stays, takes-stays}
use Rattle.xml_machine.proofs.Characters.{Carries, char-takes}
use Rattle.xml_machine.proofs.Carries.{text-carries, section-carries}
use Rattle.xml_complete.proofs.Booleans.{or-false, not-true}
use Rattle.xml_complete.proofs.Reading.{Reads, reads_none, reads-char, ascii-stays}

pub lacks-next : (x : List ℕ) (c : ℕ) (s : List ℕ) → lacks x (c ∷ s) ≡ true → lacks x s ≡ true
lacks-next x c s e = ((and-eq-true_iff (not (begins x (c ∷ s))) (lacks x s)).0 e).1

abbrev shutting : List ℕ
shutting = bytes "]]>"

-- the brackets that stand, as characters
abbrev standing : Brackets → List ℕ
standing b0 = []
standing b1 = 0x5D ∷ []
standing b2 = 0x5D ∷ 0x5D ∷ []

lacks-behind : (k : Brackets) (s : List ℕ) → lacks shutting (standing k ++ s) ≡ true → lacks shutting s ≡ true
lacks-behind b0 s e = e
lacks-behind b1 s e = lacks-next shutting 0x5D s e
lacks-behind b2 s e = lacks-next shutting 0x5D s (lacks-next shutting 0x5D (0x5D ∷ s) e)

lacks-more : (k : Brackets) (s : List ℕ) → lacks shutting (standing k ++ (0x5D ∷ s)) ≡ true → lacks shutting (standing (more k) ++ s) ≡ true
lacks-more b0 s e = e
lacks-more b1 s e = e
lacks-more b2 s e = lacks-next shutting 0x5D (0x5D ∷ 0x5D ∷ s) e

-- states that count brackets
module _ (g : Brackets → Part → State) (is : ℕ → Bool) (carries : Carries (λ bs p. g b0 p)) (any : (c : ℕ) → is c ≡ true → is_in any_char c ≡ true)
    (bracket : (k : Brackets) → step (g k whole) 0x5D ≡ state.go Stay (g (more k) whole))
    (angle-0 : step (g b0 whole) 0x3E ≡ state.go Stay (g b0 whole))
    (angle-1 : step (g b1 whole) 0x3E ≡ state.go Stay (g b0 whole))
    (low : (k : Brackets) (b : ℕ) → is b ≡ true → ¬ (b ≡ 0x5D) → ¬ (b ≡ 0x3E) → step (g k whole) b ≡ char any_char b Stay (λ p. g b0 p) state.no)
    (high : (k : Brackets) (b : ℕ) → 0xC0 ≤ b → step (g k whole) b ≡ char any_char b Stay (λ p. g b0 p) state.no) where
  angle-stays : (k : Brackets) (s : List ℕ) → lacks shutting (standing k ++ (0x3E ∷ s)) ≡ true → Stays (g k whole) (encode 0x3E) (g b0 whole)
  angle-stays b0 s e = ascii-stays (omega arith) angle-0
  angle-stays b1 s e = ascii-stays (omega arith) angle-1
  angle-stays b2 s e = absurd (false≢true e)

  one_char : (c : ℕ) (s : List ℕ) (k : Brackets) → is c ≡ true → lacks shutting (standing k ++ (c ∷ s)) ≡ true →
      (j : Brackets) × (lacks shutting (standing j ++ s) ≡ true) × Stays (g k whole) (encode c) (g j whole)
  one_char c s k m f = by_byte (eqb c 0x5D) refl (eqb c 0x3E) refl
    where
      by_byte : (x : Bool) → eqb c 0x5D ≡ x → (y : Bool) → eqb c 0x3E ≡ y → (j : Brackets) × (lacks shutting (standing j ++ s) ≡ true) × Stays (g k whole) (encode c) (g j whole)
      by_byte true e y i =
          let q = eqb-true c 0x5D e in
          (more k, lacks-more k s (rw q at f), rw q (ascii-stays (omega arith) (bracket k)))
      by_byte false e true i =
          let q = eqb-true c 0x3E i in
          (b0, lacks-next shutting 0x3E s (lacks-behind k (0x3E ∷ s) (rw q at f)), rw q (angle-stays k s (rw q at f)))
      by_byte false e false i = (
        b0,
        lacks-next shutting c s (lacks-behind k (c ∷ s) f),
        takes-stays
            (char-takes (g k whole) (λ bs p. g b0 p) carries any_char Stay (λ b. state.no) c (λ h. low k c m (eqb-false c 0x5D e) (eqb-false c 0x3E i)) (λ b h. high k b h) (any c m) (in-scalar c (any c m))),
      )

  -- some number of brackets stands behind the characters
  pub brackets-read : {d : List ℕ} → Many is d → (k : Brackets) → lacks shutting (standing k ++ d) ≡ true → (j : Brackets) × Reads (g k whole) d (g j whole)
  brackets-read no_char k f = (k, reads_none)
  brackets-read (a-char {c = c} {s = s} m h) k f =
      let p = one_char c s k m f in
      let q = brackets-read h p.0 p.1 in
      (q.0, reads-char p.2 q.1)

-- ---- text
text-bracket : (n : List ℕ) (ns : List (List ℕ)) (k : Brackets) → step (text k whole n ns) 0x5D ≡ state.go Stay (text (more k) whole n ns)
unfolding step in_text
text-bracket n ns k = refl

text-angle_0 : (n : List ℕ) (ns : List (List ℕ)) → step (text b0 whole n ns) 0x3E ≡ state.go Stay (text b0 whole n ns)
unfolding step in_text
text-angle_0 n ns = refl

text-angle_1 : (n : List ℕ) (ns : List (List ℕ)) → step (text b1 whole n ns) 0x3E ≡ state.go Stay (text b0 whole n ns)
unfolding step in_text
text-angle_1 n ns = refl

text-takes : (n : List ℕ) (ns : List (List ℕ)) (k : Brackets) (b : ℕ) → (eqb b 0x3C || eqb b 0x26) ≡ false → ¬ (b ≡ 0x5D) → ¬ (b ≡ 0x3E) →
    step (text k whole n ns) b ≡ char any_char b Stay (λ p. text b0 p n ns) state.no
unfolding step in_text
text-takes n ns k b e h i = let p = or-false (eqb b 0x3C) (eqb b 0x26) e in simp (p.0, p.1, ne_eqb b 0x5D h, ne_eqb b 0x3E i)

text-low : (n : List ℕ) (ns : List (List ℕ)) (k : Brackets) (b : ℕ) → in_data_of b ≡ true → ¬ (b ≡ 0x5D) → ¬ (b ≡ 0x3E) →
    step (text k whole n ns) b ≡ char any_char b Stay (λ p. text b0 p n ns) state.no
text-low n ns k b m h i = text-takes n ns k b (not-true _ ((and-eq-true_iff (is_in any_char b) (not (eqb b 0x3C || eqb b 0x26))).0 m).1) h i

text-high : (n : List ℕ) (ns : List (List ℕ)) (k : Brackets) (b : ℕ) → 0xC0 ≤ b → step (text k whole n ns) b ≡ char any_char b Stay (λ p. text b0 p n ns) state.no
text-high n ns k b h = text-takes n ns k b (simp (ne_eqb b 0x3C (omega arith), ne_eqb b 0x26 (omega arith))) (omega arith) (omega arith)

pub data-char : (c : ℕ) → in_data_of c ≡ true → is_in any_char c ≡ true
data-char c m = ((and-eq-true_iff (is_in any_char c) (not (eqb c 0x3C || eqb c 0x26))).0 m).0

pub text-reads : {d : List ℕ} → Many in_data_of d → lacks (bytes "]]>") d ≡ true → (n : List ℕ) (ns : List (List ℕ)) → (j : Brackets) × Reads (text b0 whole n ns) d (text j whole n ns)
text-reads h f n ns =
    brackets-read (λ k p. text k p n ns) in_data_of (text-carries b0 n ns) data-char (text-bracket n ns) (text-angle_0 n ns) (text-angle_1 n ns) (text-low n ns) (text-high n ns) h b0 f

-- ---- sections
pub section-bracket : (n : List ℕ) (ns : List (List ℕ)) (k : Brackets) → step (section k whole n ns) 0x5D ≡ state.go Stay (section (more k) whole n ns)
unfolding step in_section
section-bracket n ns k = refl

section-angle_0 : (n : List ℕ) (ns : List (List ℕ)) → step (section b0 whole n ns) 0x3E ≡ state.go Stay (section b0 whole n ns)
unfolding step in_section
section-angle_0 n ns = refl

section-angle_1 : (n : List ℕ) (ns : List (List ℕ)) → step (section b1 whole n ns) 0x3E ≡ state.go Stay (section b0 whole n ns)
unfolding step in_section
section-angle_1 n ns = refl

section-takes : (n : List ℕ) (ns : List (List ℕ)) (k : Brackets) (b : ℕ) → ¬ (b ≡ 0x5D) → ¬ (b ≡ 0x3E) →
    step (section k whole n ns) b ≡ char any_char b Stay (λ p. section b0 p n ns) state.no
unfolding step in_section
section-takes n ns k b h i = simp (ne_eqb b 0x5D h, ne_eqb b 0x3E i)

pub section-reads : {d : List ℕ} → Many (is_in any_char) d → lacks (bytes "]]>") d ≡ true → (n : List ℕ) (ns : List (List ℕ)) → (j : Brackets) × Reads (section b0 whole n ns) d (section j whole n ns)
section-reads h f n ns =
    brackets-read (λ k p. section k p n ns) (is_in any_char) (section-carries b0 n ns) (λ c m. m) (section-bracket n ns) (section-angle_0 n ns) (section-angle_1 n ns)
    (λ k b m h i. section-takes n ns k b h i) (λ k b i. section-takes n ns k b (omega arith) (omega arith)) h b0 f

-- `]]`, behind which a section's `>` is its end
pub section-brackets : (k : Brackets) (n : List ℕ) (ns : List (List ℕ)) → step (section (more k) whole n ns) 0x5D ≡ state.go Stay (section b2 whole n ns)
unfolding step in_section
section-brackets b0 n ns = refl
section-brackets b1 n ns = refl
section-brackets b2 n ns = refl
