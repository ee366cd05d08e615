-- Sections of character data. Assumes nothing.
use Prim.Native.Nat.{ℕ}
use mathlib.Core.Path.{◌≡◌, refl}
use mathlib.Core.List.{List, ◌∷◌}
use mathlib.Core.Bool.{true}
use Rattle.xml_grammar.specs.of_xml_chars.Chars.{crosses, is_in, any_char}
use Rattle.xml_grammar.proofs.of_xml_chars.CharLaws.{in-scalar}
use Rattle.xml_grammar.specs.Grammar.{no_char, a-char, Beside}
use Rattle.xml_grammar.specs.Grammar as grammar
use Rattle.xml_machine.specs.State.{Stay, section, Brackets, b0, b1, b2}
use Rattle.xml_machine.specs.Machine.{more, section_end, in_section}
use Rattle.xml_sound.proofs.Then.{Then, take-mark, last-mark, each}
use Rattle.xml_sound.proofs.Parts.{SectionRest, goes_on, one-there, one-used, two-there}
use Rattle.xml_sound.proofs.Rests.{Shut}
use Rattle.xml_sound.proofs.Lacking.{lacks-bracket, lacks-behind, lacks-angle_0, lacks-angle_1}
use Rattle.xml_sound.proofs.Leading.{Leads, good, bad, byte, char-then, apart}

section-bracket : (k : Brackets) {s : List ℕ} → SectionRest (more k) s → SectionRest k (0x5D ∷ s)
unfolding crosses
section-bracket b0 (goes_on {s = s} h l) = goes_on (a-char refl h) (lacks-bracket b0 s l)
section-bracket b0 one-there = goes_on no_char refl
section-bracket b1 (goes_on {s = s} h l) = goes_on (a-char refl h) (lacks-bracket b1 s l)
section-bracket b1 one-used = goes_on no_char refl
section-bracket b1 two-there = one-there
section-bracket b2 (goes_on {s = s} h l) = goes_on (a-char refl h) (lacks-bracket b2 s l)
section-bracket b2 one-used = goes_on no_char refl
section-bracket b2 two-there = one-used

section-other : (k : Brackets) {c : ℕ} {s : List ℕ} → is_in any_char c ≡ true → ¬ (c ≡ 0x5D) → ¬ (c ≡ 0x3E) → SectionRest b0 s → SectionRest k (c ∷ s)
section-other k {c} m i j (goes_on {s = s} h l) = goes_on (a-char m h) (lacks-behind k c s i j l)

angle-0 : {s : List ℕ} → SectionRest b0 s → SectionRest b0 (0x3E ∷ s)
unfolding crosses
angle-0 (goes_on {s = s} h l) = goes_on (a-char refl h) (lacks-angle_0 s l)

angle-1 : {s : List ℕ} → SectionRest b0 s → SectionRest b1 (0x3E ∷ s)
unfolding crosses
angle-1 (goes_on {s = s} h l) = goes_on (a-char refl h) (lacks-angle_1 s l)

section-angle : (k : Brackets) (n : List ℕ) (ns : List (List ℕ)) → Leads (Then (SectionRest k) (Shut (n ∷ ns))) 0x3E (section_end k n ns)
section-angle b0 n ns = good (λ t r. take-mark 0x3E refl (each (λ s. angle-0) r))
section-angle b1 n ns = good (λ t r. take-mark 0x3E refl (each (λ s. angle-1) r))
section-angle b2 n ns = good (λ t r. last-mark 0x3E refl two-there r)

pub section-back : (k : Brackets) (n : List ℕ) (ns : List (List ℕ)) (b : ℕ) → Leads (Then (SectionRest k) (Shut (n ∷ ns))) b (in_section k n ns b)
unfolding in_section
section-back k n ns b =
    byte b 0x5D (good (λ t r. take-mark 0x5D refl (each (λ s. section-bracket k) r)))
    (λ i. byte b 0x3E (section-angle k n ns)
    (λ j. char-then (SectionRest k) (SectionRest b0) (Shut (n ∷ ns)) any_char in-scalar b Stay (λ p. section b0 p n ns) (λ p t r. r)
    (λ c h m s r. section-other k m (apart 0x5D refl h i) (apart 0x3E refl h j) r) _ (λ h. bad)))

-- `<![CDATA[` and what follows
pub section-beside : {s : List ℕ} → SectionRest b0 s → Beside (0x3C ∷ 0x21 ∷ 0x5B ∷ 0x43 ∷ 0x44 ∷ 0x41 ∷ 0x54 ∷ 0x41 ∷ 0x5B ∷ s)
section-beside (goes_on h l) = grammar.section h l
