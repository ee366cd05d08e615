-- Character data and what stands beside it. Assumes nothing.
use Prim.Native.Nat.{ℕ}
use mathlib.Core.Path.{◌≡◌, refl}
use mathlib.Core.List.{List, [], ◌∷◌, ◌++◌}
use mathlib.Core.Bool.{true}
use Rattle.xml_grammar.specs.of_names.Bytes.{bytes}
use Rattle.xml_grammar.specs.of_xml_chars.Chars.{crosses, any_char}
use Rattle.xml_grammar.proofs.of_xml_chars.CharLaws.{in-scalar}
use Rattle.xml_grammar.specs.Grammar.{Referred, no_char, a-char, lacks, in_data_of, Beside, reference, Element}
use Rattle.xml_machine.specs.State.{Stay, text, Brackets, b0, b1, b2, inside}
use Rattle.xml_machine.specs.Machine.{more, angle, in_text}
use Rattle.xml_sound.proofs.Then.{take-mark, none_yet, each, both}
use Rattle.xml_sound.proofs.Parts.{standing, Closed, closed, Inner, final, again, aside}
use Rattle.xml_sound.proofs.Rests.{InText, Shut, AtLt, beside-it, a-child, an-end}
use Rattle.xml_sound.proofs.Lacking.{lacks-none, lacks-bracket, lacks-behind, lacks-angle_0, lacks-angle_1}
use Rattle.xml_sound.proofs.Classes.{in_data}
use Rattle.xml_sound.proofs.Spelling.{spelt-more}
use Rattle.xml_sound.proofs.Opening.{inner-content}
use Rattle.xml_sound.proofs.Leading.{Leads, good, bad, byte, char-then, apart}

-- a character more at the front
inner-more : {j k : Brackets} {c : ℕ} → in_data_of c ≡ true → ((d : List ℕ) → lacks (bytes "]]>") (standing j ++ d) ≡ true → lacks (bytes "]]>") (standing k ++ (c ∷ d)) ≡ true) →
    {s : List ℕ} → Inner j s → Inner k (c ∷ s)
inner-more m f (final {d = d} h e) = final (a-char m h) (f d e)
inner-more m f (again {d = d} h e i n) = again (a-char m h) (f d e) i n
inner-more m f (aside {d = d} h e i n) = aside (a-char m h) (f d e) i n

inner-bracket : (k : Brackets) {s : List ℕ} → Inner (more k) s → Inner k (0x5D ∷ s)
unfolding crosses
inner-bracket k r = inner-more refl (lacks-bracket k) r

inner-angle_0 : {s : List ℕ} → Inner b0 s → Inner b0 (0x3E ∷ s)
unfolding crosses
inner-angle_0 r = inner-more refl lacks-angle_0 r

inner-angle_1 : {s : List ℕ} → Inner b0 s → Inner b1 (0x3E ∷ s)
unfolding crosses
inner-angle_1 r = inner-more refl lacks-angle_1 r

angle-back : (k : Brackets) (n : List ℕ) (ns : List (List ℕ)) → Leads (InText k n (Shut ns)) 0x3E (angle k n ns)
angle-back b0 n ns = good (λ t r. take-mark 0x3E refl (each (λ s. inner-angle_0) r))
angle-back b1 n ns = good (λ t r. take-mark 0x3E refl (each (λ s. inner-angle_1) r))
angle-back b2 n ns = bad

-- content that begins with no character data
beside_first : (k : Brackets) {e c : List ℕ} → Beside e → Inner b0 c → Inner k (e ++ c)
beside_first k b i = aside {d = []} no_char (lacks-none k) b (inner-content i)

child-first : (k : Brackets) {e c : List ℕ} → Element e → Inner b0 c → Inner k (e ++ c)
child-first k e i = again {d = []} no_char (lacks-none k) e (inner-content i)

refers : {s : List ℕ} → Closed Referred (0x3B ∷ []) s → Beside (0x26 ∷ s)
refers (closed h) = reference h

lt-text : (k : Brackets) (n : List ℕ) (ns : List (List ℕ)) {t : List ℕ} → AtLt (inside n ns) t → InText k n (Shut ns) (0x3C ∷ t)
lt-text k n ns (beside-it r) = take-mark 0x3C refl (both (λ a b e i. beside_first k e i) r)
lt-text k n ns (a-child r) = take-mark 0x3C refl (both (λ a b e i. child-first k e i) r)
lt-text k n ns (an-end r) = none_yet (final no_char (lacks-none k)) (spelt-more 0x3C r)

pub text-back : (k : Brackets) (n : List ℕ) (ns : List (List ℕ)) (b : ℕ) → Leads (InText k n (Shut ns)) b (in_text k n ns b)
unfolding in_text
text-back k n ns b =
    byte b 0x3C (good (λ t r. lt-text k n ns r))
    (λ h. byte b 0x26 (good (λ t r. take-mark 0x26 refl (both (λ a c e i. beside_first k (refers e) i) r)))
    (λ g. byte b 0x5D (good (λ t r. take-mark 0x5D refl (each (λ s. inner-bracket k) r)))
    (λ i. byte b 0x3E (angle-back k n ns)
    (λ j. char-then (Inner k) (Inner b0) _ any_char in-scalar b Stay (λ p. text b0 p n ns) (λ p t r. r)
    (λ c f m s r. inner-more (in_data m (apart 0x3C refl f h) (apart 0x26 refl f g)) (λ d e. lacks-behind k c d (apart 0x5D refl f i) (apart 0x3E refl f j) e) r) _ (λ f. bad)))))
