-- References, wherever they stand. Assumes nothing.
use Prim.Native.Nat.{ℕ}
use mathlib.Core.Path.{◌≡◌, refl}
use mathlib.Core.List.{List, [], ◌∷◌}
use mathlib.Core.Bool.{Bool, true}
use Rattle.xml_grammar.specs.of_xml_chars.Chars.{is_in, name_start, name_char, is_digit, is_hex}
use Rattle.xml_grammar.specs.of_xml_chars.Bytes.{whole}
use Rattle.xml_grammar.proofs.of_xml_chars.CharLaws.{start-scalar, name-scalar, digit_low, hex-low}
use Rattle.xml_grammar.specs.Grammar.{Many, no_char, a-char, chars, name_of, entity, decimal, hexadecimal}
use Rattle.xml_machine.specs.State.{Stay, Host, content, attribute, ref, InRef, ampersand, ref_name, hash, digits, hash_x, hexes}
use Rattle.xml_machine.specs.Machine.{only, ref_end, in_ref}
use Rattle.xml_sound.proofs.Then.{Then, take-byte, take-mark, last-mark, each}
use Rattle.xml_sound.proofs.Parts.{Closed, closed, RefRest}
use Rattle.xml_sound.proofs.Rests.{HostRest}
use Rattle.xml_sound.proofs.Leading.{Leads, good, bad, when, byte, char-then}

pub closed-more : {is : ℕ → Bool} {x s : List ℕ} {c : ℕ} → is c ≡ true → Closed (Many is) x s → Closed (Many is) x (c ∷ s)
closed-more m (closed h) = closed (a-char m h)

ref-name : {c : ℕ} {s : List ℕ} → is_in name_start c ≡ true → RefRest ref_name s → RefRest ampersand (c ∷ s)
ref-name m (closed h) = closed (entity (name_of m h))

ref-digit : {c : ℕ} {s : List ℕ} → is_digit c ≡ true → RefRest digits s → RefRest hash (c ∷ s)
ref-digit m (closed h) = closed (decimal (chars m h))

ref-hex : {c : ℕ} {s : List ℕ} → is_hex c ≡ true → RefRest hexes s → RefRest hash_x (c ∷ s)
ref-hex m (closed h) = closed (hexadecimal (chars m h))

ref-ends : (is : ℕ → Bool) (h : Host) → Leads (Then (Closed (Many is) (0x3B ∷ [])) (HostRest h)) 0x3B (ref_end h)
ref-ends is (content n ns) = good (λ t r. last-mark 0x3B refl (closed no_char) r)
ref-ends is (attribute q n ns) = good (λ t r. last-mark 0x3B refl (closed no_char) r)

pub ref_back : (m : InRef) (h : Host) (b : ℕ) → Leads (Then (RefRest m) (HostRest h)) b (in_ref m h b)
unfolding in_ref
ref_back ampersand h b =
    char-then (RefRest ampersand) (RefRest ref_name) (HostRest h) name_start start-scalar b Stay (λ p. ref ref_name p h) (λ p t r. r) (λ c i m s r. ref-name m r)
    (only 0x23 b Stay (ref hash whole h)) (λ i. byte b 0x23 (good (λ t r. take-mark 0x23 refl r)) (λ j. bad))
ref_back ref_name h b =
    char-then (RefRest ref_name) (RefRest ref_name) (HostRest h) name_char name-scalar b Stay (λ p. ref ref_name p h) (λ p t r. r) (λ c i m s r. closed-more m r)
    _ (λ i. byte b 0x3B (ref-ends (is_in name_char) h) (λ j. bad))
ref_back hash h b =
    when (is_digit b) (λ e. good (λ t r. take-byte b (digit_low b e) (each (λ s. ref-digit e) r)))
    (λ e. byte b 0x78 (good (λ t r. take-mark 0x78 refl r)) (λ j. bad))
ref_back digits h b =
    when (is_digit b) (λ e. good (λ t r. take-byte b (digit_low b e) (each (λ s. closed-more e) r))) (λ e. byte b 0x3B (ref-ends is_digit h) (λ j. bad))
ref_back hash_x h b = when (is_hex b) (λ e. good (λ t r. take-byte b (hex-low b e) (each (λ s. ref-hex e) r))) (λ e. bad)
ref_back hexes h b =
    when (is_hex b) (λ e. good (λ t r. take-byte b (hex-low b e) (each (λ s. closed-more e) r))) (λ e. byte b 0x3B (ref-ends is_hex h) (λ j. bad))
