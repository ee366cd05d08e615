-- References (XML 1.0, fifth edition, sections 2.2, 4.1 and 4.6), what a value with references stands for, and what refuses a Ref
-- event's name (rules X3 to X7). Definitions only.
use Rattle.std.specs.Prelude.{ℕ, zero, suc, ◌-◌, List, [], ◌∷◌, ◌++◌, Bool, true, false, cond, ◌&&◌, ◌||◌, not, length, take, drop, get_or, ltb, leb, eqb, Option, Some, None}
use Rattle.names.specs.of_area.Answer.{Answer, gives, refuses}
use Rattle.names.specs.of_area.Area.{first_at}
use Rattle.digits.specs.of_utf8.Characters.{encode}
use Rattle.digits.specs.Digits.{value, is_number}
use Rattle.names.specs.Bytes.{bytes}
use Rattle.names.specs.Names.{code_in}
use Rattle.names.specs.of_refusal.declared.Cause.{Cause}
use Rattle.names.specs.of_refusal.declared.Cause.TheVariants as cause

-- section 2.2: Char ::= #x9 | #xA | #xD | [#x20-#xD7FF] | [#xE000-#xFFFD] | [#x10000-#x10FFFF], rule X4
unfoldable pub xml_char : ℕ → Bool
xml_char c =
    eqb c 0x9 || eqb c 0xA || eqb c 0xD || (leb 0x20 c && leb c 0xD7FF) || (leb 0xE000 c && leb c 0xFFFD) || (leb 0x10000 c && leb c 0x10FFFF)

-- section 4.6
unfoldable pub entities : List (List ℕ)
entities = bytes "amp" ∷ bytes "lt" ∷ bytes "gt" ∷ bytes "apos" ∷ bytes "quot" ∷ []

-- & < > ' "
unfoldable pub entity_chars : List ℕ
entity_chars = 0x26 ∷ 0x3C ∷ 0x3E ∷ 0x27 ∷ 0x22 ∷ []

unfoldable pub is_entity : List ℕ → Bool
is_entity name = ltb 0 (code_in entities name)

unfoldable pub entity_char : List ℕ → ℕ
entity_char name = get_or entity_chars (code_in entities name - 1) 0

abbrev pub entity_answer : Option ℕ → Answer ℕ
entity_answer (Some c) = gives c
entity_answer None = refuses cause.UnknownEntity

-- one of the five names (rule X3)
abbrev pub entity_of : List ℕ → Answer ℕ
entity_of name = cond (is_entity name) (gives (entity_char name)) (refuses cause.UnknownEntity)

-- section 4.1: CharRef ::= '&#' [0-9]+ ';' | '&#x' [0-9a-fA-F]+ ';', of which name is what stands between & and ;
unfoldable pub base : List ℕ → ℕ
base name = cond (eqb (get_or name 1 0) 0x78) 16 10

unfoldable pub digits_in : List ℕ → List ℕ
digits_in name = cond (eqb (get_or name 1 0) 0x78) (drop 2 name) (drop 1 name)

unfoldable pub number : List ℕ → ℕ
number name = value (base name) (digits_in name)

-- a name that begins with #
abbrev pub is_numeric : List ℕ → Bool
is_numeric name = eqb (get_or name 0 0) 0x23

-- a character reference names a Char (section 4.1, its well-formedness constraint), of which U+10FFFF is the last (rule X4)
unfoldable pub is_char_ref : List ℕ → Bool
is_char_ref name = is_numeric name && (is_number (base name) 0x10FFFF (digits_in name) && xml_char (number name))

-- a name between & and ; stands for a character
abbrev pub is_named : List ℕ → Bool
is_named name = is_entity name || is_char_ref name

-- the character that it stands for
abbrev pub char_of : List ℕ → ℕ
char_of name = cond (is_entity name) (entity_char name) (number name)

abbrev pub named_answer : Option ℕ → Answer ℕ
named_answer (Some c) = gives c
named_answer None = refuses cause.BadReference

-- one of the five names, or the number of a Char (rules X3 and X4), else 10
abbrev pub named : List ℕ → Answer ℕ
named name = cond (is_named name) (gives (char_of name)) (refuses cause.BadReference)

-- why a Ref's name that stands for no character is refused: a bad number is 10 (rule X6), any other name 21 (rule X7)
abbrev pub unnamed : List ℕ → Cause
unnamed name = cond (is_numeric name) cause.BadReference cause.UnknownEntity

-- the place of the first semicolon, or the length
abbrev pub semicolon : List ℕ → ℕ
semicolon s = first_at 0x3B s

-- the reference behind an ampersand: its character, and how many bytes it takes there, with its semicolon (rule X3)
unfoldable pub ref_at : List ℕ → Option (ℕ × ℕ)
ref_at s = cond (ltb (semicolon s) (length s) && is_named (take (semicolon s) s)) (Some (char_of (take (semicolon s) s), suc (semicolon s))) None

abbrev pub is_ref : Option (ℕ × ℕ) → Bool
is_ref (Some (c, w)) = true
is_ref None = false

abbrev pub code_of : Option (ℕ × ℕ) → ℕ
code_of (Some (c, w)) = c
code_of None = 0

abbrev pub bytes_of : Option (ℕ × ℕ) → ℕ
bytes_of (Some (c, w)) = w
bytes_of None = 0

-- every ampersand of s without its first k bytes begins a reference (rule X5)
abbrev pub refs_ok : List ℕ → ℕ → Bool
refs_ok [] k = true
refs_ok (b ∷ s) zero = cond (eqb b 0x26) (is_ref (ref_at s) && refs_ok s (bytes_of (ref_at s))) (refs_ok s 0)
refs_ok (b ∷ s) (suc k) = refs_ok s k

-- what s without its first k bytes stands for, each reference being the UTF-8 of its character
abbrev pub decoded : List ℕ → ℕ → List ℕ
decoded [] k = []
decoded (b ∷ s) zero = cond (eqb b 0x26) (encode (code_of (ref_at s)) ++ decoded s (bytes_of (ref_at s))) (b ∷ decoded s 0)
decoded (b ∷ s) (suc k) = decoded s k

-- s holds no &
abbrev pub no_ampersand : List ℕ → Bool
no_ampersand [] = true
no_ampersand (b ∷ s) = not (eqb b 0x26) && no_ampersand s

abbrev pub good_refs : List ℕ → Bool
good_refs s = refs_ok s 0

abbrev pub decodes : List ℕ → List ℕ
decodes s = decoded s 0
