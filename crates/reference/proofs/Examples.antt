-- References worked out. Assumes nothing.
use mathlib.Core.Path.{◌≡◌, refl}
use mathlib.Core.List.{[], ◌∷◌}
use mathlib.Core.Bool.{false}
use Rattle.names.specs.of_area.Answer.{gives, refuses}
use Rattle.digits.specs.of_utf8.Characters.{encode}
use Rattle.digits.specs.Digits.{digit, is_number}
use Rattle.names.specs.Bytes.{bytes}
use Rattle.names.specs.Names.{same_bytes, code_from}
use Rattle.reference.specs.Reference.{xml_char, entities, entity_chars, is_entity, entity_char, entity_of, base, digits_in, number, is_char_ref, unnamed, ref_at, good_refs, decodes}
use Rattle.names.specs.of_refusal.declared.Cause.TheVariants as cause

-- a&#x20AC;&lt;
euro : decodes (0x61 ∷ 0x26 ∷ 0x23 ∷ 0x78 ∷ 0x32 ∷ 0x30 ∷ 0x41 ∷ 0x43 ∷ 0x3B ∷ 0x26 ∷ 0x6C ∷ 0x74 ∷ 0x3B ∷ []) ≡ 0x61 ∷ 0xE2 ∷ 0x82 ∷ 0xAC ∷ 0x3C ∷ []
unfolding ref_at is_entity entity_char entities entity_chars same_bytes code_from is_char_ref number base digits_in is_number digit xml_char encode
euro = refl

-- &#0000065;
zeros-first : decodes (0x26 ∷ 0x23 ∷ 0x30 ∷ 0x30 ∷ 0x30 ∷ 0x30 ∷ 0x30 ∷ 0x36 ∷ 0x35 ∷ 0x3B ∷ []) ≡ 0x41 ∷ []
unfolding ref_at is_entity entity_char entities entity_chars same_bytes code_from is_char_ref number base digits_in is_number digit xml_char encode
zeros-first = refl

-- &#X41;
large_x : good_refs (0x26 ∷ 0x23 ∷ 0x58 ∷ 0x34 ∷ 0x31 ∷ 0x3B ∷ []) ≡ false
unfolding ref_at is_entity entities same_bytes code_from is_char_ref base digits_in is_number digit
large_x = refl

-- &#xD800;
surrogate : good_refs (0x26 ∷ 0x23 ∷ 0x78 ∷ 0x44 ∷ 0x38 ∷ 0x30 ∷ 0x30 ∷ 0x3B ∷ []) ≡ false
unfolding ref_at is_entity entities same_bytes code_from is_char_ref number base digits_in is_number digit xml_char
surrogate = refl

-- why a Ref event's name is refused: a number, no number, no name at all
refused-names : (unnamed (bytes "#0") ≡ cause.BadReference) × (unnamed (bytes "x#0") ≡ cause.UnknownEntity) × (unnamed [] ≡ cause.UnknownEntity)
refused-names = (refl, refl, refl)

-- the five, and what is none of them
five-names : (entity_of (bytes "amp") ≡ gives 0x26)
    × (entity_of (bytes "lt") ≡ gives 0x3C)
    × (entity_of (bytes "gt") ≡ gives 0x3E)
    × (entity_of (bytes "apos") ≡ gives 0x27)
    × (entity_of (bytes "quot") ≡ gives 0x22)
    × (entity_of (bytes "quop") ≡ refuses cause.UnknownEntity)
unfolding is_entity entity_char entities entity_chars same_bytes code_from
five-names = (refl, refl, refl, refl, refl, refl)

last-char : (decodes (bytes "&#x10ffff;") ≡ 0xF4 ∷ 0x8F ∷ 0xBF ∷ 0xBF ∷ []) × (decodes (bytes "&#65533;") ≡ 0xEF ∷ 0xBF ∷ 0xBD ∷ [])
unfolding ref_at is_entity entity_char entities entity_chars same_bytes code_from is_char_ref number base digits_in is_number digit xml_char encode
last-char = (refl, refl)

-- beyond the last character, U+FFFE, U+0000, no digit
no_char : (good_refs (bytes "&#x110000;") ≡ false)
    × (good_refs (bytes "&#xfffe;") ≡ false)
    × (good_refs (bytes "&#0;") ≡ false)
    × (good_refs (bytes "&#x;") ≡ false)
    × (good_refs (bytes "&#;") ≡ false)
unfolding ref_at is_entity entity_char entities entity_chars same_bytes code_from is_char_ref number base digits_in is_number digit xml_char encode
no_char = (refl, refl, refl, refl, refl)

-- a lone ampersand, a colon for the semicolon, a good reference before a bad one
no-semicolon : (good_refs (bytes "a&") ≡ false) × (good_refs (bytes "&lt:") ≡ false) × (good_refs (bytes "&lt;&lt") ≡ false)
unfolding ref_at is_entity entity_char entities entity_chars same_bytes code_from is_char_ref number base digits_in is_number digit xml_char encode
no-semicolon = (refl, refl, refl)

-- what stands behind a reference isn't part of it
beside-references : (decodes (bytes "&amp;lt;") ≡ bytes "&lt;") × (decodes (bytes "a;b") ≡ bytes "a;b")
unfolding ref_at is_entity entity_char entities entity_chars same_bytes code_from is_char_ref number base digits_in is_number digit xml_char encode
beside-references = (refl, refl)
