-- Pieces of gathered text, computed. Assumes nothing.
use mathlib.Core.Path.{◌≡◌, refl}
use mathlib.Core.List.{[], ◌∷◌}
use Rattle.text.specs.of_area.Answer.{gives, refuses}
use Rattle.text.specs.of_utf8.Utf8.{need, low, high}
use Rattle.text.specs.of_utf8.Characters.{encode}
use Rattle.text.specs.of_digits.Digits.{digit, is_number}
use Rattle.text.specs.of_names.Bytes.{bytes}
use Rattle.text.specs.of_names.Names.{same_bytes, code_from}
use Rattle.text.specs.of_reference.Reference.{xml_char, entities, entity_chars, is_entity, entity_char, base, digits_in, number, is_char_ref}
use Rattle.text_pieces.specs.Gather.{text_of, text_laid, cdata_of, cdata_laid, reference_of, reference_laid, indent_of, indent_laid}
use Rattle.text.specs.of_refusal.declared.Cause.TheVariants as cause

-- 14 (rule M6), `ab` in 1 byte
short-scratch : text_of 1 (0x61 ∷ 0x62 ∷ []) ≡ refuses cause.ScratchFull
unfolding need low high
short-scratch = refl

-- Ref events that name U+00E9, in two bytes: decimal, hexadecimal in either case, with leading zeros
numbered : (reference_of 2 (bytes "#233") ≡ gives 2)
    × (reference_laid (9 ∷ 9 ∷ 9 ∷ []) (bytes "#233") ≡ 0xC3 ∷ 0xA9 ∷ 9 ∷ [])
    × (reference_laid (9 ∷ 9 ∷ []) (bytes "#xE9") ≡ 0xC3 ∷ 0xA9 ∷ [])
    × (reference_laid (9 ∷ 9 ∷ []) (bytes "#xe9") ≡ 0xC3 ∷ 0xA9 ∷ [])
    × (reference_laid (9 ∷ []) (bytes "#x0000041") ≡ 0x41 ∷ [])
unfolding need low high is_entity entity_char entities entity_chars same_bytes code_from is_char_ref number base digits_in is_number digit xml_char encode
numbered = (refl, refl, refl, refl, refl)

-- bad numbers, with no byte left: 10 comes before 14
bad-numbers : (reference_of 0 (bytes "#0") ≡ refuses cause.BadReference)
    × (reference_of 0 (bytes "#") ≡ refuses cause.BadReference)
    × (reference_of 0 (bytes "#x") ≡ refuses cause.BadReference)
    × (reference_of 0 (bytes "#X41") ≡ refuses cause.BadReference)
    × (reference_of 0 (bytes "#1114112") ≡ refuses cause.BadReference)
    × (reference_of 0 (bytes "#xD800") ≡ refuses cause.BadReference)
    × (reference_laid (9 ∷ []) (bytes "#0") ≡ 9 ∷ [])
unfolding need low high is_entity entity_char entities entity_chars same_bytes code_from is_char_ref number base digits_in is_number digit xml_char encode
bad-numbers = (refl, refl, refl, refl, refl, refl, refl)

-- other names, the empty one too, keep 8; one of the five takes a byte
other-names : (reference_of 9 (bytes "nbsp") ≡ refuses cause.UnknownEntity)
    × (reference_of 9 [] ≡ refuses cause.UnknownEntity)
    × (reference_of 9 (bytes "x#65") ≡ refuses cause.UnknownEntity)
    × (reference_of 1 (bytes "lt") ≡ gives 1)
    × (reference_of 0 (bytes "lt") ≡ refuses cause.ScratchFull)
unfolding need low high is_entity entity_char entities entity_chars same_bytes code_from is_char_ref number base digits_in is_number digit xml_char encode
other-names = (refl, refl, refl, refl, refl)

-- U+00E9 in one byte of scratch: what is counted is the character
short-number : reference_of 1 (bytes "#233") ≡ refuses cause.ScratchFull
unfolding need low high is_entity entity_char entities entity_chars same_bytes code_from is_char_ref number base digits_in is_number digit xml_char encode
short-number = refl

-- # and FF: 2 comes before 10
two-before_ten : reference_of 9 (0x23 ∷ 0xFF ∷ []) ≡ refuses cause.NotUtf8
unfolding need low high
two-before_ten = refl

-- FF as the name of a Ref event: 2 comes before 21
two-before_eight : reference_of 9 (0xFF ∷ []) ≡ refuses cause.NotUtf8
unfolding need low high
two-before_eight = refl

-- U+0001 and a space are gathered: the filter comes after trimming
unfiltered : text_laid (9 ∷ 9 ∷ 9 ∷ []) (0x01 ∷ 0x20 ∷ 0x61 ∷ []) ≡ 0x01 ∷ 0x20 ∷ 0x61 ∷ []
unfolding need low high
unfiltered = refl

-- `&lt;` in a CData has four bytes, and four suffice
no-references : (cdata_of 4 (0x26 ∷ 0x6C ∷ 0x74 ∷ 0x3B ∷ []) ≡ gives 4) × (cdata_laid (9 ∷ []) (0x26 ∷ []) ≡ 0x26 ∷ []) × (cdata_of 3 (0x26 ∷ 0x6C ∷ 0x74 ∷ 0x3B ∷ []) ≡ refuses cause.ScratchFull)
unfolding need low high
no-references = (refl, refl, refl)

indents : (indent_of 1 ≡ gives 1) × (indent_of 0 ≡ refuses cause.ScratchFull) × (indent_laid (9 ∷ 9 ∷ []) ≡ 0x0A ∷ 9 ∷ [])
indents = (refl, refl, refl)
