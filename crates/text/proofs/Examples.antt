-- Values, computed. Assumes nothing.
use mathlib.Core.Path.{◌≡◌, refl}
use mathlib.Core.List.{[], ◌∷◌}
use Rattle.utf8_chars.specs.of_area.Answer.{gives, refuses}
use Rattle.utf8_chars.specs.of_utf8.Utf8.{need, low, high}
use Rattle.utf8_chars.specs.of_utf8.Characters.{encode}
use Rattle.reference.specs.of_names.Names.{same_bytes, code_from}
use Rattle.reference.specs.Reference.{entities, entity_chars, is_entity, entity_char, is_char_ref, ref_at}
use Rattle.text.specs.Value.{value_text, checked_of, value_of, value_laid}
use Rattle.utf8_chars.specs.of_refusal.declared.Cause.TheVariants as cause

-- U+0001 is dropped, and &lt; decoded
decoded-filtered : value_text (0x01 ∷ 0x26 ∷ 0x6C ∷ 0x74 ∷ 0x3B ∷ []) ≡ 0x3C ∷ []
unfolding ref_at is_entity entity_char entities entity_chars same_bytes code_from encode
decoded-filtered = refl

-- FF and a bad reference: 2 comes before 10
not-utf8 : (value_of 9 (0xFF ∷ 0x26 ∷ 0x78 ∷ 0x3B ∷ []) ≡ refuses cause.NotUtf8) × (checked_of (0x26 ∷ 0x78 ∷ 0x3B ∷ 0xFF ∷ []) ≡ refuses cause.NotUtf8)
unfolding need low high
not-utf8 = (refl, refl)

-- a bad reference, and no byte left: 10 comes before 13
unknown : value_of 0 (0x61 ∷ 0x26 ∷ 0x78 ∷ 0x3B ∷ []) ≡ refuses cause.BadReference
unfolding need low high ref_at is_entity entities same_bytes code_from is_char_ref
unknown = refl

-- 13 (rule M4), `ab` in 1 byte; 2 bytes suffice, and so does 1 where the filter drops the other
short-area : (value_of 1 (0x61 ∷ 0x62 ∷ []) ≡ refuses cause.TextFull) × (value_of 2 (0x61 ∷ 0x62 ∷ []) ≡ gives 2) × (value_of 1 (0x61 ∷ 0x01 ∷ []) ≡ gives 1)
unfolding need low high
short-area = (refl, refl, refl)

-- what is no value leaves the area as it was
untouched : (value_laid (9 ∷ 9 ∷ []) (0x61 ∷ 0xFF ∷ []) ≡ 9 ∷ 9 ∷ []) × (value_laid (9 ∷ 9 ∷ []) (0x61 ∷ []) ≡ 0x61 ∷ 9 ∷ [])
unfolding need low high
untouched = (refl, refl)
