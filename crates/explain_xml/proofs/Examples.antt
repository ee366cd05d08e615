-- Lines worked out. Assumes nothing.
use mathlib.Core.Path.{◌≡◌, refl}
use mathlib.Core.List.{[], ◌∷◌, ◌++◌}
use Rattle.explain_spot.specs.of_area.Answer.{gives, refuses}
use Rattle.list_text.specs.of_refusal.declared.Cause.TheVariants.{OutputFull}
use Rattle.list_text.specs.of_digits.Digits.{digit, places, decimal}
use Rattle.list_text.specs.of_names.Bytes.{bytes}
use Rattle.explain_spot.specs.Spots.{line_behind, column_behind}
use Rattle.explain_xml.specs.XmlExplanation.{spot_text, xml_sentence, xml_line, xml_line_answer}

-- `<a>`, newline, `é<`: refused behind its last byte
ends : xml_line (bytes "<a>\n" ++ (0xC3 ∷ 0xA9 ∷ 0x3C ∷ [])) 18 7 0 0 ≡ bytes "refused 18 at byte 7, line 2, column 3: the document ends too early\n"
unfolding xml_line spot_text xml_sentence line_behind column_behind digit places decimal
ends = refl

broken : xml_line (bytes "<a>\n" ++ (0xC3 ∷ 0xA9 ∷ 0x3C ∷ 0x3C ∷ [])) 18 7 0 0 ≡ bytes "refused 18 at byte 7, line 2, column 3: from this byte on the document is not well-formed XML\n"
unfolding xml_line spot_text xml_sentence line_behind column_behind digit places decimal
broken = refl

doctype : xml_line (bytes "<!DOCTYPE a><a/>") 19 0 0 0 ≡ bytes "refused 19 at byte 0, line 1, column 1: a document type declaration is not taken\n"
unfolding xml_line spot_text xml_sentence line_behind column_behind digit places decimal
doctype = refl

-- 11 and 16 without a place; 16 where the line doesn't fit
without-place : (xml_line [] 16 4294967295 0 0 ≡ bytes "refused 16: the area for events or attributes is too short\n")
    × (xml_line_answer [] 16 4294967295 0 0 58 ≡ refuses OutputFull) × (xml_line_answer [] 16 4294967295 0 0 59 ≡ gives 59)
unfolding xml_line xml_line_answer spot_text xml_sentence digit places decimal
without-place = (refl, refl, refl)

-- ---- areas of one word less than 65,536 events or attributes take, and of that many (rule N15)
too_short : xml_line [] 16 4294967295 327679 327679 ≡ bytes "refused 16: the area for events or attributes is too short\n"
unfolding xml_line spot_text xml_sentence digit places decimal
too_short = refl

many-events : xml_line [] 16 4294967295 327680 327679 ≡ bytes "refused 16: the area for attributes is too short, or the document has more than 65536 events\n"
unfolding xml_line spot_text xml_sentence digit places decimal
many-events = refl

many-attributes : xml_line [] 16 4294967295 327679 327680 ≡ bytes "refused 16: the area for events is too short, or the document has more than 65536 attributes\n"
unfolding xml_line spot_text xml_sentence digit places decimal
many-attributes = refl

too_many : xml_line [] 16 4294967295 327680 327680 ≡ bytes "refused 16: the document has more than 65536 events or attributes\n"
unfolding xml_line spot_text xml_sentence digit places decimal
too_many = refl
