-- Each condition is needed: the documents of two keys and of two texts, computed. Assumes nothing.
use mathlib.Core.Path.{refl}
use mathlib.Core.List.{[], ◌∷◌}
use mathlib.Core.Bool.{true, false}
use mathlib.Core.Option.{some}
use Rattle.xml_grammar.specs.of_names.Bytes.{bytes}
use Rattle.xml_grammar.specs.of_names.Names.{same_bytes}
use Rattle.document_events.specs.of_utf8.Utf8.{need, low, high}
use Rattle.document_events.specs.of_digits.Digits.{digit, places, decimal}
use Rattle.document_events.specs.of_tree_report.Encode.{fits_row}
use Rattle.round_elements.specs.of_write_escape.Escape as escape
use Rattle.round_elements.specs.of_write_report.Written.{serialize_output, serialize_properties, serialize_outputs, serialize_test_suite, declaration, serialize_report, numbered, written}
use Rattle.round_elements.specs.of_write_spelled.Spelled.{spelled}
use Rattle.round_elements.specs.of_write_table.Laid as laid
use Rattle.round_elements.specs.Plain.{plain, sound}
use Rattle.xml_grammar.specs.of_xml_chars.Chars.{crosses, lower}
use Rattle.xml_grammar.specs.of_xml_chars.Bytes.{fits}
use Rattle.xml_machine.specs.Machine.{begun, char, follow, in_text, in_section, in_ref, in_target, in_misc, in_heading, in_decl, behind, in_tag, in_lt, step}
use Rattle.xml_machine.specs.Tokens.{done-with, refused, keep, records, laid_out, resulting, room_of, tokens}
use Rattle.document_grammar.specs.XmlFit.{xml_text, xml_name, fit_extra, fit_suite, xml_fit}
use Rattle.document_grammar.specs.Needed.{small, keyed, Asked}

-- a key that is no name is refused at its second word, U+FFFE and U+FFFF at their last bytes; U+FFFD is read
needed :
    (Asked (keyed (bytes "a b") (bytes "v")) false (refused 18 170)) ×
    (Asked (keyed (bytes "k") (0xEF ∷ 0xBF ∷ 0xBE ∷ [])) false (refused 18 173)) ×
    (Asked (small [] (some (0xEF ∷ 0xBF ∷ 0xBF ∷ []))) false (refused 18 191)) ×
    (Asked (keyed (bytes "k") (0xEF ∷ 0xBF ∷ 0xBD ∷ [])) true (done-with 9 10))
unfolding same_bytes need low high digit places decimal fits_row escape.written
    serialize_output serialize_properties serialize_outputs serialize_test_suite declaration serialize_report numbered written spelled
    laid.items_of laid.event_words laid.attribute_words laid.laid_bytes laid.laid_out plain sound crosses lower fits
    begun char follow in_text in_section in_ref in_target in_misc in_heading in_decl behind in_tag in_lt step keep records laid_out resulting room_of tokens
    xml_text xml_name fit_extra fit_suite xml_fit
needed = ((refl, refl, refl, refl), (refl, refl, refl, refl), (refl, refl, refl, refl), (refl, refl, refl, refl))
