-- Characters cut off at the end or broken within, by the bytes that they have, and whole ones. Assumes nothing.
use mathlib.Core.Path.{refl}
use mathlib.Core.List.{[], ◌∷◌, ◌++◌}
use Rattle.xml_machine.specs.of_names.Bytes.{bytes}
use Rattle.xml_machine.specs.of_xml_chars.Chars.{crosses, lower}
use Rattle.xml_machine.specs.of_xml_chars.Bytes.{fits}
use Rattle.xml_machine.specs.Machine.{begun, char, follow, in_text, in_section, in_ref, in_target, in_misc, in_heading, in_decl, behind, in_tag, in_lt, step}
use Rattle.xml_machine.specs.Tokens.{rec, keep, records, laid_out, resulting, room_of, tokens}
use Rattle.xml_cases.specs.Cases.{Refused, Read}

-- text that ends within a character of two, three, four bytes
cut-text :
    (Refused (bytes "<a>" ++ (0xC3 ∷ [])) 18 4) × (Refused (bytes "<a>" ++ (0xE2 ∷ [])) 18 4) × (Refused (bytes "<a>" ++ (0xE2 ∷ 0x82 ∷ [])) 18 5) ×
    (Refused (bytes "<a>" ++ (0xF0 ∷ [])) 18 4) × (Refused (bytes "<a>" ++ (0xF0 ∷ 0x9F ∷ [])) 18 5) ×
    (Refused (bytes "<a>" ++ (0xF0 ∷ 0x9F ∷ 0x98 ∷ [])) 18 6)
unfolding begun char follow in_text in_section in_ref in_target in_misc in_heading in_decl behind in_tag in_lt step crosses lower fits keep records laid_out resulting room_of tokens
cut-text = (refl, refl, refl, refl, refl, refl)

-- a tag's name
cut-name :
    (Refused (bytes "<" ++ (0xC3 ∷ [])) 18 2) × (Refused (bytes "<" ++ (0xE6 ∷ [])) 18 2) × (Refused (bytes "<" ++ (0xE6 ∷ 0x97 ∷ [])) 18 3) ×
    (Refused (bytes "<" ++ (0xF0 ∷ [])) 18 2) × (Refused (bytes "<" ++ (0xF0 ∷ 0x90 ∷ [])) 18 3) × (Refused (bytes "<" ++ (0xF0 ∷ 0x90 ∷ 0x80 ∷ [])) 18 4) ×
    (Refused (bytes "<a" ++ (0xC2 ∷ [])) 18 3) × (Refused (bytes "<a" ++ (0xE2 ∷ 0x80 ∷ [])) 18 4)
unfolding begun char follow in_text in_section in_ref in_target in_misc in_heading in_decl behind in_tag in_lt step crosses lower fits keep records laid_out resulting room_of tokens
cut-name = (refl, refl, refl, refl, refl, refl, refl, refl)

-- a key
cut-key :
    (Refused (bytes "<a " ++ (0xC3 ∷ [])) 18 4) × (Refused (bytes "<a " ++ (0xE6 ∷ 0x97 ∷ [])) 18 5) ×
    (Refused (bytes "<a b" ++ (0xF0 ∷ 0x90 ∷ 0x80 ∷ [])) 18 7)
unfolding begun char follow in_text in_section in_ref in_target in_misc in_heading in_decl behind in_tag in_lt step crosses lower fits keep records laid_out resulting room_of tokens
cut-key = (refl, refl, refl)

-- a value
cut-value :
    (Refused (bytes "<a b='" ++ (0xC3 ∷ [])) 18 7) × (Refused (bytes "<a b='" ++ (0xE2 ∷ 0x82 ∷ [])) 18 8) ×
    (Refused (bytes "<a b='" ++ (0xF0 ∷ 0x9F ∷ 0x98 ∷ [])) 18 9)
unfolding begun char follow in_text in_section in_ref in_target in_misc in_heading in_decl behind in_tag in_lt step crosses lower fits keep records laid_out resulting room_of tokens
cut-value = (refl, refl, refl)

-- a comment
cut-comment :
    (Refused (bytes "<!--" ++ (0xC3 ∷ [])) 18 5) × (Refused (bytes "<!--" ++ (0xE2 ∷ 0x82 ∷ [])) 18 6) ×
    (Refused (bytes "<!--" ++ (0xF0 ∷ 0x9F ∷ 0x98 ∷ [])) 18 7)
unfolding begun char follow in_text in_section in_ref in_target in_misc in_heading in_decl behind in_tag in_lt step crosses lower fits keep records laid_out resulting room_of tokens
cut-comment = (refl, refl, refl)

-- a section
cut-section :
    (Refused (bytes "<a><![CDATA[" ++ (0xC3 ∷ [])) 18 13) × (Refused (bytes "<a><![CDATA[" ++ (0xE2 ∷ 0x82 ∷ [])) 18 14) ×
    (Refused (bytes "<a><![CDATA[" ++ (0xF0 ∷ 0x9F ∷ 0x98 ∷ [])) 18 15)
unfolding begun char follow in_text in_section in_ref in_target in_misc in_heading in_decl behind in_tag in_lt step crosses lower fits keep records laid_out resulting room_of tokens
cut-section = (refl, refl, refl)

-- an instruction, its target and its data
cut-instruction :
    (Refused (bytes "<?" ++ (0xC3 ∷ [])) 18 3) × (Refused (bytes "<?p" ++ (0xE6 ∷ 0x97 ∷ [])) 18 5) ×
    (Refused (bytes "<?p " ++ (0xF0 ∷ 0x9F ∷ 0x98 ∷ [])) 18 7)
unfolding begun char follow in_text in_section in_ref in_target in_misc in_heading in_decl behind in_tag in_lt step crosses lower fits keep records laid_out resulting room_of tokens
cut-instruction = (refl, refl, refl)

-- a reference's name
cut-reference :
    (Refused (bytes "<a>&" ++ (0xC3 ∷ [])) 18 5) × (Refused (bytes "<a>&" ++ (0xE6 ∷ 0x97 ∷ [])) 18 6) ×
    (Refused (bytes "<a>&b" ++ (0xF0 ∷ 0x90 ∷ 0x80 ∷ [])) 18 8)
unfolding begun char follow in_text in_section in_ref in_target in_misc in_heading in_decl behind in_tag in_lt step crosses lower fits keep records laid_out resulting room_of tokens
cut-reference = (refl, refl, refl)

-- an end tag's name
cut-end-tag :
    (Refused (bytes "<" ++ ((0xE6 ∷ 0x97 ∷ 0xA5 ∷ []) ++ (bytes "></" ++ (0xE6 ∷ [])))) 18 8) ×
    (Refused (bytes "<" ++ ((0xE6 ∷ 0x97 ∷ 0xA5 ∷ []) ++ (bytes "></" ++ (0xE6 ∷ 0x97 ∷ [])))) 18 9)
unfolding begun char follow in_text in_section in_ref in_target in_misc in_heading in_decl behind in_tag in_lt step crosses lower fits keep records laid_out resulting room_of tokens
cut-end-tag = (refl, refl)

-- what no character has: a further byte first, a first byte where a further one is due, overlong forms, surrogates, U+FFFE, U+FFFF, above U+10FFFF, F8
no-characters :
    (Refused (bytes "<a>" ++ (0xBF ∷ [])) 18 3) × (Refused (bytes "<a>" ++ ((0xC3 ∷ []) ++ (bytes "a"))) 18 4) ×
    (Refused (bytes "<a>" ++ (0xC3 ∷ 0x7F ∷ [])) 18 4) × (Refused (bytes "<a>" ++ (0xC3 ∷ 0xC0 ∷ [])) 18 4) ×
    (Refused (bytes "<a>" ++ (0xC3 ∷ 0xC3 ∷ [])) 18 4) × (Refused (bytes "<a>" ++ (0xE2 ∷ 0x82 ∷ 0xFF ∷ [])) 18 5) ×
    (Refused (bytes "<a>" ++ (0xC0 ∷ [])) 18 3) × (Refused (bytes "<a>" ++ (0xC1 ∷ 0xBF ∷ [])) 18 3) × (Refused (bytes "<a>" ++ (0xE0 ∷ 0x9F ∷ [])) 18 4) ×
    (Refused (bytes "<a>" ++ (0xED ∷ 0xA0 ∷ [])) 18 4) × (Refused (bytes "<a>" ++ (0xEF ∷ 0xBF ∷ 0xBE ∷ [])) 18 5) ×
    (Refused (bytes "<a>" ++ (0xEF ∷ 0xBF ∷ 0xBF ∷ [])) 18 5) × (Refused (bytes "<a>" ++ (0xF0 ∷ 0x8F ∷ [])) 18 4) ×
    (Refused (bytes "<a>" ++ (0xF4 ∷ 0x90 ∷ [])) 18 4) × (Refused (bytes "<a>" ++ (0xF5 ∷ [])) 18 3) × (Refused (bytes "<a>" ++ (0xF8 ∷ [])) 18 3)
unfolding begun char follow in_text in_section in_ref in_target in_misc in_heading in_decl behind in_tag in_lt step crosses lower fits keep records laid_out resulting room_of tokens
no-characters = (refl, refl, refl, refl, refl, refl, refl, refl, refl, refl, refl, refl, refl, refl, refl, refl)

-- the same in a value, a comment, a section, an instruction
no-characters_elsewhere :
    (Refused (bytes "<a b='" ++ (0xEF ∷ 0xBF ∷ 0xBE ∷ [])) 18 8) × (Refused (bytes "<!--" ++ (0xEF ∷ 0xBF ∷ 0xBE ∷ [])) 18 6) ×
    (Refused (bytes "<a><![CDATA[" ++ (0xEF ∷ 0xBF ∷ 0xBE ∷ [])) 18 14) × (Refused (bytes "<?p " ++ (0xEF ∷ 0xBF ∷ 0xBE ∷ [])) 18 6) ×
    (Refused (bytes "<!--" ++ (0xED ∷ 0xA0 ∷ [])) 18 5) × (Refused (bytes "<a b='" ++ (0xC0 ∷ [])) 18 6) ×
    (Refused (bytes "<a/>" ++ (0xC2 ∷ 0xA0 ∷ [])) 18 4)
unfolding begun char follow in_text in_section in_ref in_target in_misc in_heading in_decl behind in_tag in_lt step crosses lower fits keep records laid_out resulting room_of tokens
no-characters_elsewhere = (refl, refl, refl, refl, refl, refl, refl)

-- names: U+00B7 and U+0300 not first, U+00D7, U+00F7, U+2000, U+3000, U+F0000 not at all, refused where no name character begins so
no-name_characters :
    (Refused (bytes "<" ++ (0xC2 ∷ 0xB7 ∷ [])) 18 1) × (Refused (bytes "<" ++ (0xCC ∷ 0x80 ∷ [])) 18 1) × (Refused (bytes "<" ++ (0xC3 ∷ 0x97 ∷ [])) 18 2) ×
    (Refused (bytes "<a" ++ (0xC3 ∷ 0xB7 ∷ [])) 18 3) × (Refused (bytes "<a" ++ (0xC2 ∷ 0xB6 ∷ [])) 18 3) ×
    (Refused (bytes "<a" ++ (0xE2 ∷ 0x80 ∷ 0x80 ∷ [])) 18 4) × (Refused (bytes "<a" ++ (0xE3 ∷ 0x80 ∷ 0x80 ∷ [])) 18 4) ×
    (Refused (bytes "<a" ++ (0xF3 ∷ 0xB0 ∷ [])) 18 3) × (Refused (bytes "<a" ++ (0xEF ∷ 0xBF ∷ 0xBE ∷ [])) 18 4) ×
    (Refused (bytes "<a>&" ++ (0xC2 ∷ 0xB7 ∷ [])) 18 4) × (Refused (bytes "<a " ++ (0xCD ∷ 0xBE ∷ [])) 18 4) × (Refused (bytes "<-") 18 1) ×
    (Refused (bytes "<.") 18 1)
unfolding begun char follow in_text in_section in_ref in_target in_misc in_heading in_decl behind in_tag in_lt step crosses lower fits keep records laid_out resulting room_of tokens
no-name_characters = (refl, refl, refl, refl, refl, refl, refl, refl, refl, refl, refl, refl, refl)

-- characters of two, three and four bytes in names, values, text, comments and references; starts and lengths count bytes
whole-characters :
    (Read (bytes "<" ++ ((0xC3 ∷ 0x80 ∷ 0xC2 ∷ 0xB7 ∷ []) ++ (bytes " " ++ ((0xE6 ∷ 0x97 ∷ 0xA5 ∷ []) ++ (bytes "='" ++ ((0xE2 ∷ 0x82 ∷ 0xAC ∷ []) ++ (bytes "'>" ++ ((0xF0 ∷ 0x9F ∷ 0x98 ∷ 0x80 ∷ []) ++ (bytes "&" ++ ((0xC3 ∷ 0xA9 ∷ []) ++ (bytes ";</" ++ ((0xC3 ∷ 0x80 ∷ 0xC2 ∷ 0xB7 ∷ []) ++ (bytes ">"))))))))))))) (rec 0 1 4 0 1 ∷ rec 3 16 4 0 0 ∷ rec 5 21 2 0 0 ∷ rec 2 26 4 0 0 ∷ rec 7 0 0 0 0 ∷ []) (rec 0 6 3 11 3 ∷ [])) ×
    (Read (bytes "<!--" ++ ((0xEF ∷ 0xBF ∷ 0xBD ∷ []) ++ (bytes "--><" ++ ((0xF0 ∷ 0x90 ∷ 0x80 ∷ 0x80 ∷ []) ++ (bytes "/><?" ++ ((0xE6 ∷ 0x97 ∷ 0xA5 ∷ []) ++ (bytes "?>"))))))) (rec 6 4 3 0 0 ∷ rec 1 11 4 0 0 ∷ rec 6 19 3 0 0 ∷ rec 7 0 0 0 0 ∷ []) [])
unfolding begun char follow in_text in_section in_ref in_target in_misc in_heading in_decl behind in_tag in_lt step crosses lower fits keep records laid_out resulting room_of tokens
whole-characters = (refl, refl)
