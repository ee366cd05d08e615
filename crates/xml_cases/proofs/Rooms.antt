-- 16 for each kind of record, and what comes before it. Assumes nothing.
use mathlib.Core.Path.{refl}
use mathlib.Core.List.{[], ◌∷◌, ◌++◌}
use Rattle.xml_machine.specs.of_names.Bytes.{bytes}
use Rattle.xml_machine.specs.of_xml_chars.Chars.{crosses, lower}
use Rattle.xml_machine.specs.of_xml_chars.Bytes.{fits}
use Rattle.xml_machine.specs.Machine.{begun, char, follow, in_text, in_section, in_ref, in_target, in_misc, in_heading, in_decl, behind, in_tag, in_lt, step}
use Rattle.xml_machine.specs.Tokens.{rec, keep, records, laid_out, resulting, room_of, tokens}
use Rattle.xml_cases.specs.Cases.{RefusedIn, Full, Read}

-- each kind of record in an area that is one word short of it
full-tags :
    (Full (bytes "<a>") 4 0) × (Full (bytes "<a b=''>") 4 5) × (Full (bytes "<a/>") 4 0) × (Full (bytes "<a b=''/>") 4 5) × (Full (bytes "<a></a>") 9 0) ×
    (Full (bytes "<a></a >") 9 0)
unfolding begun char follow in_text in_section in_ref in_target in_misc in_heading in_decl behind in_tag in_lt step crosses lower fits keep records laid_out resulting room_of tokens
full-tags = (refl, refl, refl, refl, refl, refl)

full-text :
    (Full (bytes "<a>b<") 9 0) × (Full (bytes "<a>b&") 9 0) × (Full (bytes " <") 4 0) × (Full (bytes "<a/> ") 9 0) × (Full (bytes "<a/> <") 9 0) ×
    (Full (bytes "<a>&b;c<") 14 0)
unfolding begun char follow in_text in_section in_ref in_target in_misc in_heading in_decl behind in_tag in_lt step crosses lower fits keep records laid_out resulting room_of tokens
full-text = (refl, refl, refl, refl, refl, refl)

full-pieces :
    (Full (bytes "<a><![CDATA[]]>") 9 0) × (Full (bytes "<a>&b;") 9 0) × (Full (bytes "<!---->") 4 0) × (Full (bytes "<a><!--b-->") 9 0) ×
    (Full (bytes "<?p?>") 4 0) × (Full (bytes "<a/><?p q?>") 9 0) × (Full (bytes "<?xml version='1.0'?>") 4 0)
unfolding begun char follow in_text in_section in_ref in_target in_misc in_heading in_decl behind in_tag in_lt step crosses lower fits keep records laid_out resulting room_of tokens
full-pieces = (refl, refl, refl, refl, refl, refl, refl)

full-eof :
    (Full (bytes "<a/>") 5 0) × (Full (bytes "<a/>") 9 0) × (Full (bytes "<a></a>") 14 0) × (Full (bytes "<a/> ") 10 0)
unfolding begun char follow in_text in_section in_ref in_target in_misc in_heading in_decl behind in_tag in_lt step crosses lower fits keep records laid_out resulting room_of tokens
full-eof = (refl, refl, refl, refl)

-- an attribute comes due before its tag
full-attributes :
    (Full (bytes "<a b=''") 0 0) × (Full (bytes "<a b='' c='d'") 40 9) × (Full (bytes "<a b='c'>") 0 4)
unfolding begun char follow in_text in_section in_ref in_target in_misc in_heading in_decl behind in_tag in_lt step crosses lower fits keep records laid_out resulting room_of tokens
full-attributes = (refl, refl, refl)

-- one byte before its last the record isn't due yet, so that other refusals come first
not-due :
    (RefusedIn (bytes "<a+") 0 0 18 2) × (RefusedIn (bytes "<a") 0 0 18 2) × (RefusedIn (bytes "<a b='+") 0 0 18 7) × (RefusedIn (bytes "<a/+") 4 0 18 3) ×
    (RefusedIn (bytes "<a></a+") 5 0 18 6) × (RefusedIn (bytes "<!----+") 0 0 18 6) × (RefusedIn (bytes "<?p?+") 0 0 18 4) ×
    (RefusedIn (bytes "<a>&b+") 5 0 18 5) × (RefusedIn (bytes "<a><![CDATA[]]" ++ (0x01 ∷ [])) 5 0 18 14) × (RefusedIn (bytes "x") 0 0 18 0) ×
    (RefusedIn (bytes "<!DOCTYPE") 0 0 19 0) × (RefusedIn (bytes "<a><!DOCTYPE") 5 0 19 3)
unfolding begun char follow in_text in_section in_ref in_target in_misc in_heading in_decl behind in_tag in_lt step crosses lower fits keep records laid_out resulting room_of tokens
not-due = (refl, refl, refl, refl, refl, refl, refl, refl, refl, refl, refl, refl)

-- a run of text that the refused byte, or the end, breaks off is due before it; also within a character, and white space outside the root
broken-off :
    (Full (bytes " x") 4 0) × (Full (bytes " ") 4 0) × (Full (bytes "<a/> x") 5 0) × (Full (bytes "<a>b" ++ (0x01 ∷ [])) 5 0) × (Full (bytes "<a>b") 9 0) ×
    (Full (bytes "<a>]]>") 5 0) × (Full (bytes "<a>" ++ (0xC3 ∷ [])) 5 0) × (Full (bytes "<a>" ++ (0xE2 ∷ 0x82 ∷ 0x01 ∷ [])) 5 0) ×
    (Full (bytes "<a>b<!DOCTYPE") 9 0) × (RefusedIn (bytes "<a>" ++ (0xC3 ∷ [])) 10 0 18 4) × (RefusedIn (bytes " x") 5 0 18 1) ×
    (RefusedIn (bytes "<a>b<!DOCTYPE") 10 0 19 4)
unfolding begun char follow in_text in_section in_ref in_target in_misc in_heading in_decl behind in_tag in_lt step crosses lower fits keep records laid_out resulting room_of tokens
broken-off = (refl, refl, refl, refl, refl, refl, refl, refl, refl, refl, refl, refl)

-- the byte-order mark is no text
mark-no-text :
    (RefusedIn ((0xEF ∷ 0xBB ∷ 0xBF ∷ []) ++ (bytes "x")) 0 0 18 3) × (RefusedIn (0xEF ∷ 0xBB ∷ []) 0 0 18 2) ×
    (Full ((0xEF ∷ 0xBB ∷ 0xBF ∷ []) ++ (bytes " x")) 0 0)
unfolding begun char follow in_text in_section in_ref in_target in_misc in_heading in_decl behind in_tag in_lt step crosses lower fits keep records laid_out resulting room_of tokens
mark-no-text = (refl, refl, refl)

-- areas that just suffice, and longer ones; references in a value give no event
just_enough :
    (Read (bytes "<a b='&c;'/>") (rec 1 1 1 0 1 ∷ rec 7 0 0 0 0 ∷ []) (rec 0 3 1 6 3 ∷ [])) ×
    (Read (bytes " <a>b</a>\n") (rec 3 0 1 0 0 ∷ rec 0 2 1 0 0 ∷ rec 3 4 1 0 0 ∷ rec 2 7 1 0 0 ∷ rec 3 9 1 0 0 ∷ rec 7 0 0 0 0 ∷ []) []) ×
    (Read (bytes "<a b='' c='d'><e f='&#1;'/></a >") (rec 0 1 1 0 2 ∷ rec 1 15 1 2 1 ∷ rec 2 29 1 0 0 ∷ rec 7 0 0 0 0 ∷ []) (rec 0 3 1 0 0 ∷ rec 0 8 1 11 1 ∷ rec 0 17 1 20 4 ∷ []))
unfolding begun char follow in_text in_section in_ref in_target in_misc in_heading in_decl behind in_tag in_lt step crosses lower fits keep records laid_out resulting room_of tokens
just_enough = (refl, refl, refl)
