-- For each mode of the tokenizer documents that are refused in it, with the byte. Assumes nothing.
--
-- mode (states)                                          | theorem
-- Bom, First (fresh, marked, literal to marked)          | at-the-beginning
-- Text (prolog, epilog, text)                            | in-text
-- Lt (lt_first, lt)                                       | behind-angle
-- Bang, BangDash (misc bang, misc dash)                  | behind-bang, behind-dash
-- Comment (remark0, remark1, remark2)                    | in-comment
-- CdataOpen, Cdata (literal to section, section)         | in-section
-- PiOpen, PiTarget (heading, misc target, misc named)    | in-target
-- PiData, PiClose (pi_data, pi_query, pi_close)             | in-instruction
-- DeclSpace, DeclAfter (opening, between, valued)        | in-declaration
-- DeclWord, DeclEq, DeclQuote (literal, equals, quoting) | in-declared-word
-- Version (literal, point, digit), Encoding (letters),
--   Standalone (choice, literal, chosen)                 | in-declared-value
-- TagName, InTag, TagSlash (name, gap, slash)            | in-tag
-- Key, KeyEq, Quote, Value, ValueEnd                     | in-attribute
-- EndName, EndSpace (ending, end_space)                   | in-end-tag
-- RefOpen, RefName, RefHash, RefDigits, RefX, RefHex     | in-reference
use mathlib.Core.Path.{refl}
use mathlib.Core.List.{[], ◌∷◌, ◌++◌}
use Rattle.xml_machine.specs.of_names.Bytes.{bytes}
use Rattle.xml_machine.specs.of_xml_chars.Chars.{crosses, lower}
use Rattle.xml_machine.specs.of_xml_chars.Bytes.{fits}
use Rattle.xml_machine.specs.Machine.{begun, char, follow, in_text, in_section, in_ref, in_target, in_misc, in_heading, in_decl, behind, in_tag, in_lt, step}
use Rattle.xml_machine.specs.Tokens.{keep, records, laid_out, resulting, room_of, tokens}
use Rattle.xml_cases.specs.Cases.{Refused}

-- nothing stands; a byte-order mark of which one or two bytes stand; behind it
at-the-beginning :
    (Refused [] 18 0) × (Refused (bytes "x") 18 0) × (Refused (bytes "&") 18 0) × (Refused (0xEF ∷ 0xBB ∷ []) 18 2) ×
    (Refused ((0xEF ∷ 0xBB ∷ []) ++ (bytes "x")) 18 2) × (Refused (0xEF ∷ 0xBB ∷ 0xBF ∷ []) 18 3) × (Refused ((0xEF ∷ 0xBB ∷ 0xBF ∷ []) ++ (bytes "x")) 18 3)
unfolding begun char follow in_text in_section in_ref in_target in_misc in_heading in_decl behind in_tag in_lt step crosses lower fits keep records laid_out resulting room_of tokens
at-the-beginning = (refl, refl, refl, refl, refl, refl, refl)

-- no root at the end; text outside and inside the root; behind `]]`
in-text :
    (Refused (bytes " ") 18 1) × (Refused (bytes "<!---->") 18 7) × (Refused (bytes "<?p?> ") 18 6) ×
    (Refused (bytes " x") 18 1) × (Refused (bytes " &") 18 1) × (Refused (bytes "<a/>x") 18 4) × (Refused (bytes "<a/> &b;") 18 5) ×
    (Refused (bytes "<a>" ++ (0x01 ∷ [])) 18 3) × (Refused (bytes "<a>]" ++ (0x01 ∷ [])) 18 4) × (Refused (bytes "<a>]]>") 18 5) ×
    (Refused (bytes "<a>]]]]>") 18 7)
unfolding begun char follow in_text in_section in_ref in_target in_misc in_heading in_decl behind in_tag in_lt step crosses lower fits keep records laid_out resulting room_of tokens
in-text = (refl, refl, refl, refl, refl, refl, refl, refl, refl, refl, refl)

-- `<` first, before the root, inside and behind it
behind-angle :
    (Refused (bytes "<") 18 1) × (Refused (bytes "</") 18 1) × (Refused (bytes "<1") 18 1) × (Refused (bytes " < ") 18 2) × (Refused (bytes " </") 18 2) ×
    (Refused (bytes "<a><-") 18 4) × (Refused (bytes "<a><>") 18 4) × (Refused (bytes "<a/><b") 18 5) × (Refused (bytes "<a/></a>") 18 5)
unfolding begun char follow in_text in_section in_ref in_target in_misc in_heading in_decl behind in_tag in_lt step crosses lower fits keep records laid_out resulting room_of tokens
behind-angle = (refl, refl, refl, refl, refl, refl, refl, refl, refl)

-- `<!`; a section only inside
behind-bang :
    (Refused (bytes "<!") 18 2) × (Refused (bytes "<!a") 18 2) × (Refused (bytes "<![CDATA[") 18 2) × (Refused (bytes "<a><!>") 18 5) ×
    (Refused (bytes "<a/><![") 18 6)
unfolding begun char follow in_text in_section in_ref in_target in_misc in_heading in_decl behind in_tag in_lt step crosses lower fits keep records laid_out resulting room_of tokens
behind-bang = (refl, refl, refl, refl, refl)

-- `<!-`
behind-dash :
    (Refused (bytes "<!->") 18 3) × (Refused (bytes "<a><!- -") 18 6)
unfolding begun char follow in_text in_section in_ref in_target in_misc in_heading in_decl behind in_tag in_lt step crosses lower fits keep records laid_out resulting room_of tokens
behind-dash = (refl, refl)

-- a comment, behind one and two `-`
in-comment :
    (Refused (bytes "<!--" ++ (0x01 ∷ [])) 18 4) × (Refused (bytes "<!---" ++ (0x01 ∷ [])) 18 5) × (Refused (bytes "<!--->") 18 6) ×
    (Refused (bytes "<!--a--b") 18 7) × (Refused (bytes "<!----->") 18 6) × (Refused (bytes "<a><!-- -- -->") 18 10) × (Refused (bytes "<a/><!--") 18 8)
unfolding begun char follow in_text in_section in_ref in_target in_misc in_heading in_decl behind in_tag in_lt step crosses lower fits keep records laid_out resulting room_of tokens
in-comment = (refl, refl, refl, refl, refl, refl, refl)

-- the letters of `<![CDATA[`, and the section
in-section :
    (Refused (bytes "<a><![cdata[") 18 6) × (Refused (bytes "<a><![CDATA ") 18 11) × (Refused (bytes "<a><![CDATA[" ++ (0x01 ∷ [])) 18 12) ×
    (Refused (bytes "<a><![CDATA[]]" ++ (0x01 ∷ [])) 18 14) × (Refused (bytes "<a><![CDATA[]>") 18 14)
unfolding begun char follow in_text in_section in_ref in_target in_misc in_heading in_decl behind in_tag in_lt step crosses lower fits keep records laid_out resulting room_of tokens
in-section = (refl, refl, refl, refl, refl)

-- an instruction's target, first and elsewhere
in-target :
    (Refused (bytes "<? ") 18 2) × (Refused (bytes "<?1") 18 2) × (Refused (bytes "<a><?-") 18 5) × (Refused (bytes "<?p+") 18 3) ×
    (Refused (bytes "<?p>") 18 3) × (Refused (bytes "<?x>") 18 3) × (Refused (bytes "<?xm>") 18 4) × (Refused (bytes " <?x>") 18 4) ×
    (Refused (bytes " <?xm>") 18 5) × (Refused (bytes "<?xml>") 18 5)
unfolding begun char follow in_text in_section in_ref in_target in_misc in_heading in_decl behind in_tag in_lt step crosses lower fits keep records laid_out resulting room_of tokens
in-target = (refl, refl, refl, refl, refl, refl, refl, refl, refl, refl)

-- its data, behind `?`, and the `?` that must end it
in-instruction :
    (Refused (bytes "<?p " ++ (0x01 ∷ [])) 18 4) × (Refused (bytes "<?p ?" ++ (0x01 ∷ [])) 18 5) × (Refused (bytes "<?p ? >") 18 7) ×
    (Refused (bytes "<?p?a") 18 4) × (Refused (bytes "<?p??>") 18 4) × (Refused (bytes "<?xml version='1.0'??") 18 20)
unfolding begun char follow in_text in_section in_ref in_target in_misc in_heading in_decl behind in_tag in_lt step crosses lower fits keep records laid_out resulting room_of tokens
in-instruction = (refl, refl, refl, refl, refl, refl)

-- the declaration: white space, where `version` is due, then either word, then the last, then none
in-declaration :
    (Refused (bytes "<?xml e") 18 6) × (Refused (bytes "<?xml ?") 18 6) × (Refused (bytes "<?xml version='1.0' v") 18 20) ×
    (Refused (bytes "<?xml version='1.0' encoding='utf-8' e") 18 37) × (Refused (bytes "<?xml version='1.0' standalone='no' s") 18 36) ×
    (Refused (bytes "<?xml version='1.0' standalone='no' encoding='utf-8'") 18 36) × (Refused (bytes "<?xml version='1.0'encoding") 18 19) ×
    (Refused (bytes "<?xml version='1.0'>") 18 19)
unfolding begun char follow in_text in_section in_ref in_target in_misc in_heading in_decl behind in_tag in_lt step crosses lower fits keep records laid_out resulting room_of tokens
in-declaration = (refl, refl, refl, refl, refl, refl, refl, refl)

-- its words, `=` and quotes
in-declared-word :
    (Refused (bytes "<?xml versian") 18 11) × (Refused (bytes "<?xml versions") 18 13) × (Refused (bytes "<?xml version='1.0' encodong") 18 25) ×
    (Refused (bytes "<?xml version='1.0' stand ") 18 25) × (Refused (bytes "<?xml version '") 18 14) × (Refused (bytes "<?xml version=1") 18 14) ×
    (Refused (bytes "<?xml version= >") 18 15)
unfolding begun char follow in_text in_section in_ref in_target in_misc in_heading in_decl behind in_tag in_lt step crosses lower fits keep records laid_out resulting room_of tokens
in-declared-word = (refl, refl, refl, refl, refl, refl, refl)

-- its values: `1.` and digits, `utf-8`, `yes` or `no`, each to its own quote
in-declared-value :
    (Refused (bytes "<?xml version='2") 18 15) × (Refused (bytes "<?xml version='1'") 18 16) × (Refused (bytes "<?xml version='1.'") 18 17) ×
    (Refused (bytes "<?xml version='1.0\"") 18 18) × (Refused (bytes "<?xml version='1.0a") 18 18) ×
    (Refused (bytes "<?xml version='1.0' encoding=''") 18 30) × (Refused (bytes "<?xml version='1.0' encoding='utf8'") 18 33) ×
    (Refused (bytes "<?xml version='1.0' encoding='UTF-8x") 18 35) × (Refused (bytes "<?xml version='1.0' encoding='utf-8\"") 18 35) ×
    (Refused (bytes "<?xml version='1.0' standalone='YES'") 18 32) × (Refused (bytes "<?xml version='1.0' standalone='yea") 18 34) ×
    (Refused (bytes "<?xml version='1.0' standalone='none") 18 34)
unfolding begun char follow in_text in_section in_ref in_target in_misc in_heading in_decl behind in_tag in_lt step crosses lower fits keep records laid_out resulting room_of tokens
in-declared-value = (refl, refl, refl, refl, refl, refl, refl, refl, refl, refl, refl, refl)

-- a start tag: its name, behind white space, behind `/`
in-tag :
    (Refused (bytes "<a+") 18 2) × (Refused (bytes "<a<") 18 2) × (Refused (bytes "<a='") 18 2) × (Refused (bytes "<a 1") 18 3) ×
    (Refused (bytes "<a ='") 18 3) × (Refused (bytes "<a <") 18 3) × (Refused (bytes "<a/a") 18 3) × (Refused (bytes "<a/ >") 18 3)
unfolding begun char follow in_text in_section in_ref in_target in_misc in_heading in_decl behind in_tag in_lt step crosses lower fits keep records laid_out resulting room_of tokens
in-tag = (refl, refl, refl, refl, refl, refl, refl, refl)

-- an attribute: its key, `=`, a quote, its value, behind it
in-attribute :
    (Refused (bytes "<a b>") 18 4) × (Refused (bytes "<a b/>") 18 4) × (Refused (bytes "<a b'") 18 4) × (Refused (bytes "<a b c") 18 5) ×
    (Refused (bytes "<a b >") 18 5) × (Refused (bytes "<a b=c") 18 5) × (Refused (bytes "<a b= >") 18 6) × (Refused (bytes "<a b='<") 18 6) ×
    (Refused (bytes "<a b='" ++ (0x01 ∷ [])) 18 6) × (Refused (bytes "<a b='\"") 18 7) × (Refused (bytes "<a b=''c") 18 7) ×
    (Refused (bytes "<a b='c'd='") 18 8)
unfolding begun char follow in_text in_section in_ref in_target in_misc in_heading in_decl behind in_tag in_lt step crosses lower fits keep records laid_out resulting room_of tokens
in-attribute = (refl, refl, refl, refl, refl, refl, refl, refl, refl, refl, refl, refl)

-- an end tag: its name, behind it, behind white space
in-end-tag :
    (Refused (bytes "<a></b") 18 5) × (Refused (bytes "<a></ a") 18 5) × (Refused (bytes "<a></A>") 18 5) × (Refused (bytes "<a><b></a>") 18 8) ×
    (Refused (bytes "<a></a/>") 18 6) × (Refused (bytes "<a></a b") 18 7) × (Refused (bytes "<a></a />") 18 7)
unfolding begun char follow in_text in_section in_ref in_target in_misc in_heading in_decl behind in_tag in_lt step crosses lower fits keep records laid_out resulting room_of tokens
in-end-tag = (refl, refl, refl, refl, refl, refl, refl)

-- references in content and in a value
in-reference :
    (Refused (bytes "<a>&;") 18 4) × (Refused (bytes "<a>& ") 18 4) × (Refused (bytes "<a b='&'") 18 7) × (Refused (bytes "<a>&b ") 18 5) ×
    (Refused (bytes "<a b='&b'") 18 8) × (Refused (bytes "<a>&#X1;") 18 5) × (Refused (bytes "<a>&#;") 18 5) × (Refused (bytes "<a b='&#-1;'") 18 8) ×
    (Refused (bytes "<a>&#1a;") 18 6) × (Refused (bytes "<a>&#x;") 18 6) × (Refused (bytes "<a>&#xg;") 18 6) × (Refused (bytes "<a>&#x1g;") 18 7) ×
    (Refused (bytes "<a b='&#x1'") 18 10)
unfolding begun char follow in_text in_section in_ref in_target in_misc in_heading in_decl behind in_tag in_lt step crosses lower fits keep records laid_out resulting room_of tokens
in-reference = (refl, refl, refl, refl, refl, refl, refl, refl, refl, refl, refl, refl, refl)
