-- Declarations, `]]>`, `--`, end tags and DOCTYPE, each in its places, with the byte or the records. Assumes nothing.
use mathlib.Core.Path.{refl}
use mathlib.Core.List.{[], ◌∷◌, ◌++◌}
use Rattle.xml_machine.specs.of_names.Bytes.{bytes}
use Rattle.xml_machine.specs.of_xml_chars.Chars.{crosses, lower}
use Rattle.xml_machine.specs.of_xml_chars.Bytes.{fits}
use Rattle.xml_machine.specs.Machine.{begun, char, follow, in_text, in_section, in_ref, in_target, in_misc, in_heading, in_decl, behind, in_tag, in_lt, step}
use Rattle.xml_machine.specs.Tokens.{rec, keep, records, laid_out, resulting, room_of, tokens}
use Rattle.xml_cases.specs.Cases.{Refused, Read}

-- `<?xml` first, and behind the byte-order mark: the declaration
declaration-first :
    (Read (bytes "<?xml version='1.0'?><a/>") (rec 6 2 17 0 0 ∷ rec 1 22 1 0 0 ∷ rec 7 0 0 0 0 ∷ []) []) ×
    (Read ((0xEF ∷ 0xBB ∷ 0xBF ∷ []) ++ (bytes "<?xml version='1.0'?><a/>")) (rec 6 5 17 0 0 ∷ rec 1 25 1 0 0 ∷ rec 7 0 0 0 0 ∷ []) []) ×
    (Read (bytes "<?xml\tversion = \"1.10\"\n?><a/>") (rec 6 2 21 0 0 ∷ rec 1 26 1 0 0 ∷ rec 7 0 0 0 0 ∷ []) [])
unfolding begun char follow in_text in_section in_ref in_target in_misc in_heading in_decl behind in_tag in_lt step crosses lower fits keep records laid_out resulting room_of tokens
declaration-first = (refl, refl, refl)

-- elsewhere, in capitals, or without white space behind it, it is refused where its name ends: behind white space, a comment, a declaration, in content, behind the root
declaration-elsewhere :
    (Refused (bytes " <?xml version='1.0'?>") 18 6) × (Refused (bytes "<!----><?xml ") 18 12) ×
    (Refused (bytes "<?xml version='1.0'?><?xml version='1.0'") 18 26) × (Refused (bytes "<a><?xml ?>") 18 8) × (Refused (bytes "<a><?xml?>") 18 8) ×
    (Refused (bytes "<a/><?xml ") 18 9) × (Refused (bytes "<?xml?>") 18 5) × (Refused (bytes "<?XML ") 18 5) × (Refused (bytes "<?xMl?>") 18 5) ×
    (Refused (bytes "<a><?XmL ") 18 8) × (Refused (bytes "<?Xml version='1.0'?>") 18 5)
unfolding begun char follow in_text in_section in_ref in_target in_misc in_heading in_decl behind in_tag in_lt step crosses lower fits keep records laid_out resulting room_of tokens
declaration-elsewhere = (refl, refl, refl, refl, refl, refl, refl, refl, refl, refl, refl)

-- the beginning of a longer target, anywhere, or of a shorter one
longer-targets :
    (Read (bytes "<?xmlx?><a/>") (rec 6 2 4 0 0 ∷ rec 1 9 1 0 0 ∷ rec 7 0 0 0 0 ∷ []) []) ×
    (Read (bytes "<?xml-stylesheet ?><a/>") (rec 6 2 15 0 0 ∷ rec 1 20 1 0 0 ∷ rec 7 0 0 0 0 ∷ []) []) ×
    (Read (bytes "<a><?XMLx y?></a><?xml: ?>") (rec 0 1 1 0 0 ∷ rec 6 5 6 0 0 ∷ rec 2 15 1 0 0 ∷ rec 6 19 5 0 0 ∷ rec 7 0 0 0 0 ∷ []) []) ×
    (Read (bytes "<?x?><?xm ?><?xxml?><a/>") (rec 6 2 1 0 0 ∷ rec 6 7 3 0 0 ∷ rec 6 14 4 0 0 ∷ rec 1 21 1 0 0 ∷ rec 7 0 0 0 0 ∷ []) [])
unfolding begun char follow in_text in_section in_ref in_target in_misc in_heading in_decl behind in_tag in_lt step crosses lower fits keep records laid_out resulting room_of tokens
longer-targets = (refl, refl, refl, refl)

-- `]]>` in text is refused at `>`, also behind more brackets; split by a reference, a comment or a character it isn't there; in a value, a comment, an instruction it is fine
brackets_in-text :
    (Refused (bytes "<a>]]>") 18 5) × (Refused (bytes "<a>b]]]>") 18 7) × (Refused (bytes "<a>&b;]]>") 18 8) × (Refused (bytes "<a><![CDATA[]]>]]>") 18 17) ×
    (Read (bytes "<a>]]&amp;></a>") (rec 0 1 1 0 0 ∷ rec 3 3 2 0 0 ∷ rec 5 6 3 0 0 ∷ rec 3 10 1 0 0 ∷ rec 2 13 1 0 0 ∷ rec 7 0 0 0 0 ∷ []) []) ×
    (Read (bytes "<a>]]<!---->>]]b>]></a>") (rec 0 1 1 0 0 ∷ rec 3 3 2 0 0 ∷ rec 6 0 0 0 0 ∷ rec 3 12 7 0 0 ∷ rec 2 21 1 0 0 ∷ rec 7 0 0 0 0 ∷ []) []) ×
    (Read (bytes "<!--]]>--><a b=']]>'/><?p ]]>?>") (rec 6 4 3 0 0 ∷ rec 1 11 1 0 1 ∷ rec 6 24 5 0 0 ∷ rec 7 0 0 0 0 ∷ []) (rec 0 13 1 16 3 ∷ []))
unfolding begun char follow in_text in_section in_ref in_target in_misc in_heading in_decl behind in_tag in_lt step crosses lower fits keep records laid_out resulting room_of tokens
brackets_in-text = (refl, refl, refl, refl, refl, refl, refl)

-- a section ends at the first `]]>`
brackets_in-section :
    (Read (bytes "<a><![CDATA[]]]>]</a>") (rec 0 1 1 0 0 ∷ rec 4 12 1 0 0 ∷ rec 3 16 1 0 0 ∷ rec 2 19 1 0 0 ∷ rec 7 0 0 0 0 ∷ []) []) ×
    (Read (bytes "<a><![CDATA[]>]] >]]></a>") (rec 0 1 1 0 0 ∷ rec 4 12 6 0 0 ∷ rec 2 23 1 0 0 ∷ rec 7 0 0 0 0 ∷ []) [])
unfolding begun char follow in_text in_section in_ref in_target in_misc in_heading in_decl behind in_tag in_lt step crosses lower fits keep records laid_out resulting room_of tokens
brackets_in-section = (refl, refl)

-- `--` in a comment is refused at the byte behind it; a single `-` is fine
dashes_in-comment :
    (Refused (bytes "<!----->") 18 6) × (Refused (bytes "<!-- -- -->") 18 7) × (Refused (bytes "<a><!--a--") 18 10) ×
    (Refused (bytes "<a/><!--a---->") 18 11) ×
    (Read (bytes "<!-- - - --><a><!---b--></a>") (rec 6 4 5 0 0 ∷ rec 0 13 1 0 0 ∷ rec 6 19 2 0 0 ∷ rec 2 26 1 0 0 ∷ rec 7 0 0 0 0 ∷ []) [])
unfolding begun char follow in_text in_section in_ref in_target in_misc in_heading in_decl behind in_tag in_lt step crosses lower fits keep records laid_out resulting room_of tokens
dashes_in-comment = (refl, refl, refl, refl, refl)

-- an end tag that shares a prefix with the open name: shorter, longer, with another open name of that length
shared_prefix :
    (Refused (bytes "<ab></a>") 18 7) × (Refused (bytes "<a></ab>") 18 6) × (Refused (bytes "<ab></a >") 18 7) × (Refused (bytes "<a><ab></a>") 18 10) ×
    (Refused (bytes "<ab><a></ab>") 18 10) × (Refused (bytes "<ab></ac>") 18 7) × (Refused (bytes "<a" ++ ((0xC3 ∷ 0xA9 ∷ []) ++ (bytes "></a>"))) 18 8) ×
    (Refused (bytes "<a" ++ ((0xC3 ∷ 0xA9 ∷ []) ++ (bytes "></a" ++ ((0xC3 ∷ []) ++ (bytes ">"))))) 18 9) ×
    (Refused (bytes "<a" ++ ((0xC3 ∷ 0xA9 ∷ []) ++ (bytes "></a" ++ ((0xC3 ∷ 0xA8 ∷ []) ++ (bytes ">"))))) 18 9) ×
    (Read (bytes "<ab><a></a></ab\n>") (rec 0 1 2 0 0 ∷ rec 0 5 1 0 0 ∷ rec 2 9 1 0 0 ∷ rec 2 13 2 0 0 ∷ rec 7 0 0 0 0 ∷ []) [])
unfolding begun char follow in_text in_section in_ref in_target in_misc in_heading in_decl behind in_tag in_lt step crosses lower fits keep records laid_out resulting room_of tokens
shared_prefix = (refl, refl, refl, refl, refl, refl, refl, refl, refl, refl)

-- DOCTYPE wherever markup may begin: first, behind the byte-order mark, the declaration, in content, behind the root; nothing is asked behind it
doctypes :
    (Refused (bytes "<!DOCTYPE") 19 0) × (Refused ((0xEF ∷ 0xBB ∷ 0xBF ∷ []) ++ (bytes "<!DOCTYPE a>")) 19 3) ×
    (Refused (bytes "<?xml version='1.0'?><!DOCTYPE a>") 19 21) × (Refused (bytes "<!----><!DOCTYPE") 19 7) × (Refused (bytes "<a><!DOCTYPE>") 19 3) ×
    (Refused (bytes "<a><b>c<!DOCTYPES") 19 7) × (Refused (bytes "<a/><!DOCTYPE" ++ (0x01 ∷ [])) 19 4)
unfolding begun char follow in_text in_section in_ref in_target in_misc in_heading in_decl behind in_tag in_lt step crosses lower fits keep records laid_out resulting room_of tokens
doctypes = (refl, refl, refl, refl, refl, refl, refl)

-- less of it, or other letters, is refused at the byte behind `<!`; where no markup may begin, at `<`
no-doctypes :
    (Refused (bytes "<!D") 18 2) × (Refused (bytes "<!DOC") 18 2) × (Refused (bytes "<!DOCTYP") 18 2) × (Refused (bytes "<!DOCTYPX") 18 2) ×
    (Refused (bytes "<!doctype a>") 18 2) × (Refused (bytes "<a><!DOC") 18 5) × (Refused (bytes "<a/><!DOCTYP ") 18 6) ×
    (Refused (bytes "<a <!DOCTYPE") 18 3) × (Refused (bytes "<a b='<!DOCTYPE") 18 6) × (Refused (bytes "x<!DOCTYPE") 18 0) ×
    (Refused (bytes "<!ELEMENT") 18 2) × (Refused (bytes "<!-<!DOCTYPE") 18 3)
unfolding begun char follow in_text in_section in_ref in_target in_misc in_heading in_decl behind in_tag in_lt step crosses lower fits keep records laid_out resulting room_of tokens
no-doctypes = (refl, refl, refl, refl, refl, refl, refl, refl, refl, refl, refl, refl)
