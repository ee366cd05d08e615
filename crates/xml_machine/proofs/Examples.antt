-- Documents through the definition, computed: the places where the rules were read closely. Assumes nothing.
use Prim.Native.Nat.{ℕ}
use mathlib.Core.Path.{◌≡◌, refl}
use mathlib.Core.List.{[], ◌∷◌, ◌++◌}
use lib.ListN.{replicate}
use Rattle.names.specs.Bytes.{bytes}
use Rattle.xml_chars.specs.Chars.{crosses, lower}
use Rattle.xml_chars.specs.Bytes.{fits}
use Rattle.xml_machine.specs.Machine.{begun, char, follow, in_text, in_section, in_ref, in_target, in_misc, in_heading, in_decl, behind, in_tag, in_lt, step}
use Rattle.xml_machine.specs.Tokens.{done-with, refused, Result, keep, records, laid_out, resulting, room_of, tokens}

-- a refusal leaves zeros
abbrev refusal : ℕ → ℕ → ℕ → ℕ → Result
refusal number byte events attributes = record { answer = refused number byte; events = replicate events 0; attributes = replicate attributes 0 }

-- attributes, text, a reference, an end tag with white space
small-document : tokens (bytes "<a x='1' y=''>t&lt;</a >") 26 11 ≡ record { answer = done-with 5 2; events = (0 ∷ 1 ∷ 1 ∷ 0 ∷ 2 ∷ 3 ∷ 14 ∷ 1 ∷ 0 ∷ 0 ∷ 5 ∷ 16 ∷ 2 ∷ 0 ∷ 0 ∷ 2 ∷ 21 ∷ 1 ∷ 0 ∷ 0 ∷ 7 ∷ 0 ∷ 0 ∷ 0 ∷ 0 ∷ 0 ∷ []); attributes = (0 ∷ 3 ∷ 1 ∷ 6 ∷ 1 ∷ 0 ∷ 9 ∷ 1 ∷ 0 ∷ 0 ∷ 0 ∷ []) }
unfolding begun char follow in_text in_section in_ref in_target in_misc in_heading in_decl behind in_tag in_lt step crosses lower fits keep records laid_out resulting room_of tokens
small-document = refl

-- the declaration, white space, a comment and an instruction outside the root
declared : tokens (bytes "<?xml version='1.0' encoding='Utf-8'?>" ++ ((0x0A ∷ []) ++ (bytes "<!--c--><a/><?p d?>"))) 31 0 ≡ record { answer = done-with 6 0; events = (6 ∷ 2 ∷ 34 ∷ 0 ∷ 0 ∷ 3 ∷ 38 ∷ 1 ∷ 0 ∷ 0 ∷ 6 ∷ 43 ∷ 1 ∷ 0 ∷ 0 ∷ 1 ∷ 48 ∷ 1 ∷ 0 ∷ 0 ∷ 6 ∷ 53 ∷ 3 ∷ 0 ∷ 0 ∷ 7 ∷ 0 ∷ 0 ∷ 0 ∷ 0 ∷ 0 ∷ []); attributes = [] }
unfolding begun char follow in_text in_section in_ref in_target in_misc in_heading in_decl behind in_tag in_lt step crosses lower fits keep records laid_out resulting room_of tokens
declared = refl

-- a CDATA section, empty comment and section have start 0
sections : tokens (bytes "<a><![CDATA[<]]]]><!----><![CDATA[]]></a>") 31 0 ≡ record { answer = done-with 6 0; events = (0 ∷ 1 ∷ 1 ∷ 0 ∷ 0 ∷ 4 ∷ 12 ∷ 3 ∷ 0 ∷ 0 ∷ 6 ∷ 0 ∷ 0 ∷ 0 ∷ 0 ∷ 4 ∷ 0 ∷ 0 ∷ 0 ∷ 0 ∷ 2 ∷ 39 ∷ 1 ∷ 0 ∷ 0 ∷ 7 ∷ 0 ∷ 0 ∷ 0 ∷ 0 ∷ 0 ∷ []); attributes = [] }
unfolding begun char follow in_text in_section in_ref in_target in_misc in_heading in_decl behind in_tag in_lt step crosses lower fits keep records laid_out resulting room_of tokens
sections = refl

-- `]]>` is refused at `>` in text, and fine in a value
brackets : tokens (bytes "<a b=']]>'>]]]>") 40 10 ≡ refusal 18 14 40 10
unfolding begun char follow in_text in_section in_ref in_target in_misc in_heading in_decl behind in_tag in_lt step crosses lower fits keep records laid_out resulting room_of tokens
brackets = refl

-- `--` in a comment: the byte behind it
dashes : tokens (bytes "<!-- -- -->") 40 0 ≡ refusal 18 7 40 0
unfolding begun char follow in_text in_section in_ref in_target in_misc in_heading in_decl behind in_tag in_lt step crosses lower fits keep records laid_out resulting room_of tokens
dashes = refl

-- `<?xml` is a target only in the very first place
late-declaration : tokens (bytes " <?xml version='1.0'?><a/>") 40 0 ≡ refusal 18 6 40 0
unfolding begun char follow in_text in_section in_ref in_target in_misc in_heading in_decl behind in_tag in_lt step crosses lower fits keep records laid_out resulting room_of tokens
late-declaration = refl

longer-target : tokens (bytes " <?xmlx?><a/>") 21 0 ≡ record { answer = done-with 4 0; events = (3 ∷ 0 ∷ 1 ∷ 0 ∷ 0 ∷ 6 ∷ 3 ∷ 4 ∷ 0 ∷ 0 ∷ 1 ∷ 10 ∷ 1 ∷ 0 ∷ 0 ∷ 7 ∷ 0 ∷ 0 ∷ 0 ∷ 0 ∷ 0 ∷ []); attributes = [] }
unfolding begun char follow in_text in_section in_ref in_target in_misc in_heading in_decl behind in_tag in_lt step crosses lower fits keep records laid_out resulting room_of tokens
longer-target = refl

upper-declaration : tokens (bytes "<?XML version='1.0'?><a/>") 40 0 ≡ refusal 18 5 40 0
unfolding begun char follow in_text in_section in_ref in_target in_misc in_heading in_decl behind in_tag in_lt step crosses lower fits keep records laid_out resulting room_of tokens
upper-declaration = refl

-- the byte of the first letter that leaves `utf-8`
other-encoding : tokens (bytes "<?xml version='1.1' encoding='utf-16'?>") 40 0 ≡ refusal 18 34 40 0
unfolding begun char follow in_text in_section in_ref in_target in_misc in_heading in_decl behind in_tag in_lt step crosses lower fits keep records laid_out resulting room_of tokens
other-encoding = refl

standalone : tokens (bytes "<?xml version='1.0' standalone='no' ?><a/>") 16 0 ≡ record { answer = done-with 3 0; events = (6 ∷ 2 ∷ 34 ∷ 0 ∷ 0 ∷ 1 ∷ 39 ∷ 1 ∷ 0 ∷ 0 ∷ 7 ∷ 0 ∷ 0 ∷ 0 ∷ 0 ∷ 0 ∷ []); attributes = [] }
unfolding begun char follow in_text in_section in_ref in_target in_misc in_heading in_decl behind in_tag in_lt step crosses lower fits keep records laid_out resulting room_of tokens
standalone = refl

-- 19 with the byte of its `<`
doctype : tokens (bytes " <!DOCTYPE") 40 0 ≡ refusal 19 1 40 0
unfolding begun char follow in_text in_section in_ref in_target in_misc in_heading in_decl behind in_tag in_lt step crosses lower fits keep records laid_out resulting room_of tokens
doctype = refl

doctype-inside : tokens (bytes "<a>b<!DOCTYPE") 40 0 ≡ refusal 19 4 40 0
unfolding begun char follow in_text in_section in_ref in_target in_misc in_heading in_decl behind in_tag in_lt step crosses lower fits keep records laid_out resulting room_of tokens
doctype-inside = refl

-- `<!DOC` and no more: 18
doctype-cut : tokens (bytes "<!DOC") 40 0 ≡ refusal 18 2 40 0
unfolding begun char follow in_text in_section in_ref in_target in_misc in_heading in_decl behind in_tag in_lt step crosses lower fits keep records laid_out resulting room_of tokens
doctype-cut = refl

-- inside a comment it is text
doctype-comment : tokens (bytes "<!--<!DOCTYPE--><a/>") 16 0 ≡ record { answer = done-with 3 0; events = (6 ∷ 4 ∷ 9 ∷ 0 ∷ 0 ∷ 1 ∷ 17 ∷ 1 ∷ 0 ∷ 0 ∷ 7 ∷ 0 ∷ 0 ∷ 0 ∷ 0 ∷ 0 ∷ []); attributes = [] }
unfolding begun char follow in_text in_section in_ref in_target in_misc in_heading in_decl behind in_tag in_lt step crosses lower fits keep records laid_out resulting room_of tokens
doctype-comment = refl

-- the mark is skipped, and starts count it
byte-order : tokens ((0xEF ∷ []) ++ ((0xBB ∷ []) ++ ((0xBF ∷ []) ++ (bytes "<a/>")))) 11 0 ≡ record { answer = done-with 2 0; events = (1 ∷ 4 ∷ 1 ∷ 0 ∷ 0 ∷ 7 ∷ 0 ∷ 0 ∷ 0 ∷ 0 ∷ 0 ∷ []); attributes = [] }
unfolding begun char follow in_text in_section in_ref in_target in_misc in_heading in_decl behind in_tag in_lt step crosses lower fits keep records laid_out resulting room_of tokens
byte-order = refl

byte-order-cut : tokens (0xEF ∷ []) 40 0 ≡ refusal 18 1 40 0
unfolding begun char follow in_text in_section in_ref in_target in_misc in_heading in_decl behind in_tag in_lt step crosses lower fits keep records laid_out resulting room_of tokens
byte-order-cut = refl

byte-order-twice : tokens ((0xEF ∷ []) ++ ((0xBB ∷ []) ++ ((0xBF ∷ []) ++ ((0xEF ∷ []) ++ ((0xBB ∷ []) ++ ((0xBF ∷ []) ++ (bytes "<a/>"))))))) 40 0 ≡ refusal 18 3 40 0
unfolding begun char follow in_text in_section in_ref in_target in_misc in_heading in_decl behind in_tag in_lt step crosses lower fits keep records laid_out resulting room_of tokens
byte-order-twice = refl

-- U+FFFE, a surrogate, U+00D7 in a name, a byte of no character
no_char : tokens (bytes "<a>" ++ ((0xEF ∷ []) ++ ((0xBF ∷ []) ++ (0xBE ∷ [])))) 40 0 ≡ refusal 18 5 40 0
unfolding begun char follow in_text in_section in_ref in_target in_misc in_heading in_decl behind in_tag in_lt step crosses lower fits keep records laid_out resulting room_of tokens
no_char = refl

surrogate : tokens (bytes "<a>" ++ ((0xED ∷ []) ++ ((0xA0 ∷ []) ++ (0x80 ∷ [])))) 40 0 ≡ refusal 18 4 40 0
unfolding begun char follow in_text in_section in_ref in_target in_misc in_heading in_decl behind in_tag in_lt step crosses lower fits keep records laid_out resulting room_of tokens
surrogate = refl

no_name : tokens (bytes "<a" ++ ((0xC3 ∷ []) ++ (0x97 ∷ []))) 40 0 ≡ refusal 18 3 40 0
unfolding begun char follow in_text in_section in_ref in_target in_misc in_heading in_decl behind in_tag in_lt step crosses lower fits keep records laid_out resulting room_of tokens
no_name = refl

stray : tokens (bytes "<a>" ++ (0x80 ∷ [])) 40 0 ≡ refusal 18 3 40 0
unfolding begun char follow in_text in_section in_ref in_target in_misc in_heading in_decl behind in_tag in_lt step crosses lower fits keep records laid_out resulting room_of tokens
stray = refl

-- an end tag of another name
other_name : tokens (bytes "<" ++ ((0xC3 ∷ []) ++ ((0x80 ∷ []) ++ (bytes "></" ++ ((0xC3 ∷ []) ++ ((0x81 ∷ []) ++ (bytes ">"))))))) 40 0 ≡ refusal 18 7 40 0
unfolding begun char follow in_text in_section in_ref in_target in_misc in_heading in_decl behind in_tag in_lt step crosses lower fits keep records laid_out resulting room_of tokens
other_name = refl

-- by syntax only
references : tokens (bytes "<a>&x;&#0;&#xF;</a>") 31 0 ≡ record { answer = done-with 6 0; events = (0 ∷ 1 ∷ 1 ∷ 0 ∷ 0 ∷ 5 ∷ 4 ∷ 1 ∷ 0 ∷ 0 ∷ 5 ∷ 7 ∷ 2 ∷ 0 ∷ 0 ∷ 5 ∷ 11 ∷ 3 ∷ 0 ∷ 0 ∷ 2 ∷ 17 ∷ 1 ∷ 0 ∷ 0 ∷ 7 ∷ 0 ∷ 0 ∷ 0 ∷ 0 ∷ 0 ∷ []); attributes = [] }
unfolding begun char follow in_text in_section in_ref in_target in_misc in_heading in_decl behind in_tag in_lt step crosses lower fits keep records laid_out resulting room_of tokens
references = refl

no-digits : tokens (bytes "<a>&#;") 40 0 ≡ refusal 18 5 40 0
unfolding begun char follow in_text in_section in_ref in_target in_misc in_heading in_decl behind in_tag in_lt step crosses lower fits keep records laid_out resulting room_of tokens
no-digits = refl

ampersand-value : tokens (bytes "<a b='&#x1;&#'/>") 40 10 ≡ refusal 18 13 40 10
unfolding begun char follow in_text in_section in_ref in_target in_misc in_heading in_decl behind in_tag in_lt step crosses lower fits keep records laid_out resulting room_of tokens
ampersand-value = refl

text-before-root : tokens (bytes " x") 40 0 ≡ refusal 18 1 40 0
unfolding begun char follow in_text in_section in_ref in_target in_misc in_heading in_decl behind in_tag in_lt step crosses lower fits keep records laid_out resulting room_of tokens
text-before-root = refl

-- only more is missing
cut : tokens (bytes "<a>") 40 0 ≡ refusal 18 3 40 0
unfolding begun char follow in_text in_section in_ref in_target in_misc in_heading in_decl behind in_tag in_lt step crosses lower fits keep records laid_out resulting room_of tokens
cut = refl

-- 16: the third event; the text broken off within a character; the attribute
no_room : tokens (bytes "<a>b</a>") 10 0 ≡ refusal 16 4294967295 10 0
unfolding begun char follow in_text in_section in_ref in_target in_misc in_heading in_decl behind in_tag in_lt step crosses lower fits keep records laid_out resulting room_of tokens
no_room = refl

no-room-broken : tokens (bytes "<a>" ++ ((0xE2 ∷ []) ++ (0x80 ∷ []))) 5 0 ≡ refusal 16 4294967295 5 0
unfolding begun char follow in_text in_section in_ref in_target in_misc in_heading in_decl behind in_tag in_lt step crosses lower fits keep records laid_out resulting room_of tokens
no-room-broken = refl

no-room-attribute : tokens (bytes "<a b='c'/>") 40 4 ≡ refusal 16 4294967295 40 4
unfolding begun char follow in_text in_section in_ref in_target in_misc in_heading in_decl behind in_tag in_lt step crosses lower fits keep records laid_out resulting room_of tokens
no-room-attribute = refl

-- a record that is due behind the refused byte takes no room
room-before-bad : tokens (bytes "<a>" ++ (0xFF ∷ [])) 5 0 ≡ refusal 18 3 5 0
unfolding begun char follow in_text in_section in_ref in_target in_misc in_heading in_decl behind in_tag in_lt step crosses lower fits keep records laid_out resulting room_of tokens
room-before-bad = refl

-- Eof is due in an accepted document only
no-room-eof : tokens (bytes "<a/>") 5 0 ≡ refusal 16 4294967295 5 0
unfolding begun char follow in_text in_section in_ref in_target in_misc in_heading in_decl behind in_tag in_lt step crosses lower fits keep records laid_out resulting room_of tokens
no-room-eof = refl

room-eof : tokens (bytes "<a/><") 9 0 ≡ refusal 18 5 9 0
unfolding begun char follow in_text in_section in_ref in_target in_misc in_heading in_decl behind in_tag in_lt step crosses lower fits keep records laid_out resulting room_of tokens
room-eof = refl
