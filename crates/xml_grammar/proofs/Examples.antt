-- Derivations and their events, computed. Assumes nothing.
use mathlib.Core.Path.{◌≡◌, refl}
use mathlib.Core.List.{[], ◌∷◌, ◌++◌}
use mathlib.Core.Bool.{true}
use Rattle.names.specs.Bytes.{bytes}
use Rattle.table.specs.Event.{Tag, Piece, Eof, Start, Empty, End, Text, Ref, Other}
use Rattle.xml_chars.specs.of_utf8.Characters.{encode}
use Rattle.xml_chars.specs.Chars.{crosses, lower, single}
use Rattle.xml_grammar.specs.Events.{element_of, content_of, table_events}
use Rattle.xml_grammar.specs.Grammar.{no_char, a-char, chars, Name, name_of, Referred, entity, Value, no_value, value-char, Attributes, no-attribute, attribute, CharData, data_of, last-space, reference, empty, pair, Content, last-data, child, beside, declares, absent, present, version, encoding, Declaration, declaration, undeclared, declared, Document, document}

name-a : Name (bytes "a")
unfolding crosses
name-a = name_of refl no_char

-- <a/>
abbrev small : Document (bytes "<a/>")
small = document (undeclared (last-space no_char)) (empty name-a (no-attribute no_char) refl) (last-space no_char)

small-events : table_events small ≡ Tag Empty (bytes "a") 0 [] ∷ Eof ∷ []
unfolding element_of content_of encode
small-events = refl

-- the version and the encoding that every report written here declares
declares-both : Declaration (bytes "xml version='1.0' encoding='Utf-8'")
unfolding lower
declares-both =
    declaration (declares {w = 32 ∷ []} {v = bytes "1.0"} (chars refl no_char) no_char no_char single (version (chars refl no_char)))
    (present (declares {w = 32 ∷ []} {v = bytes "Utf-8"} (chars refl no_char) no_char no_char single (encoding refl))) absent no_char

-- attributes are numbered over the whole document: <a b='1'>]&c;<a/><a b='1'/></a>, behind the declaration and a newline
name-b : Name (bytes "b")
unfolding crosses
name-b = name_of refl no_char

value-1 : Value single (bytes "1")
unfolding crosses
value-1 = value-char refl no_value

abbrev a-value : Attributes (bytes " b='1'")
a-value = attribute {w = 32 ∷ []} (chars refl no_char) name-b no_char no_char single value-1 (no-attribute no_char)

bracket : CharData (bytes "]")
unfolding crosses
bracket = data_of (a-char refl no_char) refl

no-data : CharData []
no-data = data_of no_char refl

refers_c : Referred (bytes "c")
unfolding crosses
refers_c = entity (name_of refl no_char)

abbrev inner : Content (bytes "]&c;<a/><a b='1'/>")
inner =
    beside bracket (reference refers_c)
    (child no-data (empty name-a (no-attribute no_char) refl) (child no-data (empty name-a a-value refl) (last-data no-data) refl) refl) refl

abbrev large : Document ((bytes "<?xml version='1.0' encoding='Utf-8'?>" ++ (10 ∷ [])) ++ (bytes "<a b='1'>]&c;<a/><a b='1'/></a>" ++ []))
large =
    document (declared declares-both (last-space (a-char refl no_char))) (pair name-a a-value inner no_char refl) (last-space no_char)

large-events : table_events large ≡ Piece Other (bytes "xml version='1.0' encoding='Utf-8'") ∷ Piece Text (10 ∷ [])
    ∷ Tag Start (bytes "a") 0 (record { good = true; key = bytes "b"; value = bytes "1" } ∷ []) ∷ Piece Text (bytes "]") ∷ Piece Ref (bytes "c")
    ∷ Tag Empty (bytes "a") 0 [] ∷ Tag Empty (bytes "a") 1 (record { good = true; key = bytes "b"; value = bytes "1" } ∷ []) ∷ Tag End (bytes "a") 0 [] ∷ Eof ∷ []
unfolding element_of content_of encode
large-events = refl
