-- Lines worked out. Assumes nothing.
use Prim.Native.Nat.{ℕ}
use mathlib.Core.Path.{◌≡◌, refl}
use mathlib.Core.List.{List, [], ◌∷◌, ◌++◌}
use Rattle.text.specs.of_refusal.Refusal.{nowhere, refusal_from, late, accepted, refused}
use Rattle.text.specs.of_refusal.declared.Cause.{Cause}
use Rattle.text.specs.of_refusal.declared.Cause.TheVariants as cause
use Rattle.text.specs.of_refusal.declared.PathElement.{PathElement}
use Rattle.text.specs.of_refusal.declared.Refusal.{Refusal}
use Rattle.text.specs.of_area.Area.{zeros}
use Rattle.text.specs.of_names.Bytes.{bytes}
use Rattle.text.specs.of_names.Names.{same_bytes, code_from}
use Rattle.text.specs.of_names.Keys.{keys}
use Rattle.text.specs.of_utf8.Utf8.{need, low, high}
use Rattle.text.specs.of_utf8.Characters.{encode}
use Rattle.text.specs.of_digits.Digits.{digit, is_number, places, decimal}
use Rattle.text.specs.of_reference.Reference.{xml_char, entities, entity_chars, is_entity, entity_char, base, digits_in, number, is_char_ref, ref_at}
use Rattle.list_text.specs.of_escape.Escape.{letter, listed}
use Rattle.table.specs.Event.{attributes_from, event_of, event_at}
use Rattle.explain_text.specs.Sentences.{sentence}
use Rattle.explain_text.specs.Explanation.{kind_names, attribute_names, index_text, place_text, name_at, element_text, elements_text, path_text, line_of, line_answer, explained, explanation_in}

abbrev element : ℕ → ℕ → ℕ → PathElement
element kind index event = record { kind = kind; index = index; event = event }

abbrev root : PathElement
root = element 1 nowhere nowhere

abbrev refusal : Cause → List PathElement → ℕ → ℕ → Refusal
refusal why path event attribute = refusal_from (record { cause = why; path = path; event = event; attribute = attribute })

-- ---- the line of a bad time. Reading refuses this table so: <testsuites><testsuite name="lab">, three Empty `testcase` with that name,
-- seven Indents, and as event 12 a `testcase` with time="x", which is attribute 31
abbrev source : List ℕ
source = bytes "testsuitestestsuitetestcasenamelabtimex"

abbrev case : List ℕ
case = 1 ∷ 19 ∷ 8 ∷ 0 ∷ 1 ∷ []

abbrev indent : List ℕ
indent = 9 ∷ 0 ∷ 0 ∷ 0 ∷ 0 ∷ []

abbrev events : List ℕ
events =
    (0 ∷ 0 ∷ 10 ∷ 0 ∷ 0 ∷ 0 ∷ 10 ∷ 9 ∷ 0 ∷ 1 ∷ [])
    ++ (case ++ (case ++ (case ++ (indent ++ (indent ++ (indent ++ (indent ++ (indent ++ (indent ++ (indent ++ (1 ∷ 19 ∷ 8 ∷ 31 ∷ 1 ∷ [])))))))))))

abbrev attributes : List ℕ
attributes = (0 ∷ 27 ∷ 4 ∷ 31 ∷ 3 ∷ []) ++ (zeros 150 ++ (0 ∷ 34 ∷ 4 ∷ 38 ∷ 1 ∷ []))

bad-time : line_of events attributes source (refusal cause.BadTime (root ∷ element 2 0 1 ∷ element 3 3 nowhere ∷ element 16 5 nowhere ∷ []) 12 31) 0
    ≡ bytes "refused 5 at testsuites/testsuite[0](\"lab\")/testcase[3]/@time: a time must be digits with at most nine behind the point, under 8388608 seconds (event 12, attribute 31)\n"
unfolding line_of path_text elements_text element_text kind_names attribute_names keys index_text name_at event_at
    event_of attributes_from same_bytes need low high letter listed place_text sentence digit places decimal
bad-time = refl

-- a suite's host: the code of its key is 15, which is a stack trace's in a path
host-and-trace : line_of [] [] [] (refusal cause.NotUtf8 (element 2 0 nowhere ∷ element 16 16 nowhere ∷ element 16 15 nowhere ∷ element 16 14 nowhere ∷ []) nowhere nowhere) 0
    ≡ bytes "refused 2 at testsuite[0]/@hostname/@stackTrace/@value: the text is not UTF-8\n"
unfolding line_of path_text elements_text element_text kind_names attribute_names keys index_text name_at place_text sentence digit places decimal
host-and-trace = refl

-- ---- no events at all: an empty path
no-report : line_of [] [] [] (refusal cause.MissingReport [] 0 nowhere) 0 ≡ bytes "refused 8: the report ends before a testsuites element begins (event 0)\n"
unfolding line_of path_text elements_text place_text sentence digit places decimal
no-report = refl

-- ---- a suite before it is named
unnamed : line_of events attributes source (refusal cause.MissingAttribute (root ∷ element 2 0 nowhere ∷ element 16 1 nowhere ∷ []) 1 nowhere) 0
    ≡ bytes "refused 7 at testsuites/testsuite[0]/@name: this attribute is missing (event 1)\n"
unfolding line_of path_text elements_text element_text kind_names attribute_names keys index_text name_at place_text sentence digit places decimal
unnamed = refl

-- ---- 4294967295 for both
nowhere-at-all : line_of [] [] [] (refusal_from (late cause.OutputFull)) 0 ≡ bytes "refused 16: the area for output is too short\n"
unfolding line_of path_text elements_text place_text sentence digit places decimal
nowhere-at-all = refl

-- ---- names: of an Empty `testcase` whose attributes are x="" and name="..", the whole source but for its first five bytes
abbrev name_of : List ℕ → List ℕ
name_of value = element_text (1 ∷ 0 ∷ 0 ∷ 0 ∷ 2 ∷ []) (0 ∷ 4 ∷ 1 ∷ 0 ∷ 0 ∷ 0 ∷ 0 ∷ 4 ∷ 5 ∷ 99 ∷ []) (bytes "namex" ++ value) (element 3 7 0)

-- decoded, and escaped as in the listing
escapes : name_of (bytes "a&quot;&#10;b\\") ≡ bytes "testcase[7](\"a\\\"\\nb\\\\\")"
unfolding element_text kind_names index_text name_at event_at event_of attributes_from same_bytes need low high ref_at is_entity entity_char
    entities entity_chars code_from is_char_ref number base digits_in is_number xml_char encode letter listed digit places decimal
escapes = refl

-- filtered
filters : name_of (1 ∷ 65 ∷ []) ≡ bytes "testcase[7](\"A\")"
unfolding element_text kind_names index_text name_at event_at event_of attributes_from same_bytes need low high letter listed digit places decimal
filters = refl

-- no value: not UTF-8, or a bad reference
no_value : (name_of (255 ∷ []) ≡ bytes "testcase[7]") × (name_of (bytes "a&b") ≡ bytes "testcase[7]")
unfolding element_text kind_names index_text name_at event_at event_of attributes_from same_bytes need low high ref_at is_entity entities code_from is_char_ref digit places decimal
no_value = (refl, refl)

-- ---- what no refusal of reading holds
-- kinds and attributes that aren't there
unknown : line_of [] [] [] (refusal cause.XmlFault (element 0 0 0 ∷ element 13 0 0 ∷ element 17 5 0 ∷ element 16 0 0 ∷ element 16 17 0 ∷ []) 4 nowhere) 0
    ≡ bytes "refused 1 at ?/?/?/@?/@?: the XML is broken here (event 4)\n"
unfolding line_of path_text elements_text element_text kind_names attribute_names keys index_text place_text sentence digit places decimal
unknown = refl

-- an event that isn't in the table, and one that is an End
no-event : (element_text events attributes source (element 2 0 13) ≡ bytes "testsuite[0]") × (element_text (2 ∷ 0 ∷ 0 ∷ 0 ∷ 1 ∷ []) attributes source (element 2 0 0) ≡ bytes "testsuite[0]")
unfolding element_text kind_names index_text name_at event_at event_of digit places decimal
no-event = (refl, refl)

-- a path of nine elements is one of six, and an attribute without an event isn't shown
nine : line_of [] [] [] (record { cause = cause.NotUtf8; path = record { elements = root ∷ root ∷ root ∷ root ∷ root ∷ element 5 2 0 ∷ []; len = 9 }; event = nowhere; attribute = 3 }) 0
    ≡ bytes "refused 2 at testsuites/testsuites/testsuites/testsuites/testsuites/property[2]: the text is not UTF-8\n"
unfolding line_of path_text elements_text element_text kind_names index_text place_text sentence digit places decimal
nine = refl

-- ---- the area: the line has 45 bytes, of which one is the newline
fits : (explained [] [] [] (refusal_from (late cause.OutputFull)) 0 45 ≡ accepted 45)
    × (explanation_in [] [] [] (refusal_from (late cause.OutputFull)) 0 46 ≡ bytes "refused 16: the area for output is too short\n" ++ (0 ∷ []))
unfolding explanation_in line_answer line_of path_text elements_text place_text sentence digit places decimal
fits = (refl, refl)

too_short : (explained [] [] [] (refusal_from (late cause.OutputFull)) 0 44 ≡ refused (late cause.OutputFull)) × (explanation_in [] [] [] (refusal_from (late cause.OutputFull)) 0 44 ≡ zeros 44)
unfolding explanation_in line_answer line_of path_text elements_text place_text sentence digit places decimal
too_short = (refl, refl)

-- ---- areas of nearly the limits' size, and of the limits' size (rule E6)
most-records : (sentence cause.RecordsSpent 2097151 ≡ bytes "the area for records is too short") × (sentence cause.RecordsSpent 2097152 ≡ bytes "the report has more than 65536 records")
unfolding sentence
most-records = (refl, refl)

most-text : (sentence cause.TextFull 16777215 ≡ bytes "the area for texts is too short") × (sentence cause.TextFull 16777216 ≡ bytes "the report's texts are longer than 16777216 bytes")
unfolding sentence
most-text = (refl, refl)

most-scratch : (sentence cause.ScratchFull 16777215 ≡ bytes "the area for gathering text is too short")
    × (sentence cause.ScratchFull 16777216 ≡ bytes "a gathered text is longer than 16777216 bytes")
unfolding sentence
most-scratch = (refl, refl)

most-output : (sentence cause.OutputFull 16777215 ≡ bytes "the area for output is too short")
    × (sentence cause.OutputFull 16777216 ≡ bytes "an area for output is too short, or the table has more than 65536 events, 65536 attributes or 16777216 bytes")
unfolding sentence
most-output = (refl, refl)
