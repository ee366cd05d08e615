-- The line that explains a tokenizer's refusal (rules N13 and N14):
-- `refused 18 at byte 12, line 2, column 5: from this byte on the document is not well-formed XML`.
-- Definitions only.
use Rattle.std.specs.Prelude.{ℕ, ◌/◌, List, [], ◌++◌, Bool, true, false, cond, length, take, leb, eqb}
use Rattle.list_text.specs.of_refusal.Refusal.{nowhere}
use Rattle.list_text.specs.of_refusal.declared.Cause.TheVariants as cause
use Rattle.explain_spot.specs.of_area.Answer.{Answer}
use Rattle.explain_spot.specs.of_area.Area.{placing}
use Rattle.explain_spot.specs.of_area.Limits.{most_entries}
use Rattle.list_text.specs.of_names.Bytes.{bytes}
use Rattle.list_text.specs.of_digits.Digits.{decimal}
use Rattle.list_text.specs.Listing.{output_for}
use Rattle.explain_spot.specs.Spots.{line_behind, column_behind}

-- the bytes before the one that is refused
abbrev pub passed : List ℕ → ℕ → List ℕ
passed source byte = take byte source

-- with 11 and 16 no byte is concerned (rules N10 and N13)
unfoldable pub spot_text : List ℕ → ℕ → List ℕ
spot_text source byte =
    cond (eqb byte nowhere) []
    (bytes " at byte " ++ (decimal byte ++ (bytes ", line " ++ (decimal (line_behind (passed source byte)) ++ (bytes ", column " ++ decimal (column_behind (passed source byte)))))))

-- an area of so many words holds as many events or attributes as a table may have (rules N9 and N15)
abbrev pub holds_most : ℕ → Bool
holds_most words = leb most_entries (words / 5)

-- by which of both areas do: a longer one wouldn't help (rule N15)
abbrev pub short_sentence : (events attributes : Bool) → List ℕ
short_sentence true true = bytes "the document has more than 65536 events or attributes"
short_sentence true false = bytes "the area for attributes is too short, or the document has more than 65536 events"
short_sentence false true = bytes "the area for events is too short, or the document has more than 65536 attributes"
short_sentence false false = bytes "the area for events or attributes is too short"

-- 18 has two: `ended` says that the document has no such byte (rule N13)
unfoldable pub xml_sentence : ℕ → (ended events attributes : Bool) → List ℕ
xml_sentence number ended events attributes =
    cond (eqb number 18) (cond ended (bytes "the document ends too early") (bytes "from this byte on the document is not well-formed XML"))
    (cond (eqb number 19) (bytes "a document type declaration is not taken")
    (cond (eqb number 11) (bytes "the document is longer than 16777216 bytes")
    (cond (eqb number 16) (short_sentence events attributes) (bytes "?"))))

-- of a refusal where so many words were lent for events and attributes (rules N13 and N15)
unfoldable pub xml_line : List ℕ → (number byte events attributes : ℕ) → List ℕ
xml_line source number byte events attributes =
    bytes "refused "
    ++ (decimal number ++ (spot_text source byte ++ (bytes ": " ++ (xml_sentence number (leb (length source) byte) (holds_most events) (holds_most attributes) ++ bytes "\n"))))

-- how many bytes the line has, or 16: an area of n bytes is too short (rule N14)
unfoldable pub xml_line_answer : List ℕ → (number byte events attributes n : ℕ) → Answer ℕ
xml_line_answer source number byte events attributes n = placing cause.OutputFull n (xml_line source number byte events attributes)

-- the area afterwards: the line with zeros behind it, or zeros (rule N14)
unfoldable pub xml_explanation_in : List ℕ → (number byte events attributes n : ℕ) → List ℕ
xml_explanation_in source number byte events attributes n =
    output_for (xml_line_answer source number byte events attributes n) n (xml_line source number byte events attributes)
