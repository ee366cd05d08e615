-- The line that explains a refusal (rules E1 to E5):
-- `refused 5 at testsuites/testsuite[0]("lab")/testcase[3]/@time: a time must be .. (event 12, attribute 31)`.
-- It may hold private text, a name. Definitions only.
use Rattle.std.specs.Prelude.{ℕ, List, [], ◌∷◌, ◌++◌, Bool, cond, ◌||◌, get_or, take, drop, leb, eqb}
use Rattle.std.proofs.Math.Option.{Option, none, some}
use Rattle.text.specs.of_refusal.Refusal.{nowhere, number, filler, Outcome}
use Rattle.text.specs.of_refusal.declared.PathElement.{PathElement}
use Rattle.text.specs.of_refusal.declared.Path.{Path}
use Rattle.text.specs.of_refusal.declared.Refusal.{Refusal}
use Rattle.text.specs.of_refusal.declared.Cause.TheVariants as cause
use Rattle.text.specs.of_area.Answer.{Answer}
use Rattle.text.specs.of_area.Area.{placing}
use Rattle.text.specs.of_names.Bytes.{bytes}
use Rattle.text.specs.of_names.Names.{same_bytes}
use Rattle.text.specs.of_names.Keys.{keys}
use Rattle.text.specs.of_names.Tags as tag
use Rattle.text.specs.of_digits.Digits.{decimal}
use Rattle.text.specs.Decode.{is_value}
use Rattle.text.specs.Value.{value_text}
use Rattle.table.specs.Table.{count_of}
use Rattle.table.specs.Event.{Attribute, Event, Tag, Piece, Eof, Fault, event_at}
use Rattle.list_text.specs.Listing.{quoted, outcome_of, output_for}
use Rattle.explain_text.specs.Sentences.{sentence}

-- ---- names
-- an attribute's text as reading stores it, where it is a value
abbrev pub text_of : List ℕ → Option (List ℕ)
text_of value = cond (is_value value) (some (value_text value)) none

-- that of the first attribute whose key is `name`
abbrev pub name_in : List Attribute → Option (List ℕ)
name_in [] = none
name_in (a ∷ rest) = cond (same_bytes a.key (bytes "name")) (text_of a.value) (name_in rest)

-- a Start and an Empty have attributes, and no other event
abbrev pub name_of : Event → Option (List ℕ)
name_of (Tag kind name first attributes) = name_in attributes
name_of (Piece kind text) = none
name_of Eof = none
name_of Fault = none

-- ---- a path element, as the crate displays it
-- by their codes; 0 and 13 are none, and `?` stands for whatever isn't there
unfoldable pub kind_names : List (List ℕ)
kind_names =
    bytes "?"
    ∷ bytes "testsuites"
    ∷ bytes "testsuite"
    ∷ bytes "testcase"
    ∷ bytes "properties"
    ∷ bytes "property"
    ∷ bytes "failure"
    ∷ bytes "error"
    ∷ bytes "skipped"
    ∷ bytes "flakyFailure"
    ∷ bytes "flakyError"
    ∷ bytes "rerunFailure"
    ∷ bytes "rerunError"
    ∷ bytes "?"
    ∷ bytes "system-out"
    ∷ bytes "system-err"
    ∷ bytes "@"
    ∷ []

-- an Attribute's index is the code of its key up to 14, then 15 for a stack trace, then the next key's (attribute_of of read_element)
unfoldable pub attribute_names : List (List ℕ)
attribute_names = bytes "?" ∷ (take 14 keys ++ (bytes "stackTrace" ∷ drop 14 keys))

-- rule E4
abbrev pub named : List (List ℕ) → ℕ → List ℕ
named names code = get_or names code (bytes "?")

-- the kind of an Attribute
abbrev pub attribute : ℕ
attribute = 16

abbrev pub has_name : ℕ → Bool
has_name kind = eqb kind tag.testsuite || eqb kind tag.testcase

abbrev pub has_index : ℕ → Bool
has_index kind = has_name kind || eqb kind tag.property

unfoldable pub index_text : ℕ → ℕ → List ℕ
index_text kind index = cond (has_index kind) (bytes "[" ++ (decimal index ++ bytes "]")) []

-- rule E3
abbrev pub bracketed : Option (List ℕ) → List ℕ
bracketed none = []
bracketed (some name) = bytes "(" ++ (quoted name ++ bytes ")")

abbrev pub attribute_text : ℕ → ℕ → List ℕ
attribute_text kind index = cond (eqb kind attribute) (named attribute_names index) []

-- ---- a path: the front of its array of six
abbrev pub six : List PathElement → List PathElement
six es = get_or es 0 filler ∷ get_or es 1 filler ∷ get_or es 2 filler ∷ get_or es 3 filler ∷ get_or es 4 filler ∷ get_or es 5 filler ∷ []

-- rule E4
abbrev pub elements_of : Path → List PathElement
elements_of p = take p.len (six p.elements)

-- ---- event and attribute, where they are concerned
abbrev pub attribute_shown : ℕ → List ℕ
attribute_shown a = cond (eqb a nowhere) [] (bytes ", attribute " ++ decimal a)

-- rule E1
unfoldable pub place_text : ℕ → ℕ → List ℕ
place_text event a = cond (eqb event nowhere) [] (bytes " (event " ++ (decimal event ++ (attribute_shown a ++ bytes ")")))

-- ---- with the table that was refused
module _ (events attributes source : List ℕ) where
  -- the name of an event, if the table has the event and it has a name (rule E3)
  unfoldable pub name_at : ℕ → Option (List ℕ)
  name_at i = cond (eqb i nowhere || leb (count_of events) i) none (name_of (event_at events attributes source i))

  abbrev pub name_text : ℕ → ℕ → List ℕ
  name_text kind event = cond (has_name kind) (bracketed (name_at event)) []

  -- rule E2
  unfoldable pub element_text : PathElement → List ℕ
  element_text e =
      named kind_names e.kind ++ (index_text e.kind e.index ++ (name_text e.kind e.event ++ attribute_text e.kind e.index))

  -- each element behind a mark: the first behind ` at `, the others behind `/`
  unfoldable pub elements_text : List ℕ → List PathElement → List ℕ
  elements_text mark [] = []
  elements_text mark (e ∷ es) = mark ++ (element_text e ++ elements_text (bytes "/") es)

  -- rule E2
  unfoldable pub path_text : Path → List ℕ
  path_text p = elements_text (bytes " at ") (elements_of p)

  -- ---- the line (rule E1); of an area that was too short so many words or bytes were lent (rule E6)
  unfoldable pub line_of : Refusal → (lent : ℕ) → List ℕ
  line_of r lent =
      bytes "refused "
      ++ (decimal (number r.cause) ++ (path_text r.path ++ (bytes ": " ++ (sentence r.cause lent ++ (place_text r.event r.attribute ++ bytes "\n")))))

  -- how many bytes the line has, or 16: an area of n bytes is too short (rule E5)
  unfoldable pub line_answer : Refusal → (lent n : ℕ) → Answer ℕ
  line_answer r lent n = placing cause.OutputFull n (line_of r lent)

  -- the same with all that a refusal carries
  abbrev pub explained : Refusal → (lent n : ℕ) → Outcome ℕ
  explained r lent n = outcome_of (line_answer r lent n)

  -- the area afterwards: the line with zeros behind it, or zeros (rule E5)
  unfoldable pub explanation_in : Refusal → (lent n : ℕ) → List ℕ
  explanation_in r lent n = output_for (line_answer r lent n) n (line_of r lent)
