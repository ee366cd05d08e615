-- The records of a derivation whose first byte stands at `at`: each event, key and value with its place and its length in bytes, the place
-- 0 where the length is 0 (rules N3 and N4). Definitions only.
use Rattle.std.specs.Prelude.{ℕ, ◌+◌, List, [], ◌∷◌, ◌++◌, length}
use Rattle.xml_tokens.specs.of_table.Kinds as kind
use Rattle.xml_tokens.specs.of_xml_chars.Bytes.{utf8}
use Rattle.xml_tokens.specs.of_xml_grammar.Grammar.{Attributes, no-attribute, attribute, Misc, comment, instruction, Miscs, last-space, misc, Beside, reference, section}
use Rattle.xml_tokens.specs.of_xml_grammar.Grammar.{aside, Element, empty, pair, Content, last-data, child, beside, Prolog, undeclared, declared, Document, document}
use Rattle.xml_tokens.specs.of_xml_grammar.Documents.{WellFormed}
use Rattle.xml_tokens.specs.of_xml_machine.Tokens.{Rec, rec, unless0, flat}

-- the bytes that characters take
abbrev pub size : List ℕ → ℕ
size s = length (utf8 s)

-- an event over characters
abbrev pub piece_at : ℕ → ℕ → List ℕ → Rec
piece_at k at s = rec k (unless0 at (size s)) (size s) 0 0

-- a tag by its name, which isn't empty, and the number of its attributes
abbrev pub tag_at : ℕ → ℕ → List ℕ → ℕ → Rec
tag_at k at n count = rec k at (size n) 0 count

-- a run of character data, or of white space outside the root, is one Text (rule N3)
abbrev pub text_at : ℕ → List ℕ → List Rec
text_at at [] = []
text_at at (c ∷ s) = piece_at kind.text at (c ∷ s) ∷ []

-- ---- attributes: white space w, the key k, white space x and y around `=`, and a value between quotes (rule N4)
abbrev pub value_at : ℕ → List ℕ → List ℕ → List ℕ → List ℕ → ℕ
value_at at w k x y = at + size w + size k + size x + 1 + size y + 1

abbrev pub attributes_at : ℕ → {s : List ℕ} → Attributes s → List Rec
attributes_at at (no-attribute w) = []
attributes_at at (attribute {w = w} {k = k} {x = x} {y = y} {v = v} s n e f q i a) =
    rec 0 (at + size w) (size k) (unless0 (value_at at w k x y) (size v)) (size v) ∷ attributes_at (value_at at w k x y + size v + 1) a

unfoldable mutual
  pub element_attributes : ℕ → {s : List ℕ} → Element s → List Rec
  element_attributes at (empty {n = n} i a e) = attributes_at (at + 1 + size n) a
  element_attributes at (pair {n = n} {a = a} i h c w e) = attributes_at (at + 1 + size n) h ++ content_attributes (at + 1 + size n + size a + 1) c

  pub content_attributes : ℕ → {s : List ℕ} → Content s → List Rec
  content_attributes at (last-data d) = []
  content_attributes at (child {d = d} {e = e} h i c q) = element_attributes (at + size d) i ++ content_attributes (at + size d + size e) c
  content_attributes at (beside {d = d} {e = e} h i c q) = content_attributes (at + size d + size e) c

-- ---- events, with their numbers of attributes and 0 for the first of these
-- behind `<!--` or `<?`
abbrev pub misc_at : ℕ → {s : List ℕ} → Misc s → Rec
misc_at at (comment {s = s} r) = piece_at kind.other (at + 4) s
misc_at at (instruction {s = s} i) = piece_at kind.other (at + 2) s

abbrev pub miscs_at : ℕ → {s : List ℕ} → Miscs s → List Rec
miscs_at at (last-space {w = w} s) = text_at at w
miscs_at at (misc {w = w} {e = e} s i m) = text_at at w ++ (misc_at (at + size w) i ∷ miscs_at (at + size w + size e) m)

-- behind `&` or `<![CDATA[`
abbrev pub beside_at : ℕ → {s : List ℕ} → Beside s → Rec
beside_at at (reference {n = n} r) = piece_at kind.ref (at + 1) n
beside_at at (section {s = s} c l) = piece_at kind.cdata (at + 9) s
beside_at at (aside m) = misc_at at m

unfoldable mutual
  -- `<`, the name, attributes, and `/>`; or `>`, content, `</`, the name again, white space, `>`
  pub element_at : ℕ → {s : List ℕ} → Element s → List Rec
  element_at at (empty {n = n} i a e) = tag_at kind.empty (at + 1) n (length (attributes_at (at + 1 + size n) a)) ∷ []
  element_at at (pair {n = n} {a = a} {c = b} i h c w e) =
      tag_at kind.start (at + 1) n (length (attributes_at (at + 1 + size n) h))
      ∷ (content_at (at + 1 + size n + size a + 1) c ++ (tag_at kind.end (at + 1 + size n + size a + 1 + size b + 2) n 0 ∷ []))

  pub content_at : ℕ → {s : List ℕ} → Content s → List Rec
  content_at at (last-data {s = s} d) = text_at at s
  content_at at (child {d = d} {e = e} h i c q) = text_at at d ++ (element_at (at + size d) i ++ content_at (at + size d + size e) c)
  content_at at (beside {d = d} {e = e} h i c q) = text_at at d ++ (beside_at (at + size d) i ∷ content_at (at + size d + size e) c)

-- `<?`, the declaration, `?>`
abbrev pub prolog_at : ℕ → {s : List ℕ} → Prolog s → List Rec
prolog_at at (undeclared m) = miscs_at at m
prolog_at at (declared {d = d} h m) = piece_at kind.other (at + 2) d ∷ miscs_at (at + 2 + size d + 2) m

abbrev pub document_at : ℕ → {s : List ℕ} → Document s → List Rec
document_at at (document {p = p} {e = e} i j m) =
    prolog_at at i ++ (element_at (at + size p) j ++ (miscs_at (at + size p + size e) m ++ (rec kind.eof 0 0 0 0 ∷ [])))

abbrev pub document_attributes : ℕ → {s : List ℕ} → Document s → List Rec
document_attributes at (document {p = p} i j m) = element_attributes (at + size p) j

-- the number of each tag's first attribute, where j attributes stand before; 0 where it has none (rule N4)
abbrev pub numbered : ℕ → List Rec → List Rec
numbered j [] = []
numbered j (rec k at n first count ∷ rs) = rec k at n (unless0 j count) count ∷ numbered (j + count) rs

-- ---- the records of a document that is given as bytes, behind its byte-order mark if it has one (rule N2), and their words
abbrev pub events_placed : {s : List ℕ} → WellFormed s → List Rec
events_placed w = numbered 0 (document_at (length w.front) w.derived)

abbrev pub attributes_placed : {s : List ℕ} → WellFormed s → List Rec
attributes_placed w = document_attributes (length w.front) w.derived

abbrev pub event_words : {s : List ℕ} → WellFormed s → List ℕ
event_words w = flat (events_placed w)

abbrev pub attribute_words : {s : List ℕ} → WellFormed s → List ℕ
attribute_words w = flat (attributes_placed w)
