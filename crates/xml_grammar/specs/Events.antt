-- The events that a derivation gives, resolved (rules N3 and N4). Definitions only.
use Rattle.std.specs.Prelude.{ℕ, ◌+◌, List, [], ◌∷◌, ◌++◌, true, length}
use Rattle.table.specs.Event.{Attribute, Event, Tag, Piece, Eof, Fault, Start, Empty, End, Text, CData, Ref, Other}
use Rattle.xml_chars.specs.Bytes.{utf8}
use Rattle.xml_grammar.specs.Grammar.{Attributes, no-attribute, attribute, Misc, comment, instruction, Miscs, last-space, misc, Beside, reference, section, aside, Element, empty, pair, Content, last-data, child, beside, Prolog, undeclared, declared, Document, document}

-- a run of character data, or of white space outside the root, is one Text (rule N3)
abbrev pub text_of : List ℕ → List Event
text_of [] = []
text_of (c ∷ s) = Piece Text (utf8 (c ∷ s)) ∷ []

-- values stay raw, marks are 0 (rule N4)
abbrev pub attributes_of : {s : List ℕ} → Attributes s → List Attribute
attributes_of (no-attribute w) = []
attributes_of (attribute {k = k} {v = v} w n x y q i a) = record { good = true; key = utf8 k; value = utf8 v } ∷ attributes_of a

-- an Other, with what stands between the opening and the closing marks (rule N3)
abbrev pub misc_of : {s : List ℕ} → Misc s → Event
misc_of (comment {s = s} r) = Piece Other (utf8 s)
misc_of (instruction {s = s} i) = Piece Other (utf8 s)

abbrev pub miscs_of : {s : List ℕ} → Miscs s → List Event
miscs_of (last-space {w = w} s) = text_of w
miscs_of (misc {w = w} s e m) = text_of w ++ (misc_of e ∷ miscs_of m)

-- a reference is one Ref (rule N3)
abbrev pub beside_of : {s : List ℕ} → Beside s → Event
beside_of (reference {n = n} r) = Piece Ref (utf8 n)
beside_of (section {s = s} c l) = Piece CData (utf8 s)
beside_of (aside m) = misc_of m

unfoldable mutual
  pub element_of : {s : List ℕ} → Element s → List Event
  element_of (empty {n = n} i a e) = Tag Empty (utf8 n) 0 (attributes_of a) ∷ []
  element_of (pair {n = n} i a c w e) = Tag Start (utf8 n) 0 (attributes_of a) ∷ (content_of c ++ (Tag End (utf8 n) 0 [] ∷ []))

  pub content_of : {s : List ℕ} → Content s → List Event
  content_of (last-data {s = s} d) = text_of s
  content_of (child {d = d} h e c q) = text_of d ++ (element_of e ++ content_of c)
  content_of (beside {d = d} h e c q) = text_of d ++ (beside_of e ∷ content_of c)

abbrev pub prolog_of : {s : List ℕ} → Prolog s → List Event
prolog_of (undeclared m) = miscs_of m
prolog_of (declared {d = d} h m) = Piece Other (utf8 d) ∷ miscs_of m

-- Eof ends the table
abbrev pub document_of : {s : List ℕ} → Document s → List Event
document_of (document p e m) = prolog_of p ++ (element_of e ++ (miscs_of m ++ (Eof ∷ [])))

-- the number of each tag's first attribute, where j attributes stand before; 0 where it has none (rule N4)
abbrev pub numbered : ℕ → List Event → List Event
numbered j [] = []
numbered j (Tag k n f [] ∷ es) = Tag k n 0 [] ∷ numbered j es
numbered j (Tag k n f (a ∷ more) ∷ es) = Tag k n j (a ∷ more) ∷ numbered (j + length (a ∷ more)) es
numbered j (Piece k s ∷ es) = Piece k s ∷ numbered j es
numbered j (Eof ∷ es) = Eof ∷ numbered j es
numbered j (Fault ∷ es) = Fault ∷ numbered j es

-- what the table of a document resolves to (rule N3)
abbrev pub table_events : {s : List ℕ} → Document s → List Event
table_events d = numbered 0 (document_of d)
