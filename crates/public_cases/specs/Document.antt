-- A document by its tags, and its table (rules T1 to T4): the source is the document's text, and words say where in it names, keys,
-- values and texts stand. Definitions only.
use Rattle.std.specs.Prelude.{ℕ, ◌+◌, List, [], ◌∷◌, ◌++◌, length}
use Prim.Native.String.{String}
use Rattle.public_claims.specs.of_names.Bytes.{bytes}

-- an attribute: the bytes of its key and value
pub record Named : Type 0 where
  pub key : List ℕ
  pub value : List ℕ

infix 90 ◌≔◌
abbrev pub ◌≔◌ : String → String → Named
◌≔◌ k v = record { key = bytes k; value = bytes v }

pub data Markup : Type 0 where
  start empty : String → List Named → Markup
  end text cdata ref comment : String → Markup
  indent : Markup

-- ---- the source
abbrev pub named_text : Named → List ℕ
named_text x = bytes " " ++ (x.key ++ (bytes "=\"" ++ (x.value ++ bytes "\"")))

abbrev pub named_texts : List Named → List ℕ
named_texts [] = []
named_texts (x ∷ xs) = named_text x ++ named_texts xs

abbrev pub markup_text : Markup → List ℕ
markup_text (start n xs) = bytes "<" ++ (bytes n ++ (named_texts xs ++ bytes ">"))
markup_text (empty n xs) = bytes "<" ++ (bytes n ++ (named_texts xs ++ bytes "/>"))
markup_text (end n) = bytes "</" ++ (bytes n ++ bytes ">")
markup_text (text s) = bytes s
markup_text (cdata s) = bytes "<![CDATA[" ++ (bytes s ++ bytes "]]>")
markup_text (ref s) = bytes "&" ++ (bytes s ++ bytes ";")
markup_text (comment s) = bytes "<!--" ++ (bytes s ++ bytes "-->")
markup_text indent = bytes "\n"

abbrev pub source_of : List Markup → List ℕ
source_of [] = []
source_of (m ∷ ms) = markup_text m ++ source_of ms

-- ---- events
abbrev pub size : String → ℕ
size s = length (bytes s)

abbrev pub named_of : Markup → List Named
named_of (start n xs) = xs
named_of (empty n xs) = xs
named_of (end n) = []
named_of (text s) = []
named_of (cdata s) = []
named_of (ref s) = []
named_of (comment s) = []
named_of indent = []

-- the number of the first attribute, j, where there is one
abbrev pub first : ℕ → List Named → ℕ
first j [] = 0
first j (x ∷ xs) = j

-- five words (rules T1 and T3); the text of the tag begins at place p of the source, j attributes come before it
abbrev pub event : ℕ → ℕ → Markup → List ℕ
event p j (start n xs) = 0 ∷ (p + 1) ∷ size n ∷ first j xs ∷ length xs ∷ []
event p j (empty n xs) = 1 ∷ (p + 1) ∷ size n ∷ first j xs ∷ length xs ∷ []
event p j (end n) = 2 ∷ (p + 2) ∷ size n ∷ 0 ∷ 0 ∷ []
event p j (text s) = 3 ∷ p ∷ size s ∷ 0 ∷ 0 ∷ []
event p j (cdata s) = 4 ∷ (p + 9) ∷ size s ∷ 0 ∷ 0 ∷ []
event p j (ref s) = 5 ∷ (p + 1) ∷ size s ∷ 0 ∷ 0 ∷ []
event p j (comment s) = 6 ∷ (p + 4) ∷ size s ∷ 0 ∷ 0 ∷ []
event p j indent = 9 ∷ p ∷ 0 ∷ 0 ∷ 0 ∷ []

-- the last event is Eof, kind 7
abbrev pub events_from : ℕ → ℕ → List Markup → List ℕ
events_from p j [] = 7 ∷ 0 ∷ 0 ∷ 0 ∷ 0 ∷ []
events_from p j (m ∷ ms) = event p j m ++ events_from (p + length (markup_text m)) (j + length (named_of m)) ms

abbrev pub events_of : List Markup → List ℕ
events_of ms = events_from 0 0 ms

-- ---- attributes
-- five words each (rule T2); the text of the first begins, with its space, at place p of the source
abbrev pub named_from : ℕ → List Named → List ℕ
named_from p [] = []
named_from p (x ∷ xs) = 0 ∷ (p + 1) ∷ length x.key ∷ (p + length x.key + 3) ∷ length x.value ∷ named_from (p + length (named_text x)) xs

-- how many bytes of a tag's text stand before its attributes
abbrev pub before : Markup → ℕ
before (start n xs) = size n + 1
before (empty n xs) = size n + 1
before (end n) = 0
before (text s) = 0
before (cdata s) = 0
before (ref s) = 0
before (comment s) = 0
before indent = 0

abbrev pub attributes_from : ℕ → List Markup → List ℕ
attributes_from p [] = []
attributes_from p (m ∷ ms) = named_from (p + before m) (named_of m) ++ attributes_from (p + length (markup_text m)) ms

abbrev pub attributes_of : List Markup → List ℕ
attributes_of ms = attributes_from 0 ms
