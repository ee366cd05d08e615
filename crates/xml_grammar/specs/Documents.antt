-- The rules of documents over the grammar: bytes that are a document, the first byte that no document has, and where `<!DOCTYPE` is refused.
-- Definitions only.
use Rattle.std.specs.Prelude.{ℕ, ◌≡◌, List, [], ◌∷◌, ◌++◌, length}
use Rattle.names.specs.Bytes.{bytes}
use Rattle.table.specs.Event.{Event}
use Rattle.xml_chars.specs.Bytes.{utf8}
use Rattle.xml_grammar.specs.Grammar.{Document}
use Rattle.xml_grammar.specs.Events.{table_events}

-- a byte-order mark before the document, or none (rule N2)
pub data Mark : List ℕ → Type 0 where
  unmarked : Mark []
  marked : Mark (0xEF ∷ 0xBB ∷ 0xBF ∷ [])

-- bytes that are a document (rule N1)
pub record WellFormed (s : List ℕ) : Type 0 where
  pub front : List ℕ
  pub chars : List ℕ
  pub skipped : Mark front
  pub spelt : s ≡ front ++ utf8 chars
  pub derived : Document chars

-- the events of a document that is given as bytes
abbrev pub events_of : {s : List ℕ} → WellFormed s → List Event
events_of w = table_events w.derived

-- behind p, the bytes r begin with one that no document has there; or they are none, and p alone is no document
abbrev pub Dead : List ℕ → List ℕ → Type 0
Dead p [] = ¬ WellFormed p
Dead p (b ∷ r) = (t : List ℕ) → ¬ WellFormed (p ++ (b ∷ t))

-- q is the place of the first byte that no document has behind those before it, or the length where only more is missing (rule N6)
abbrev pub FirstBad : List ℕ → ℕ → Type 0
FirstBad s q = (p : List ℕ) × (r : List ℕ) × (s ≡ p ++ r) × (length p ≡ q) × ((t : List ℕ) × WellFormed (p ++ t)) × Dead p r

-- where markup may begin: a comment can begin behind p that nothing which p left open could hold, since in an instruction its `?>`
-- and in a section its first `]]>` would be the end, with a `]]>` behind it
abbrev pub OpensMarkup : List ℕ → Type 0
OpensMarkup p = (t : List ℕ) × WellFormed (p ++ (bytes "<!--?>]]>]]>-->" ++ t))

-- `<!DOCTYPE` stands at k, where markup may begin (rule N7)
abbrev pub Doctype : List ℕ → ℕ → Type 0
Doctype s q = (p : List ℕ) × (r : List ℕ) × (s ≡ p ++ (bytes "<!DOCTYPE" ++ r)) × (length p ≡ q) × OpensMarkup p
