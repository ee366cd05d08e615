-- The three areas that hold a list of events (rules W12 and W13). Definitions only.
use Rattle.std.specs.Prelude.{ℕ, ◌+◌, ◌*◌, min, List, [], ◌∷◌, ◌++◌, Bool, cond, ◌&&◌, length, leb, eqb}
use Rattle.write_spelled.specs.of_area.Limits.{most_entries, most_bytes}
use Rattle.write_spelled.specs.of_table.Kinds as kind
use Rattle.write_spelled.specs.of_table.Event.{Attribute, TagKind, Start, Empty, End, PieceKind, Text, CData, Ref, Other, Indent, Event, Tag, Piece, Eof, Fault}

-- the number of a kind
abbrev pub tag_number : TagKind → ℕ
tag_number Start = kind.start
tag_number Empty = kind.empty
tag_number End = kind.end

abbrev pub piece_number : PieceKind → ℕ
piece_number Text = kind.text
piece_number CData = kind.cdata
piece_number Ref = kind.ref
piece_number Other = kind.other
piece_number Indent = kind.indent

-- an Indent has length 0 (rule W7)
abbrev pub piece_bytes : PieceKind → List ℕ → List ℕ
piece_bytes Text s = s
piece_bytes CData s = s
piece_bytes Ref s = s
piece_bytes Other s = s
piece_bytes Indent s = []

-- what is laid out, in order: an event with its bytes and the number of its attributes, and each attribute behind its event
pub data Item : Type 0 where
  entry : ℕ → List ℕ → ℕ → Item
  pair : List ℕ → List ℕ → Item

abbrev pub pairs_of_it : List Attribute → List Item
pairs_of_it [] = []
pairs_of_it (a ∷ rest) = pair a.key a.value ∷ pairs_of_it rest

abbrev pub items_of_event : Event → List Item
items_of_event (Tag k name first attributes) = entry (tag_number k) name (length attributes) ∷ pairs_of_it attributes
items_of_event (Piece k s) = entry (piece_number k) (piece_bytes k s) 0 ∷ []
items_of_event Eof = entry kind.eof [] 0 ∷ []
items_of_event Fault = entry kind.fault [] 0 ∷ []

unfoldable pub items_of : List Event → List Item
items_of [] = []
items_of (e ∷ es) = items_of_event e ++ items_of es

-- 0 without length or count (rule W12)
abbrev pub place : ℕ → ℕ → ℕ
place n at = cond (eqb n 0) 0 at

-- five words each, with a attributes and b bytes before (rule W12)
abbrev pub entry_words : ℕ → ℕ → ℕ → List ℕ → ℕ → List ℕ
entry_words a b k s n = k ∷ place (length s) b ∷ length s ∷ place n a ∷ n ∷ []

-- rule W12
abbrev pub pair_words : ℕ → List ℕ → List ℕ → List ℕ
pair_words b key value = 0 ∷ place (length key) b ∷ length key ∷ place (length value) (b + length key) ∷ length value ∷ []

unfoldable pub event_words : ℕ → ℕ → List Item → List ℕ
event_words a b [] = []
event_words a b (entry k s n ∷ is) = entry_words a b k s n ++ event_words a (b + length s) is
event_words a b (pair key value ∷ is) = event_words (a + 1) (b + length (key ++ value)) is

unfoldable pub attribute_words : ℕ → List Item → List ℕ
attribute_words b [] = []
attribute_words b (entry k s n ∷ is) = attribute_words (b + length s) is
attribute_words b (pair key value ∷ is) = pair_words b key value ++ attribute_words (b + length (key ++ value)) is

-- one directly behind the other, nothing shared (rule W12)
unfoldable pub laid_bytes : List Item → List ℕ
laid_bytes [] = []
laid_bytes (entry k s n ∷ is) = s ++ laid_bytes is
laid_bytes (pair key value ∷ is) = (key ++ value) ++ laid_bytes is

pub record Table : Type 0 where
  pub events : List ℕ
  pub attributes : List ℕ
  pub bytes : List ℕ

-- rule W12
unfoldable pub laid_out : List Event → Table
laid_out es = record { events = event_words 0 0 (items_of es); attributes = attribute_words 0 (items_of es); bytes = laid_bytes (items_of es) }

-- the table in areas of so many words, words and bytes, used up to the limits (rule W13)
abbrev pub fits : Table → ℕ → ℕ → ℕ → Bool
fits t events attributes bytes =
    leb (length t.events) (min events (most_entries * 5))
    && (leb (length t.attributes) (min attributes (most_entries * 5)) && leb (length t.bytes) (min bytes most_bytes))
