-- The program's input (rules P1 and P2). Definitions only.
use Rattle.std.specs.Prelude.{ℕ, zero, suc, ◌+◌, ◌*◌, ◌≤◌, List, [], ◌∷◌, Bool, cond, ◌&&◌, length, get_or, take, drop, leb, Some, None, Option as Maybe}
use Rattle.std.proofs.Math.Option.{Option, none, some}
use Rattle.area.specs.Area.{laid}
use Rattle.list_input.specs.declared.Parts.{Parts}

-- a little-endian word, of the four bytes at the front (rule P1)
abbrev pub word_of : List ℕ → ℕ
word_of s = get_or s 0 0 + get_or s 1 0 * 256 + get_or s 2 0 * 65536 + get_or s 3 0 * 16777216

-- n words, one behind the other
unfoldable pub words_of : ℕ → List ℕ → List ℕ
words_of zero s = []
words_of (suc n) s = word_of s ∷ words_of n (drop 4 s)

-- a table's events and attributes, as words, and its source
pub record Table : Type 0 where
  pub events : List ℕ
  pub attributes : List ℕ
  pub source : List ℕ

-- the three words at the front: how many events, attributes and source bytes (rule P1)
abbrev pub events_in : List ℕ → ℕ
events_in s = word_of s

abbrev pub attributes_in : List ℕ → ℕ
attributes_in s = word_of (drop 4 s)

abbrev pub source_in : List ℕ → ℕ
source_in s = word_of (drop 8 s)

-- where the attributes and the source begin: an event and an attribute are five words of four bytes
abbrev pub attributes_at : List ℕ → ℕ
attributes_at s = 12 + events_in s * 20

abbrev pub source_at : List ℕ → ℕ
source_at s = attributes_at s + attributes_in s * 20

-- nothing is cut off, and each of the three fits its buffer (rule P2): that of the source has 65,536 bytes, and the words of
-- events and attributes go to areas of m and n words
unfoldable pub whole : ℕ → ℕ → List ℕ → Bool
whole m n s =
    leb 12 (length s) && (leb (events_in s * 5) m && (leb (attributes_in s * 5) n && (leb (source_in s) 65536 && leb (source_at s + source_in s) (length s))))

-- what stands behind the three words; anything further is ignored (rule P1)
unfoldable pub input_of : ℕ → ℕ → List ℕ → Option Table
input_of m n s =
    cond (whole m n s)
    (some (record {
      events = words_of (events_in s * 5) (drop 12 s);
      attributes = words_of (attributes_in s * 5) (drop (attributes_at s) s);
      source = take (source_in s) (drop (source_at s) s);
    }))
    none

-- what is answered: how many words of the two areas are used, and where the source begins and how long it is
unfoldable pub parts_in : ℕ → ℕ → List ℕ → Maybe Parts
parts_in m n s = cond (whole m n s) (Some (record { events = events_in s * 5; attributes = attributes_in s * 5; at = source_at s; source = source_in s })) None

-- the two areas afterwards: the words at the front of what was there; as they were where the input is no table
abbrev pub events_left : Option Table → List ℕ → List ℕ
events_left (some t) area = laid area t.events
events_left none area = area

abbrev pub attributes_left : Option Table → List ℕ → List ℕ
attributes_left (some t) area = laid area t.attributes
attributes_left none area = area

-- the table that an answer and the areas stand for: how many words of the two areas, and where the source begins and how long it is
abbrev pub found_of : Maybe Parts → List ℕ → List ℕ → List ℕ → Option Table
found_of (Some x) events attributes s = some (record { events = take x.events events; attributes = take x.attributes attributes; source = take x.source (drop x.at s) })
found_of None events attributes s = none

-- the parts lie in areas of m and n words and an input of k bytes, behind the three numbers
abbrev pub Lies : Maybe Parts → ℕ → ℕ → ℕ → Type 0
Lies (Some x) m n k = (x.events ≤ m) × (x.attributes ≤ n) × (12 ≤ x.at) × (x.at + x.source ≤ k)
Lies None m n k = Unit {0}
