-- A resolved event: what all later definitions read. Definitions only.
use Rattle.std.specs.Prelude.{ℕ, zero, suc, ◌+◌, List, [], ◌∷◌, Bool, cond, eqb}
use Rattle.table.specs.Kinds as kind
use Rattle.table.specs.Table.{word, count_of}
-- the bytes of a range
pub use Rattle.table_parts.specs.Parts.{part}

-- an attribute: whether its mark is good, and the bytes of its key and value
pub record Attribute : Type 0 where
  pub good : Bool
  pub key : List ℕ
  pub value : List ℕ

pub data TagKind : Type 0 where
  Start Empty End : TagKind

pub data PieceKind : Type 0 where
  Text CData Ref Other Indent : PieceKind

-- a tag has its name, the number of its first attribute in the table, and its attributes
pub data Event : Type 0 where
  Tag : TagKind → List ℕ → ℕ → List Attribute → Event
  Piece : PieceKind → List ℕ → Event
  Eof Fault : Event

abbrev pub kind_at : List ℕ → ℕ → ℕ
kind_at events i = word events i 0

-- rule T1
abbrev pub bytes_at : List ℕ → List ℕ → ℕ → List ℕ
bytes_at events source i = part source (word events i 1) (word events i 2)

-- 0 is good (rule T2)
abbrev pub mark_at : List ℕ → ℕ → Bool
mark_at attributes j = eqb (word attributes j 0) 0

-- rule T2
abbrev pub key_at : List ℕ → List ℕ → ℕ → List ℕ
key_at attributes source j = part source (word attributes j 1) (word attributes j 2)

-- rule T2
abbrev pub value_at : List ℕ → List ℕ → ℕ → List ℕ
value_at attributes source j = part source (word attributes j 3) (word attributes j 4)

-- rule T2
abbrev pub attribute_at : List ℕ → List ℕ → ℕ → Attribute
attribute_at attributes source j = record { good = mark_at attributes j; key = key_at attributes source j; value = value_at attributes source j }

-- n attributes from number j on
unfoldable pub attributes_from : List ℕ → List ℕ → ℕ → ℕ → List Attribute
attributes_from attributes source zero j = []
attributes_from attributes source (suc n) j = attribute_at attributes source j ∷ attributes_from attributes source n (j + 1)

-- the kind of an event that is a tag, and of one that is a piece
abbrev pub tag_kind : ℕ → TagKind
tag_kind k = cond (eqb k kind.start) Start (cond (eqb k kind.empty) Empty End)

abbrev pub piece_kind : ℕ → PieceKind
piece_kind k = cond (eqb k kind.text) Text (cond (eqb k kind.cdata) CData (cond (eqb k kind.ref) Ref (cond (eqb k kind.indent) Indent Other)))

-- an Indent's own bytes are never read (rule T4)
abbrev pub piece_bytes : ℕ → List ℕ → List ℕ
piece_bytes k bytes = cond (eqb k kind.indent) (10 ∷ []) bytes

-- rule T3
unfoldable pub event_of : ℕ → List ℕ → ℕ → List Attribute → Event
event_of k bytes first attributes =
    cond (eqb k kind.start) (Tag Start bytes first attributes)
    (cond (eqb k kind.empty) (Tag Empty bytes first attributes)
    (cond (eqb k kind.end) (Tag End bytes 0 [])
    (cond (eqb k kind.text) (Piece Text bytes)
    (cond (eqb k kind.cdata) (Piece CData bytes)
    (cond (eqb k kind.ref) (Piece Ref bytes)
    (cond (eqb k kind.other) (Piece Other bytes)
    (cond (eqb k kind.eof) Eof
    (cond (eqb k kind.fault) Fault (Piece Indent (10 ∷ []))))))))))

unfoldable pub event_at : List ℕ → List ℕ → List ℕ → ℕ → Event
event_at events attributes source i =
    event_of (kind_at events i) (bytes_at events source i) (word events i 3) (attributes_from attributes source (word events i 4) (word events i 3))

-- n events from number i on
unfoldable pub resolve_from : List ℕ → List ℕ → List ℕ → ℕ → ℕ → List Event
resolve_from events attributes source zero i = []
resolve_from events attributes source (suc n) i = event_at events attributes source i ∷ resolve_from events attributes source n (i + 1)

unfoldable pub resolve : List ℕ → List ℕ → List ℕ → List Event
resolve events attributes source = resolve_from events attributes source (count_of events) 0
