-- The public part of a table, and when two tables agree (rules L1, L2). Definitions only.
use Rattle.std.specs.Prelude.{ℕ, ◌≡◌, List, [], ◌∷◌, map, Bool, cond}
use Rattle.read_report.specs.of_names.Keys.{key_of, is_public}
use Rattle.read_report.specs.of_refusal.Refusal.{accepted}
use Rattle.read_report.specs.of_table.Event.{Attribute, TagKind, Event, Tag, Piece, Eof, Fault, resolve}
use Rattle.read_report.specs.of_table.Table.{table_of}

-- whether a key is public: the table of keys says so
abbrev pub is_public_key : List ℕ → Bool
is_public_key key = is_public (key_of key)

-- mark and key stay, the value only under a public key (rule L2)
abbrev pub blanked : Attribute → Attribute
blanked x = record { good = x.good; key = x.key; value = cond (is_public_key x.key) x.value [] }

-- of a tag kind, name and attributes; Eof and Fault without their bytes. Start and Empty are two kinds, whatever they are read as.
pub data PublicEvent : Type 0 where
  PublicTag : TagKind → List ℕ → List Attribute → PublicEvent
  PublicEof PublicFault : PublicEvent

-- Text, CData, Ref, Other and Indent are left out (rule L2)
abbrev pub public : List Event → List PublicEvent
public [] = []
public (Tag k name j xs ∷ es) = PublicTag k name (map blanked xs) ∷ public es
public (Piece k bytes ∷ es) = public es
public (Eof ∷ es) = PublicEof ∷ public es
public (Fault ∷ es) = PublicFault ∷ public es

-- what is left is equal
abbrev pub agree : List Event → List Event → Type 0
agree es fs = public es ≡ public fs

-- a table that 11 refuses agrees with any (rule L2)
abbrev pub TablesAgree : List ℕ → List ℕ → List ℕ → List ℕ → List ℕ → List ℕ → Type 0
TablesAgree events attributes source events' attributes' source' =
    table_of events attributes source ≡ accepted tt → table_of events' attributes' source' ≡ accepted tt →
    agree (resolve events attributes source) (resolve events' attributes' source')
