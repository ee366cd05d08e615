-- Events as the bytes of an XML document (rules W17 to W19). Definitions only.
use Rattle.std.specs.Prelude.{ℕ, ◌+◌, ◌-◌, ◌*◌, List, [], ◌∷◌, ◌++◌, Bool, true, false, cond, replicate}
use Rattle.names.specs.Bytes.{bytes}
use Rattle.table.specs.Event.{Attribute, Start, Empty, End, Text, CData, Ref, Other, Indent, Event, Tag, Piece, Eof, Fault}

-- four spaces a level (rule W17)
abbrev pub newline : ℕ → List ℕ
newline level = 10 ∷ replicate (level * 4) 32

-- a tag begins a line, unless it comes first or directly behind Text or Indent (rule W17)
abbrev pub line : ℕ → Bool → List ℕ
line level breaks = cond breaks (newline level) []

-- rule W18: the value is escaped already, the key is not (rule W8)
abbrev pub attribute_text : Attribute → List ℕ
attribute_text a = (bytes " " ++ (a.key ++ bytes "=\"")) ++ (a.value ++ bytes "\"")

abbrev pub attributes_text : List Attribute → List ℕ
attributes_text [] = []
attributes_text (a ∷ rest) = attribute_text a ++ attributes_text rest

-- the bytes of events, with so many elements open; `breaks` says whether a tag would begin a line
unfoldable pub spelled : (level : ℕ) (breaks : Bool) → List Event → List ℕ
spelled level breaks [] = []
spelled level breaks (Tag Start name first attributes ∷ es) =
    line level breaks ++ (bytes "<" ++ (name ++ (attributes_text attributes ++ (bytes ">" ++ spelled (level + 1) true es))))
spelled level breaks (Tag Empty name first attributes ∷ es) =
    line level breaks ++ (bytes "<" ++ (name ++ (attributes_text attributes ++ (bytes "/>" ++ spelled level true es))))
-- written without attributes (rule W18)
spelled level breaks (Tag End name first attributes ∷ es) =
    line (level - 1) breaks ++ (bytes "</" ++ (name ++ (attributes_text attributes ++ (bytes ">" ++ spelled (level - 1) true es))))
spelled level breaks (Piece Other s ∷ es) = line level breaks ++ (bytes "<?" ++ (s ++ (bytes "?>" ++ spelled level true es)))
-- also where it is empty; CData and Ref are never written
spelled level breaks (Piece Text s ∷ es) = s ++ spelled level false es
spelled level breaks (Piece CData s ∷ es) = s ++ spelled level false es
spelled level breaks (Piece Ref s ∷ es) = s ++ spelled level false es
-- the next tag follows directly
spelled level breaks (Piece Indent s ∷ es) = newline level ++ spelled level false es
-- these have no bytes; Fault is never written
spelled level breaks (Eof ∷ es) = spelled level breaks es
spelled level breaks (Fault ∷ es) = spelled level breaks es
