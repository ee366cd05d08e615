-- How the events of a written report come back from its XML document: with white space before tags, a text in pieces and with its Indent
-- joined to it, other numbers of first attributes, and the last newline before Eof. Definitions only.
use Rattle.std.specs.Prelude.{ℕ, ◌≡◌, List, [], ◌∷◌, ◌++◌, Bool, true, false, ◌||◌, eqb}
use Rattle.read_content.specs.of_area.Answer.{gives}
use Rattle.read_content.specs.of_table.Event.{Attribute, TagKind, Start, Empty, End, PieceKind, Text, Other, Indent, Event, Tag, Piece, Eof}
use Rattle.read_content.specs.of_tree_report.Encode.{every}
use Rattle.read_content.specs.Content.{piece_of}

-- newlines and the spaces of levels (rule W17)
abbrev pub is_white : List ℕ → Bool
is_white w = every (λ (b : ℕ). eqb b 10 || eqb b 32) w

-- a run of character data is one Text, none where it is empty (rule N3)
abbrev pub run : List ℕ → List Event
run [] = []
run (b ∷ s) = Piece Text (b ∷ s) ∷ []

-- pieces, and the text that they join to
pub data Joins : List Event → List ℕ → Type 0 where
  no-piece : Joins [] []
  a_piece : {k : PieceKind} {s v w : List ℕ} {ps : List Event} → piece_of k s ≡ gives v → Joins ps w → Joins (Piece k s ∷ ps) (v ++ w)

abbrev pub opens : TagKind → Bool
opens Start = true
opens Empty = false
opens End = false

-- the written events and those of their document; `fresh` says that a Start comes directly before: only there a text is written
pub data Respelt : (fresh : Bool) → List Event → List Event → Type 0 where
  a-tag : {fresh : Bool} {kind : TagKind} {name : List ℕ} {i : ℕ} {xs : List Attribute} {es fs gs : List Event} (w : List ℕ) (j : ℕ) →
      is_white w ≡ true → Respelt (opens kind) es fs → gs ≡ run w ++ (Tag kind name j xs ∷ fs) → Respelt fresh (Tag kind name i xs ∷ es) gs
  a-text : {s v : List ℕ} {ps es fs gs : List Event} →
      piece_of Text s ≡ gives v → Joins ps v → Respelt false es fs → gs ≡ ps ++ fs → Respelt true (Piece Text s ∷ es) gs
  indented : {s v : List ℕ} {ps es fs gs : List Event} (w : List ℕ) → piece_of Text s ≡ gives v → is_white w ≡ true → Joins ps (v ++ w) → Respelt false es fs →
      gs ≡ ps ++ fs → Respelt true (Piece Text s ∷ Piece Indent (10 ∷ []) ∷ es) gs
  declared : {fresh : Bool} {s : List ℕ} {es fs : List Event} → Respelt false es fs → Respelt fresh (Piece Other s ∷ es) (Piece Other s ∷ fs)
  ended : {fresh : Bool} {gs : List Event} (w : List ℕ) → is_white w ≡ true → gs ≡ run w ++ (Eof ∷ []) → Respelt fresh (Eof ∷ Piece Indent (10 ∷ []) ∷ []) gs
