-- A table as bytes, in the form of the program's input (rules P1 and P5). Definitions only.
use Rattle.std.specs.Prelude.{ℕ, ◌/◌, ◌%◌, List, [], ◌∷◌, ◌++◌, length}
use Rattle.write_table.specs.Laid.{Table}

-- four bytes, the low one first (rule P1)
abbrev pub word_bytes : ℕ → List ℕ
word_bytes w = w % 256 ∷ w / 256 % 256 ∷ w / 65536 % 256 ∷ w / 16777216 % 256 ∷ []

-- words, one behind the other
unfoldable pub words_bytes : List ℕ → List ℕ
words_bytes [] = []
words_bytes (w ∷ ws) = word_bytes w ++ words_bytes ws

-- in the form of rule P1, as rule P5 has it; an event and an attribute are five words
unfoldable pub table_bytes : Table → List ℕ
table_bytes t =
    word_bytes (length t.events / 5) ++ word_bytes (length t.attributes / 5) ++ word_bytes (length t.bytes)
    ++ words_bytes t.events ++ words_bytes t.attributes ++ t.bytes
