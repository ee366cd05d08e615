-- Small tables as bytes. Assumes nothing.
use mathlib.Core.Path.{◌≡◌, refl}
use mathlib.Core.List.{[], ◌∷◌}
use mathlib.Core.Option.{some}
use Rattle.list_input.specs.Input as input
use Rattle.write_table.specs.Laid.{Table}
use Rattle.write_words.specs.Bytes.{word_bytes, words_bytes, table_bytes}

-- the low byte first
low_first : word_bytes 67305985 ≡ 1 ∷ 2 ∷ 3 ∷ 4 ∷ []
low_first = refl

-- an event with an attribute, of one byte
abbrev one : Table
one = record { events = 1 ∷ 0 ∷ 1 ∷ 0 ∷ 1 ∷ []; attributes = 0 ∷ 0 ∷ 258 ∷ 0 ∷ 0 ∷ []; bytes = 97 ∷ [] }

one-printed : table_bytes one ≡
    1 ∷ 0 ∷ 0 ∷ 0 ∷ 1 ∷ 0 ∷ 0 ∷ 0 ∷ 1 ∷ 0 ∷ 0 ∷ 0
    ∷ 1 ∷ 0 ∷ 0 ∷ 0 ∷ 0 ∷ 0 ∷ 0 ∷ 0 ∷ 1 ∷ 0 ∷ 0 ∷ 0 ∷ 0 ∷ 0 ∷ 0 ∷ 0 ∷ 1 ∷ 0 ∷ 0 ∷ 0
    ∷ 0 ∷ 0 ∷ 0 ∷ 0 ∷ 0 ∷ 0 ∷ 0 ∷ 0 ∷ 2 ∷ 1 ∷ 0 ∷ 0 ∷ 0 ∷ 0 ∷ 0 ∷ 0 ∷ 0 ∷ 0 ∷ 0 ∷ 0
    ∷ 97 ∷ []
unfolding table_bytes words_bytes
one-printed = refl

-- as an input it holds the same table
one-back : input.input_of 16384 16384 (table_bytes one) ≡ some (record { events = one.events; attributes = one.attributes; source = one.bytes })
unfolding table_bytes words_bytes input.input_of input.whole input.words_of
one-back = refl
