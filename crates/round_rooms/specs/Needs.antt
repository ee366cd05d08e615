-- How many records and bytes of text the events of a table take at most. Definitions only.
use Rattle.std.specs.Prelude.{ℕ, ◌+◌, List, [], ◌∷◌, length}
use Rattle.write_report.specs.of_table.Event.{Attribute, Start, Empty, End, Event, Tag, Piece, Eof, Fault}
use Rattle.round_rooms.specs.Pieces.{event_size}

-- an element's record and those of its extras
abbrev pub event_records : Event → ℕ
event_records (Tag Start name first attributes) = 1 + length attributes
event_records (Tag Empty name first attributes) = 1 + length attributes
event_records (Tag End name first attributes) = 0
event_records (Piece kind s) = 0
event_records Eof = 0
event_records Fault = 0

-- the bytes of keys and values
abbrev pub attribute_bytes : List Attribute → ℕ
attribute_bytes [] = 0
attribute_bytes (x ∷ xs) = length x.key + length x.value + attribute_bytes xs

abbrev pub event_bytes : Event → ℕ
event_bytes (Tag kind name first attributes) = attribute_bytes attributes
event_bytes (Piece kind s) = event_size (Piece kind s)
event_bytes Eof = 0
event_bytes Fault = 0

unfoldable pub most_records_of : List Event → ℕ
most_records_of [] = 0
most_records_of (e ∷ es) = event_records e + most_records_of es

unfoldable pub most_text_of : List Event → ℕ
most_text_of [] = 0
most_text_of (e ∷ es) = event_bytes e + most_text_of es
