-- How many bytes a piece gives at most. Definitions only.
use Rattle.std.specs.Prelude.{ℕ, List, length}
use Rattle.write_report.specs.of_table.Event.{PieceKind, Text, CData, Ref, Other, Indent, Event, Tag, Piece, Eof, Fault}

-- an Indent's bytes are the resolved ones, its newline; an Other is no text
abbrev pub piece_size : PieceKind → List ℕ → ℕ
piece_size Text s = length s
piece_size CData s = length s
piece_size Ref s = length s
piece_size Other s = 0
piece_size Indent s = length s

abbrev pub event_size : Event → ℕ
event_size (Tag kind name first attributes) = 0
event_size (Piece kind s) = piece_size kind s
event_size Eof = 0
event_size Fault = 0
