-- How many bytes the pieces of events come to, which no gathered text exceeds. Definitions only.
use Rattle.std.specs.Prelude.{ℕ, ◌+◌, List, [], ◌∷◌}
use Rattle.write_report.specs.of_table.Event.{Event}
use Rattle.round_rooms.specs.Pieces.{event_size}

unfoldable pub pieces : List Event → ℕ
pieces [] = 0
pieces (e ∷ es) = event_size e + pieces es
