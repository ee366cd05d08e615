-- What the events of an open status element add to its description, up to the End that closes it (rule X11). Definitions only.
use Rattle.std.specs.Prelude.{ℕ, List, [], ◌∷◌, ◌++◌, true}
use Rattle.read_pieces.specs.of_area.Answer.{Answer, gives, refuses}
use Rattle.read_pieces.specs.of_table.Event.{PieceKind, Event, Tag, Piece, Eof, Fault}
use Rattle.read_pieces.specs.of_read_state.Control.{Mode, at, gathering, listing, skipping, finished}
use Rattle.read_pieces.specs.of_read_state.Control.{Act, pass, open_report, open_suite, open_case, open_status, close_suite, close_case, close_status, open_text, close_text, open_list, read_property, stop, missing, broken}
use Rattle.read_pieces.specs.of_read_rules.Rules.{plan_at}
use Rattle.read_machine.specs.of_read_content.Content.{piece_of}

-- a piece that is refused adds nothing: where one goes over the events again, none is
abbrev pub given : Answer (List ℕ) → List ℕ
given (gives v) = v
given (refuses why) = []

-- a piece that stands in the element itself, and not in a child
abbrev pub added : Mode → PieceKind → List ℕ → List ℕ
added (at l) k s = given (piece_of k s)
added (gathering l o) k s = []
added (listing l) k s = []
added (skipping m name depth) k s = []
added finished k s = []

-- on in the mode that an act leads to; the End that closes the element ends its description. Its events have no other acts.
abbrev pub along : Act → (Mode → List ℕ) → List ℕ
along (pass m) f = f m
along (open_text l o) f = f (gathering l o)
along (close_text l o) f = f (at l)
along close_status f = []
along (open_report e) f = []
along (open_suite e) f = []
along (open_case e) f = []
along (open_status k e) f = []
along close_suite f = []
along close_case f = []
along (open_list l e) f = []
along (read_property l e name) f = []
along stop f = []
along missing f = []
along (broken why) f = []

unfoldable pub told : Mode → List Event → List ℕ
told m [] = []
told m (Piece k s ∷ es) = added m k s ++ told m es
told m (Tag k name j xs ∷ es) = along (plan_at m true k name) λ n. told n es
told m (Eof ∷ es) = []
told m (Fault ∷ es) = []
