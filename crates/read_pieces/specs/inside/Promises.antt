-- What gathering a piece of text does. Definitions only.
use Rattle.std.specs.Prelude.{ℕ, ◌≡◌, List, true, length}
use Rattle.fronting.specs.of_refusal.Refusal.{nowhere}
use Rattle.read_scratch.specs.of_table.Event.{piece_kind, piece_bytes}
use Rattle.read_scratch.specs.of_read_element.Outcome.{Place, Rooms}
use Rattle.read_scratch.specs.of_read_state.Control.{Level, Output, gathering, gathers}
use Rattle.read_scratch.specs.of_read_state.inside.Coded.{mode_at}
use Rattle.read_scratch.specs.of_read_state.declared.Mode.{Mode as CodedMode}
use Rattle.read_scratch.specs.of_read_place.Marks.{Marks}
use Rattle.read_scratch.specs.of_read_content.Content.{Content, gather}
use Rattle.read_scratch.specs.of_read_content.declared.Content.{Content as CodedContent}
use Rattle.read_scratch.specs.of_read_content.inside.Holds.{Performed, Holds, Lists, Sized, Performs}

-- where text is gathered, a piece of that event kind is put into scratch, as `gather` says, and reading goes on in the same mode
abbrev pub Gathers : CodedMode → (kind : ℕ) (bytes : List ℕ) → CodedContent → (before after : List ℕ) → Performed → Type 0
Gathers mode kind bytes c before after r =
    (rooms : Rooms) (p : Place) (s : Content) (l : Level) (o : Output) (m : Marks) (words text attributes source : List ℕ) → p.attribute ≡ nowhere
    → gathers (mode_at mode l o) ≡ true
    → Holds words text before attributes source c s
    → Lists (mode_at mode l o) m c s
    → Sized rooms (length words) (length text) (length before)
    → Performs (mode_at mode l o) m p words text after attributes source (gather rooms p (mode_at mode l o) (piece_kind kind) (piece_bytes kind bytes) s) r

-- the same of a child's text behind a description, where a piece of it has no room there
abbrev pub GathersOver : (kind : ℕ) (bytes : List ℕ) → CodedContent → (before after : List ℕ) → Performed → Type 0
GathersOver kind bytes c before after r =
    (rooms : Rooms) (p : Place) (s : Content) (l : Level) (o : Output) (m : Marks) (words text attributes source : List ℕ) → p.attribute ≡ nowhere
    → Holds words text before attributes source c s
    → Lists (gathering l o) m c s
    → Sized rooms (length words) (length text) (length before)
    → Performs (gathering l o) m p words text after attributes source (gather rooms p (gathering l o) (piece_kind kind) (piece_bytes kind bytes) s) r
