-- What is kept, dropped and refused, at small inputs. Assumes nothing.
use Prim.Native.Nat.{ℕ}
use mathlib.Core.Path.{◌≡◌, refl}
use mathlib.Core.Bool.{true, false}
use mathlib.Core.List.{List, [], ◌∷◌, ◌++◌}
use mathlib.Core.Option.{some}
use Rattle.trim.specs.of_area.Area.{zeros}
use Rattle.trim.specs.of_utf8.Utf8 as utf8
use Rattle.trim.specs.of_refusal.Refusal.{nowhere, accepted}
use Rattle.read_rules.specs.of_table.Event.{Indent}
use Rattle.read_rules.specs.of_tree_record.Record.{marked}
use Rattle.read_attributes.specs.of_read_element.Outcome.{◌>>=◌, Place, refused_at, there, need, Rooms, fits}
use Rattle.read_place.specs.of_read_state.Control.{status, out, at}
use Rattle.read_place.specs.Marks.{Marks, marks}
use Rattle.read_content.specs.Content.{Content, takes, cleaned, piece_of, gather, keeping, outputting}
use Rattle.trim.specs.of_refusal.declared.Cause.TheVariants as cause

-- U+0001, space, a: U+0001 isn't white space, so that the space stays; filtered first, it would go
trimmed-first : cleaned (0x01 ∷ 0x20 ∷ 0x61 ∷ []) ≡ 0x20 ∷ 0x61 ∷ []
unfolding utf8.need utf8.low utf8.high
trimmed-first = refl

-- an open status element of a kind
abbrev of : ℕ → Marks
of k = marks 7 0 1 0 2 k 0 1 2 3

-- `skipped` is the last main, `flakyFailure` the first run
main-drops : takes status (of 8) ≡ false
main-drops = refl

run-takes : takes status (of 9) ≡ true
run-takes = refl

-- one byte of scratch, which the description takes or leaves to a newline
abbrev rooms : Rooms
rooms = record { records = some 4; text = some 9; scratch = some 1 }

abbrev here : Place
here = record { path = []; event = 7; attribute = nowhere }

abbrev bare : Content
bare = record { records = []; texts = []; description = []; gathered = [] }

abbrev full : Content
full = record { records = []; texts = []; description = 0x61 ∷ []; gathered = [] }

newline-fits : gather rooms here (at status) Indent (0x0A ∷ []) bare ≡ accepted (record { records = []; texts = []; description = 0x0A ∷ []; gathered = [] })
unfolding gather piece_of there ◌>>=◌ need fits
newline-fits = refl

-- short of scratch, not of output
newline-over : gather rooms here (at status) Indent (0x0A ∷ []) full ≡ refused_at here cause.ScratchFull
unfolding gather piece_of there ◌>>=◌ need fits
newline-over = refl

-- an Empty output is kept empty on a run and dropped on a main; the open description stays
abbrev one : ℕ → List ℕ → Content
one k words = record { records = (k ∷ words ++ zeros 26) ∷ []; texts = 0x61 ∷ []; description = 0x62 ∷ []; gathered = [] }

abbrev alone : ℕ → Marks
alone k = marks 7 0 1 0 2 k 0 0 0 0

empty-on-run : outputting rooms here status out (alone 9) (one 9 (0 ∷ 0 ∷ 0 ∷ 0 ∷ 0 ∷ [])) ≡ accepted (one 9 (2 ∷ 0 ∷ 0 ∷ 1 ∷ 0 ∷ []))
unfolding outputting keeping marked ◌>>=◌ need fits
empty-on-run = refl

empty-on-main : outputting rooms here status out (alone 6) (one 6 (0 ∷ 0 ∷ 0 ∷ 0 ∷ 0 ∷ [])) ≡ accepted (one 6 (0 ∷ 0 ∷ 0 ∷ 0 ∷ 0 ∷ []))
unfolding outputting keeping marked ◌>>=◌ need fits
empty-on-main = refl
