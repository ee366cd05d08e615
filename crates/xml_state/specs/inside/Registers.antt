-- The code's registers with one of them changed. Definitions only.
use Rattle.std.specs.Prelude.{ℕ}
use Rattle.xml_state.specs.declared.Part.{Part}
use Rattle.xml_state.specs.declared.class.Class.TheVariants.{Any}
use Rattle.xml_state.specs.inside.Parts.{lead_of}
use Rattle.xml_state.specs.inside.Rows as row
use Rattle.xml_state.specs.declared.State.{State}

abbrev pub in_mode : ℕ → State → State
in_mode x s = record { mode = x; home = s.home; then = s.then; word = s.word; mark = s.mark; name = s.name; long = s.long; key = s.key; wide = s.wide; first = s.first; kept = s.kept; top = s.top; count = s.count; part = s.part }

abbrev pub at_home : ℕ → State → State
at_home x s = record { mode = s.mode; home = x; then = s.then; word = s.word; mark = s.mark; name = s.name; long = s.long; key = s.key; wide = s.wide; first = s.first; kept = s.kept; top = s.top; count = s.count; part = s.part }

abbrev pub to_then : ℕ → State → State
to_then x s = record { mode = s.mode; home = s.home; then = x; word = s.word; mark = s.mark; name = s.name; long = s.long; key = s.key; wide = s.wide; first = s.first; kept = s.kept; top = s.top; count = s.count; part = s.part }

abbrev pub at_word : ℕ → State → State
at_word x s = record { mode = s.mode; home = s.home; then = s.then; word = x; mark = s.mark; name = s.name; long = s.long; key = s.key; wide = s.wide; first = s.first; kept = s.kept; top = s.top; count = s.count; part = s.part }

abbrev pub at_mark_of : ℕ → State → State
at_mark_of x s = record { mode = s.mode; home = s.home; then = s.then; word = s.word; mark = x; name = s.name; long = s.long; key = s.key; wide = s.wide; first = s.first; kept = s.kept; top = s.top; count = s.count; part = s.part }

abbrev pub with_first_of : ℕ → State → State
with_first_of x s = record { mode = s.mode; home = s.home; then = s.then; word = s.word; mark = s.mark; name = s.name; long = s.long; key = s.key; wide = s.wide; first = x; kept = s.kept; top = s.top; count = s.count; part = s.part }

abbrev pub with_kept : ℕ → State → State
with_kept x s = record { mode = s.mode; home = s.home; then = s.then; word = s.word; mark = s.mark; name = s.name; long = s.long; key = s.key; wide = s.wide; first = s.first; kept = x; top = s.top; count = s.count; part = s.part }

abbrev pub with_top : ℕ → State → State
with_top x s = record { mode = s.mode; home = s.home; then = s.then; word = s.word; mark = s.mark; name = s.name; long = s.long; key = s.key; wide = s.wide; first = s.first; kept = s.kept; top = x; count = s.count; part = s.part }

abbrev pub with_count : ℕ → State → State
with_count x s = record { mode = s.mode; home = s.home; then = s.then; word = s.word; mark = s.mark; name = s.name; long = s.long; key = s.key; wide = s.wide; first = s.first; kept = s.kept; top = s.top; count = x; part = s.part }

abbrev pub with_name : ℕ → ℕ → State → State
with_name x y s = record { mode = s.mode; home = s.home; then = s.then; word = s.word; mark = s.mark; name = x; long = y; key = s.key; wide = s.wide; first = s.first; kept = s.kept; top = s.top; count = s.count; part = s.part }

abbrev pub with_key : ℕ → ℕ → State → State
with_key x y s = record { mode = s.mode; home = s.home; then = s.then; word = s.word; mark = s.mark; name = s.name; long = s.long; key = x; wide = y; first = s.first; kept = s.kept; top = s.top; count = s.count; part = s.part }

abbrev pub with_part : Part → State → State
with_part p s = record { mode = s.mode; home = s.home; then = s.then; word = s.word; mark = s.mark; name = s.name; long = s.long; key = s.key; wide = s.wide; first = s.first; kept = s.kept; top = s.top; count = s.count; part = p }

abbrev pub beginning : State
beginning = record { mode = row.begin; home = row.text_before; then = 0; word = 0; mark = 0; name = 0; long = 0; key = 0; wide = 0; first = 0; kept = 0; top = 0; count = 0; part = lead_of Any 0 }
