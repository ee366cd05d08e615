-- Instants by a table of days that is lent. Definitions only.
use Rattle.std.specs.Prelude.{ℕ, ◌+◌, ◌-◌, ◌*◌, List}
use Rattle.timestamp.specs.declared.Moment.{Moment}
use Rattle.days.specs.Dates.{days_before_month}
use Rattle.days.specs.inside.Table.{days_by}
use Rattle.instant.specs.declared.Instant.{Instant}
use Rattle.instant.specs.Instant.{clock_of}

-- of a moment in a year with so many days before it
unfoldable pub instant_from : ℕ → Moment → Instant
instant_from before m =
    let day = before + (days_before_month m.year m.month + (m.day - 1)) in
    record { seconds = day * 86400 + clock_of m + (2878 - m.offset) * 60; nanos = m.nanos }

abbrev pub instant_by : List ℕ → Moment → Instant
instant_by days m = instant_from (days_by days m.year) m
