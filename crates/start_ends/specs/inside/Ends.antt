-- The earliest and the latest start, found by going along the records once. Definitions only.
use Rattle.std.specs.Prelude.{ℕ, List, [], ◌∷◌, cond, Option, Some, None}
use Rattle.span.specs.of_timestamp.declared.Moment.{Moment}
use Rattle.span.specs.of_instant.Instant.{instant_of}
use Rattle.span.specs.of_instant.inside.Lent.{instant_by}
use Rattle.span.specs.inside.Span.{sooner}
use Rattle.tree_stamp.specs.of_tree_record.Bits as bit
use Rattle.tree_stamp.specs.of_tree_report.Fields.{is_case, has_bit}
use Rattle.tree_stamp.specs.Stamp.{cut_moment}
use Rattle.start_ends.specs.declared.Start.{Start}
use Rattle.start_ends.specs.declared.Ends.{Ends}

abbrev pub earlier : Start → Start → Start
earlier a b = cond (sooner b.at a.at) b a

abbrev pub later : Start → Start → Start
later a b = cond (sooner a.at b.at) b a

abbrev pub start_of : Moment → Start
start_of m = record { moment = m; at = instant_of m }

-- by a table of days that is lent
abbrev pub start_by : List ℕ → Moment → Start
start_by days m = record { moment = m; at = instant_by days m }

abbrev pub no_ends : Option Ends
no_ends = None

unfoldable pub with_start : Option Ends → Start → Option Ends
with_start None s = Some (record { first = s; last = s })
with_start (Some e) s = Some (record { first = earlier e.first s; last = later e.last s })

-- by whatever gives a moment's start
unfoldable pub with_record : (Moment → Start) → Option Ends → List ℕ → Option Ends
with_record start e r = cond (is_case r) (cond (has_bit bit.timestamp r) (with_start e (start (cut_moment r))) e) e

unfoldable pub ends_from : (Moment → Start) → Option Ends → List (List ℕ) → Option Ends
ends_from start e [] = e
ends_from start e (r ∷ rs) = ends_from start (with_record start e r) rs
