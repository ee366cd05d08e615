-- The answer from the earliest and the latest start of the records. Definitions only.
use Rattle.std.specs.Prelude.{true, Option, Some, None}
use Rattle.start_ends.specs.of_span.inside.Span.{seconds_between, nanos_between}
use Rattle.start_ends.specs.declared.Start.{Start}
use Rattle.start_ends.specs.declared.Ends.{Ends}
use Rattle.starts.specs.declared.Extent.{Extent}
use Rattle.starts.specs.Starts.{not_found_of}

abbrev pub extent_of : Start → Start → Extent
extent_of a b =
    record {
      found = true;
      first = a.moment;
      last = b.moment;
      seconds = seconds_between a.at b.at;
      nanos = nanos_between a.at b.at;
    }

abbrev pub starts_by : Option Ends → Extent
starts_by None = not_found_of
starts_by (Some e) = extent_of e.first e.last
