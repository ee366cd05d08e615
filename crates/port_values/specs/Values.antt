-- Values in structs that C has too. Definitions only.
use Rattle.port_refusal.specs.of_refusal.Refusal.{Outcome}
use Rattle.build_draft.specs.of_timestamp.declared.Moment.{Moment}
use Rattle.build_draft.specs.of_uuids.declared.Words.{Words}
use Rattle.build_draft.specs.of_tree_counts.declared.Counts.{Counts}
use Rattle.build_draft.specs.of_tree_counts.declared.Counted.{Counted}
use Rattle.build_draft.specs.of_tree_counts.Counts.{counted_from}
use Rattle.build_draft.specs.declared.Built.{Built}
use Rattle.build_draft.specs.Draft.{Draft, built_from}
use Rattle.port_refusal.specs.Port.{port_refusal}
use Rattle.port_values.specs.declared.KCounted.{KCounted}
use Rattle.port_values.specs.declared.KBuilt.{KBuilt}
use Rattle.port_values.specs.declared.KMoment.{KMoment}
use Rattle.port_values.specs.declared.KUuid.{KUuid}

abbrev pub port_counted : Counted → KCounted
port_counted c = record { counts = c.counts; refusal = port_refusal c.verdict c.refusal }

-- the answer of a call on the counts `old`
abbrev pub counted_port : Counts → Outcome Counts → KCounted
counted_port old o = port_counted (counted_from old o)

abbrev pub port_built : Built → KBuilt
port_built b = record { builder = b.builder; refusal = port_refusal b.verdict b.refusal }

-- the answer of a builder's call
abbrev pub built_port : Outcome Draft → KBuilt
built_port o = port_built (built_from o)

abbrev pub plain_moment : KMoment → Moment
plain_moment k =
    record { year = k.year; month = k.month; day = k.day; hour = k.hour; minute = k.minute; second = k.second; nanos = k.nanos; offset = k.offset }

abbrev pub port_moment : Moment → KMoment
port_moment m =
    record { year = m.year; month = m.month; day = m.day; hour = m.hour; minute = m.minute; second = m.second; nanos = m.nanos; offset = m.offset }

abbrev pub plain_uuid : KUuid → Words
plain_uuid k = record { a = k.a; b = k.b; c = k.c; d = k.d }
