-- What writing answers. Definitions only.
use Rattle.refusal.specs.Refusal.{Outcome, accepted, refused, verdict_of, refusal_of}
use Rattle.write_answer.specs.Answer.{Sizes}
use Rattle.writer.specs.declared.Writing.{Writing}

-- how many events, attributes and bytes were put; none at a refusal
abbrev pub sizes_of : Outcome Sizes → Sizes
sizes_of (accepted s) = s
sizes_of (refused r) = record { events = 0; attributes = 0; bytes = 0 }

-- the answer whole
abbrev pub writing_from : Outcome Sizes → Writing
writing_from a =
    record { verdict = verdict_of a; events = (sizes_of a).events; attributes = (sizes_of a).attributes; bytes = (sizes_of a).bytes; refusal = refusal_of a }
