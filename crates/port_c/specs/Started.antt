-- What the first and last start of a run are for other languages. Definitions only.
use Rattle.case_tags.specs.of_refusal.Refusal.{Outcome}
use Rattle.merger.specs.of_starts.declared.Extent.{Extent}
use Rattle.merger.specs.of_starts.declared.Started.{Started}
use Rattle.merger.specs.of_starts.Answer.{started_from}
use Rattle.port_values.specs.of_port_refusal.Port.{port_refusal}
use Rattle.port_values.specs.Values.{port_moment}
use Rattle.port_c.specs.declared.run.KStarted.{KStarted}

abbrev pub port_started : Started → KStarted
port_started a =
    record {
      found = a.starts.found;
      first = port_moment a.starts.first;
      last = port_moment a.starts.last;
      seconds = a.starts.seconds;
      nanos = a.starts.nanos;
      refusal = port_refusal a.verdict a.refusal;
    }

abbrev pub started_port : Outcome Extent → KStarted
started_port o = port_started (started_from o)
