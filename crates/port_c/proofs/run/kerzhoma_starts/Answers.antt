use Rattle.port_c.specs.Started.{port_started}
use mathlib.Core.Path.{ap}
use Rattle.port_c.proofs.run.kerzhoma_starts.Goals as goal

pub returns : goal.returns
returns c =
    let starts = c.starts-answer in
    rw (c.port_moment.ensures, c.port_moment-2.ensures, c.from_refusal.ensures) (ap port_started starts.ensures)
