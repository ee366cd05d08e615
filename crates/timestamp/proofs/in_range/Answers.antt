use mathlib.Core.Bool.{and_assoc, and-true}
use Rattle.timestamp.specs.Timestamp.{in_range}
use Rattle.timestamp.proofs.in_range.Goals as goal

pub returns : goal.returns
unfolding in_range
returns c =
    let month-length = c.month_length in
    rw month-length.ensures (simp (and_assoc, and-true))
