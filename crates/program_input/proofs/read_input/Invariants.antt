use Rattle.std.proofs.Common.{length, ◌-◌}
use Rattle.program_input.proofs.read_input.Given as goal

abbrev pub decreases-loop-n : goal.decreases-loop-n
decreases-loop-n g l = length l.initial.room - l.n
