-- What a Result with a cause says, as the definitions say it. Definitions only.
use Rattle.std.specs.Prelude.{Result, Ok, Err}
use Rattle.utf8.specs.of_area.Answer.{Answer, gives, refuses}
use Rattle.utf8.specs.of_refusal.declared.Cause.{Cause}

abbrev pub answered : {A : Type 0} → Result A Cause → Answer A
answered (Ok a) = gives a
answered (Err why) = refuses why
