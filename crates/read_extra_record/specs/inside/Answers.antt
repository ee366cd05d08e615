-- The code's answers as those of the definitions. Definitions only.
use Rattle.std.specs.Prelude.{ℕ, Result, Ok, Err}
use Rattle.read_element.specs.of_area.Answer.{Answer, gives, refuses}
use Rattle.read_extra_record.specs.declared.Given.{Given}
use Rattle.read_element.specs.of_refusal.declared.Cause.{Cause}

abbrev pub laid_answer : Result ℕ Cause → Answer ℕ
laid_answer (Ok end) = gives end
laid_answer (Err why) = refuses why

-- the number of extras and the end of the texts, or the refusal
abbrev pub gave_answer : Result Given Cause → Answer (ℕ × ℕ)
gave_answer (Ok given) = gives (given.extras, given.fill)
gave_answer (Err why) = refuses why
