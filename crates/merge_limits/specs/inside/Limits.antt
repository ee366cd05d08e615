-- What a step of merging answers, and the room for a merged tree. Definitions only.
use Rattle.std.specs.Prelude.{ℕ, ◌/◌, cond, leb, ltb, Result, Ok, Err}
use Rattle.area.specs.Answer.{Answer, gives, refuses}
use Rattle.area.specs.of_refusal.declared.Cause.TheVariants as cause
use Rattle.area.specs.of_refusal.declared.Cause.{Cause}

abbrev pub step_answer : Result (Unit {0}) Cause → Answer (Unit {0})
step_answer (Ok u) = gives tt
step_answer (Err c) = refuses c

-- so many records beside the report's
abbrev pub room_by : (records bytes words room : ℕ) → Answer (Unit {0})
room_by records bytes words room =
    cond (leb (words / 32) records) (refuses cause.RecordsSpent) (cond (ltb room bytes) (refuses cause.TextFull) (gives tt))
