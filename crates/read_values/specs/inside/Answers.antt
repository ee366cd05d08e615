-- The code's answers as those of the definitions. Definitions only.
use Rattle.std.specs.Prelude.{ℕ, Result}
use Rattle.tree_values.specs.of_area.Answer.{Answer}
use Rattle.tree_values.specs.of_refusal.declared.Cause.{Cause}
use Rattle.read_element.specs.of_integer.of_digits.Results.{answered}

-- where the texts end, or the refusal
abbrev pub took_answer : Result ℕ Cause → Answer ℕ
took_answer = answered
