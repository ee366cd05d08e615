-- A count as it is read (rules V1 and V2). Definitions only.
use Rattle.std.specs.Prelude.{ℕ, List, [], ◌∷◌, Bool, cond, eqb, Result}
use Rattle.names.specs.of_area.Answer.{Answer, gives, refuses}
use Rattle.digits.specs.of_utf8.Utf8.{utf8}
use Rattle.digits.specs.Digits.{is_number, value}
use Rattle.digits.specs.Results.{answered}
use Rattle.names.specs.of_refusal.declared.Cause.{Cause}
use Rattle.names.specs.of_refusal.declared.Cause.TheVariants as cause

-- the value, or 2 for what isn't UTF-8, 3 for what is no count
abbrev pub integer_answer : Result ℕ Cause → Answer ℕ
integer_answer = answered

-- without the `+` that may stand first (rule V2)
unfoldable pub unsigned : List ℕ → List ℕ
unsigned [] = []
unsigned (b ∷ s) = cond (eqb b 0x2B) s (b ∷ s)

-- rule V2
abbrev pub is_integer : List ℕ → Bool
is_integer s = is_number 10 18446744073709551615 (unsigned s)

-- rule V1
abbrev pub integer_of : List ℕ → Answer ℕ
integer_of s = cond (utf8 s) (cond (is_integer s) (gives (value 10 (unsigned s))) (refuses cause.BadInteger)) (refuses cause.NotUtf8)
