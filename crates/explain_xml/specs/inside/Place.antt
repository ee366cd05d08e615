-- The places of the sentences in the code's table. Definitions only.
use Rattle.std.specs.Prelude.{ℕ, Bool, true, false, cond, eqb}

abbrev pub short_place : (events attributes : Bool) → ℕ
short_place true true = 7
short_place true false = 5
short_place false true = 6
short_place false false = 4

abbrev pub place_of : ℕ → (ended : Bool) → (short : ℕ) → ℕ
place_of number ended short = cond (eqb number 18) (cond ended 1 0) (cond (eqb number 19) 2 (cond (eqb number 11) 3 (cond (eqb number 16) short 8)))
