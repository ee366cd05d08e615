-- What the leaf behind a clock answers. Definitions only.
use Rattle.std.specs.Prelude.{ℕ, cond, List, Option, Some, None}
use Rattle.fixed.specs.Fields.{all}
use Rattle.clock.specs.Clock.{hour_of, minute_of, second_of, clock_tests}

-- the hour, minute and second that s, a whole timestamp, has
unfoldable pub clock_of : List ℕ → Option (ℕ × ℕ × ℕ)
clock_of s = cond (all (clock_tests s)) (Some (hour_of s, minute_of s, second_of s)) None
