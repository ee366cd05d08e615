-- What the leaves behind a timestamp answer. Definitions only.
use Rattle.std.specs.Prelude.{ℕ, cond, ◌||◌, List, Option, Some, None}
use Rattle.clock.specs.of_fixed.Fields.{all}
use Rattle.timestamp.specs.Timestamp.{year_of, month_of, day_of, date_tests, fraction_tests}
use Rattle.timestamp.specs.Timestamp.{nanos_of, fraction_width, is_utc, offset_tests, offset_of, is_timestamp, moment_of}
use Rattle.timestamp.specs.declared.Moment.{Moment}

-- the date that s begins with
unfoldable pub date_of : List ℕ → Option (ℕ × ℕ × ℕ)
date_of s = cond (all (date_tests s)) (Some (year_of s, month_of s, day_of s)) None

-- the fraction that t begins with, its billionths and how many bytes tell them, and the offset that z is
unfoldable pub fraction_of : List ℕ → Option (ℕ × ℕ)
fraction_of t = cond (all (fraction_tests t)) (Some (nanos_of t, fraction_width t)) None

unfoldable pub zone_of : List ℕ → Option ℕ
zone_of z = cond (is_utc z || all (offset_tests z)) (Some (offset_of z)) None

-- the whole
unfoldable pub form_of : List ℕ → Option Moment
form_of s = cond (is_timestamp s) (Some (moment_of s)) None
