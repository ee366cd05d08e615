-- What stands where there is no moment. Definitions only.
use Rattle.span.specs.of_timestamp.declared.Moment.{Moment}

-- of no day: months and days begin at 1
abbrev pub no_moment : Moment
no_moment = record { year = 0; month = 0; day = 0; hour = 0; minute = 0; second = 0; nanos = 0; offset = 0 }
