-- Timestamps written, computed. Assumes nothing.
use Prim.Native.Nat.{ℕ}
use mathlib.Core.Path.{◌≡◌, refl}
use Rattle.timestamp.specs.of_names.Bytes.{bytes}
use Rattle.timestamp.specs.declared.Moment.{Moment}
use Rattle.write_moment.specs.Written.{date_text, clock_text, offset_text, timestamp_text}

moment : ℕ → ℕ → ℕ → ℕ → ℕ → ℕ → ℕ → ℕ → Moment
moment y mo d h mi s n o = record { year = y; month = mo; day = d; hour = h; minute = mi; second = s; nanos = n; offset = o }

-- truncated, and not rounded
truncated : timestamp_text (moment 2000 1 2 3 4 5 678999999 2009) ≡ bytes "2000-01-02T03:04:05.678+09:30"
unfolding date_text clock_text offset_text timestamp_text moment
truncated = refl

-- the offset 0 has a plus sign
no-offset : timestamp_text (moment 0 1 1 0 0 0 0 1439) ≡ bytes "0000-01-01T00:00:00.000+00:00"
unfolding date_text clock_text offset_text timestamp_text moment
no-offset = refl

one-minute_west : timestamp_text (moment 9999 12 31 23 59 59 999999999 1438) ≡ bytes "9999-12-31T23:59:59.999-00:01"
unfolding date_text clock_text offset_text timestamp_text moment
one-minute_west = refl

farthest_west : timestamp_text (moment 33 7 28 10 0 1 1000000 0) ≡ bytes "0033-07-28T10:00:01.001-23:59"
unfolding date_text clock_text offset_text timestamp_text moment
farthest_west = refl
