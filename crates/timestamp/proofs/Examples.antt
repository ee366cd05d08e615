-- Timestamps, computed. Assumes nothing.
use mathlib.Core.Path.{◌≡◌, refl}
use mathlib.Core.List.{[], ◌∷◌, ◌++◌}
use mathlib.Core.Bool.{true, false}
use Rattle.names.specs.of_area.Answer.{gives, refuses}
use Rattle.fraction.specs.of_utf8.Utf8.{need, low, high}
use Rattle.names.specs.Bytes.{bytes}
use Rattle.fraction.specs.of_digits.Digits.{digit, is_number}
use Rattle.calendar.specs.Calendar.{is_leap, month_length}
use Rattle.timestamp.specs.Timestamp.{places, is_utc, is_timestamp, timestamp_of, in_range}
use Rattle.names.specs.of_refusal.declared.Cause.TheVariants as cause

-- RFC 3339, section 5.8
fraction : timestamp_of (bytes "1985-04-12T23:20:50.52Z") ≡ gives (record { year = 1985; month = 4; day = 12; hour = 23; minute = 20; second = 50; nanos = 520000000; offset = 1439 })
unfolding timestamp_of is_timestamp is_number digit month_length is_leap places is_utc need low high
fraction = refl

-- RFC 3339, section 5.8: minus is west
minus : timestamp_of (bytes "1996-12-19T16:39:57-08:00") ≡ gives (record { year = 1996; month = 12; day = 19; hour = 16; minute = 39; second = 57; nanos = 0; offset = 959 })
unfolding timestamp_of is_timestamp is_number digit month_length is_leap places is_utc need low high
minus = refl

-- of RFC 3339, section 5.8; second 60 is refused (rule V7)
leap-second : (timestamp_of (bytes "1990-12-31T23:59:60Z") ≡ refuses cause.BadTimestamp)
    × (timestamp_of (bytes "1990-12-31T15:59:60-08:00") ≡ refuses cause.BadTimestamp)
unfolding timestamp_of is_timestamp is_number digit month_length is_leap places is_utc need low high
leap-second = (refl, refl)

offsets : (timestamp_of (bytes "2024-02-29T00:00:00+23:59") ≡ gives (record { year = 2024; month = 2; day = 29; hour = 0; minute = 0; second = 0; nanos = 0; offset = 2878 }))
    × (timestamp_of (bytes "2024-02-29T00:00:00-00:00") ≡ gives (record { year = 2024; month = 2; day = 29; hour = 0; minute = 0; second = 0; nanos = 0; offset = 1439 }))
    × (timestamp_of (bytes "2024-02-29T00:00:00+24:00") ≡ refuses cause.BadTimestamp)
    × (timestamp_of (bytes "2024-02-29T00:00:00+00:60") ≡ refuses cause.BadTimestamp)
unfolding timestamp_of is_timestamp is_number digit month_length is_leap places is_utc need low high
offsets = (refl, refl, refl, refl)

small-letters : timestamp_of (bytes "0000-01-01t23:59:59.000000001z") ≡ gives (record { year = 0; month = 1; day = 1; hour = 23; minute = 59; second = 59; nanos = 1; offset = 1439 })
unfolding timestamp_of is_timestamp is_number digit month_length is_leap places is_utc need low high
small-letters = refl

-- a space for the letter, ten digits, no digit, no offset, a byte behind
other-forms : (timestamp_of (bytes "2024-02-29 00:00:00Z") ≡ refuses cause.BadTimestamp)
    × (timestamp_of (bytes "2024-02-29T00:00:00.0000000000Z") ≡ refuses cause.BadTimestamp)
    × (timestamp_of (bytes "2024-02-29T00:00:00.Z") ≡ refuses cause.BadTimestamp)
    × (timestamp_of (bytes "2024-02-29T00:00:00") ≡ refuses cause.BadTimestamp)
    × (timestamp_of (bytes "2024-02-29T00:00:00ZZ") ≡ refuses cause.BadTimestamp)
unfolding timestamp_of is_timestamp is_number digit month_length is_leap places is_utc need low high
other-forms = (refl, refl, refl, refl, refl)

-- no date that there is, and not UTF-8: 2 comes before 4
two-before_four : timestamp_of (bytes "2023-02-29T00:00:00Z" ++ (0xFF ∷ [])) ≡ refuses cause.NotUtf8
unfolding timestamp_of is_timestamp is_number digit month_length is_leap places is_utc need low high
two-before_four = refl

-- the last moment that there is, and what is past it by one
ranges : (in_range (record { year = 9999; month = 12; day = 31; hour = 23; minute = 59; second = 59; nanos = 999999999; offset = 2878 }) ≡ true)
    × (in_range (record { year = 9999; month = 12; day = 31; hour = 23; minute = 59; second = 60; nanos = 0; offset = 0 }) ≡ false)
    × (in_range (record { year = 9999; month = 12; day = 31; hour = 0; minute = 0; second = 0; nanos = 0; offset = 2879 }) ≡ false)
    × (in_range (record { year = 2023; month = 2; day = 29; hour = 0; minute = 0; second = 0; nanos = 0; offset = 0 }) ≡ false)
    × (in_range (record { year = 2023; month = 1; day = 0; hour = 0; minute = 0; second = 0; nanos = 0; offset = 0 }) ≡ false)
unfolding in_range month_length is_leap
ranges = (refl, refl, refl, refl, refl)
