-- Two trees as one, computed. Assumes nothing.
use Prim.Native.Nat.{ℕ}
use mathlib.Core.Path.{◌≡◌, refl}
use mathlib.Core.List.{List, [], ◌∷◌, ◌++◌, map}
use mathlib.Core.Option.{Option, none, some}
use Rattle.tree_merge.specs.of_area.Area.{zeros}
use Rattle.tree_merge.specs.of_calendar.Calendar.{is_leap, month_length}
use Rattle.tree_merge.specs.of_days.Days.{days_before}
use Rattle.tree_merge.specs.of_days.Dates.{days_before_month, day_number}
use Rattle.tree_merge.specs.of_instant.Instant.{instant_of}
use Rattle.tree_merge.specs.of_refusal.Refusal.{Outcome, accepted, refused, late}
use Rattle.tree_merge.specs.of_refusal.declared.Cause.TheVariants as cause
use Rattle.tree_merge.specs.of_timestamp.declared.Moment.{Moment}
use Rattle.tree_merge.specs.of_schema.Records.{good, encode}
use Rattle.tree_merge.specs.of_schema.Texts.{record_at}
use Rattle.tree_merge.specs.of_starts.Starts.{nanos_to}
use Rattle.tree_merge.specs.of_utf8.Utf8.{need, low, high}
use Rattle.tree_merge.specs.of_tree_status.Status.{ruled}
use Rattle.tree_merge.specs.of_tree_report.Layout.{good_text, good_record, may_end, may_follow, following, good_order, records_from, records_of, layout}
use Rattle.tree_merge.specs.of_tree_report.ReportOf.{report_of}
use Rattle.tree_merge.specs.Merged.{either_by, earlier, merged_report}
use Rattle.tree_merge.specs.Moved.{texts_of, moved_to}
use Rattle.tree_merge.specs.Answer.{merged_of, merged_tree, limited, placed, merge_answer, records_left, text_left}
use Rattle.merge_claims.specs.Merging.{Tree, Room, answer_of, left, time_limit}

-- ---- trees
-- a report with a time and tests, a count of two words
abbrev timed : (seconds nanos low high : ℕ) → Tree
timed seconds nanos low high = record { words = 1 ∷ 16 ∷ (zeros 14 ++ (seconds ∷ nanos ∷ low ∷ high ∷ zeros 12)); text = [] }

-- a report with nothing but zeros
abbrev bare : Tree
bare = record { words = 1 ∷ zeros 31; text = [] }

-- a report with a name and a UUID, `ab`; behind it a dead record
abbrev named : Tree
named = record { words = 1 ∷ 3 ∷ 0 ∷ 2 ∷ 5 ∷ 6 ∷ 7 ∷ 8 ∷ (zeros 24 ++ (18 ∷ (9 ∷ zeros 30))); text = 97 ∷ 98 ∷ [] }

-- a suite whose name and output are the same byte
abbrev shared : Tree
shared = record { words = 1 ∷ (zeros 31 ++ (2 ∷ 3 ∷ 0 ∷ 1 ∷ 0 ∷ 1 ∷ zeros 26)); text = 99 ∷ [] }

-- a suite with a name and a hostname
abbrev hosted : Tree
hosted = record { words = 1 ∷ (zeros 31 ++ (2 ∷ 1025 ∷ 0 ∷ 1 ∷ (zeros 24 ++ (1 ∷ 1 ∷ zeros 2)))); text = 99 ∷ 100 ∷ [] }

abbrev room : ℕ → ℕ → Room
room words bytes = record { words = words; bytes = bytes }

-- ---- what is answered: two trees, the room, the answer
abbrev Case : Type 0
Case = Tree × Tree × Room × Outcome (Unit {0})

abbrev cases : List Case
cases =
    -- no suites on either side, no names
    (bare, bare, room 33 1, accepted tt)
    -- a text that shares its bytes is counted twice; both short is 12
    ∷ (named, shared, room 64 4, accepted tt)
    ∷ (named, shared, room 64 3, refused (late cause.TextFull))
    ∷ (named, shared, room 63 3, refused (late cause.RecordsSpent))
    -- 8388607.999999999 and 0.000000001 seconds; a nanosecond less
    ∷ (timed 8388607 999999999 0 0, timed 0 1 0 0, room 32 0, refused (late time_limit))
    ∷ (timed 8388607 999999998 0 0, timed 0 1 0 0, room 32 0, accepted tt)
    -- both, and no room; a time, and no room
    ∷ (timed 8388607 999999999 4294967295 4294967295, timed 0 1 1 0, room 0 0, refused (late cause.CountLimit))
    ∷ (timed 8388607 0 0 0, timed 1 0 0 0, room 0 0, refused (late time_limit))
    -- no tree on either side
    ∷ (bare, record { words = []; text = [] }, room 0 0, refused (late cause.NotLayout))
    ∷ (record { words = []; text = [] }, timed 8388607 0 0 0, room 0 0, refused (late cause.NotLayout))
    ∷ []

answers : map (λ (c : Case). answer_of c.0 c.1 c.2) cases ≡ map (λ (c : Case). c.3) cases
unfolding merge_answer limited placed merged_of merged_tree merged_report texts_of moved_to record_at encode report_of layout records_of records_from
    good_text need low high good_record good good_order may_follow following may_end ruled
answers = refl

-- ---- what is left: two trees, the room, the areas
abbrev Areas : Type 0
Areas = Tree × Tree × Room × Tree

abbrev areas : List Areas
areas =
    (bare, bare, room 33 1, record { words = 1 ∷ zeros 32; text = zeros 1 })
    -- the first's name, no UUID, no dead record
    ∷ (
      named,
      shared,
      room 64 4,
      record { words = 1 ∷ 1 ∷ 0 ∷ 2 ∷ (zeros 28 ++ (2 ∷ 3 ∷ 2 ∷ 1 ∷ 3 ∷ 1 ∷ zeros 26)); text = 97 ∷ 98 ∷ 99 ∷ 99 ∷ [] },
    )
    -- a hostname moves with its suite
    ∷ (
      named,
      hosted,
      room 64 4,
      record { words = 1 ∷ 1 ∷ 0 ∷ 2 ∷ (zeros 28 ++ (2 ∷ 1025 ∷ 2 ∷ 1 ∷ (zeros 24 ++ (3 ∷ 1 ∷ zeros 2)))); text = 97 ∷ 98 ∷ 99 ∷ 100 ∷ [] },
    )
    -- a missing name stays missing
    ∷ (shared, named, room 64 2, record { words = 1 ∷ (zeros 31 ++ (2 ∷ 3 ∷ 0 ∷ 1 ∷ 1 ∷ 1 ∷ zeros 26)); text = 99 ∷ 99 ∷ [] })
    -- nanoseconds and the low word of a count carry
    ∷ (timed 1 600000000 1 0, timed 2 700000000 4294967295 0, room 32 0, timed 4 300000000 0 1)
    ∷ (named, shared, room 63 3, record { words = zeros 63; text = zeros 3 })
    ∷ []

lefts : map (λ (c : Areas). left c.0 c.1 c.2) areas ≡ map (λ (c : Areas). c.3) areas
unfolding records_left text_left merge_answer limited placed merged_of merged_tree merged_report texts_of moved_to record_at encode report_of layout records_of records_from
    good_text need low high good_record good good_order may_follow following may_end ruled
lefts = refl

-- ---- timestamps: 10:00+01:00 and 09:00Z are one instant
abbrev at : ℕ → ℕ → Moment
at hour offset = record { year = 1; month = 1; day = 2; hour = hour; minute = 0; second = 0; nanos = 0; offset = offset }

tie : either_by earlier (some (at 10 1499)) (some (at 9 1439)) ≡ some (at 10 1499)
unfolding nanos_to instant_of day_number days_before days_before_month month_length is_leap
tie = refl

tie-back : either_by earlier (some (at 9 1439)) (some (at 10 1499)) ≡ some (at 9 1439)
unfolding nanos_to instant_of day_number days_before days_before_month month_length is_leap
tie-back = refl

second-earlier : either_by earlier (some (at 9 1439)) (some (at 9 1499)) ≡ some (at 9 1499)
unfolding nanos_to instant_of day_number days_before days_before_month month_length is_leap
second-earlier = refl

only-second : either_by earlier none (some (at 9 1499)) ≡ some (at 9 1499)
only-second = refl
