-- Two reports as one (rules J2 to J6). Definitions only.
use Rattle.std.specs.Prelude.{ℕ, ◌+◌, ◌*◌, ◌/◌, ◌%◌, [], ◌∷◌, ◌++◌}
use Rattle.std.proofs.Math.Option.{Option, none, some}
use Rattle.starts.specs.of_timestamp.declared.Moment.{Moment}
use Rattle.starts.specs.Starts.{earliest}
use Rattle.starts.specs.of_tree_report.Report.{Duration, Counts, Report}

-- of two that may be missing: missing exactly if both are, the only one, or what f makes of the two
abbrev pub either_by : {A : Type 0} → (A → A → A) → Option A → Option A → Option A
either_by f none b = b
either_by f (some a) none = some a
either_by f (some a) (some b) = some (f a b)

-- the two reports' own counts; a missing count of disabled tests counts 0 (rule J4)
abbrev pub added_counts : Counts → Counts → Counts
added_counts a b =
    record {
      tests = a.tests + b.tests;
      failures = a.failures + b.failures;
      errors = a.errors + b.errors;
      skipped = a.skipped + b.skipped;
      disabled = either_by ◌+◌ a.disabled b.disabled;
    }

abbrev pub nanos_in : Duration → ℕ
nanos_in d = d.seconds * 1000000000 + d.nanos

-- nanoseconds carry (rule J5)
abbrev pub added_time : Duration → Duration → Duration
added_time a b = record { seconds = (nanos_in a + nanos_in b) / 1000000000; nanos = (nanos_in a + nanos_in b) % 1000000000 }

-- by their instants; whole, with its offset, and the first's if both are at the same (rule J6)
abbrev pub earlier : Moment → Moment → Moment
earlier a b = earliest a (b ∷ [])

-- the first's name; no UUID; first the suites of one, then of the other (rules J2 and J3)
unfoldable pub merged_report : Report → Report → Report
merged_report a b =
    record {
      name = a.name;
      uuid = none;
      timestamp = either_by earlier a.timestamp b.timestamp;
      time = either_by added_time a.time b.time;
      counts = added_counts a.counts b.counts;
      suites = a.suites ++ b.suites;
    }
