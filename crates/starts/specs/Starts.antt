-- The first and the last start of a run. Definitions only.
use Rattle.std.specs.Prelude.{ℕ, ◌+◌, ◌-◌, ◌*◌, ◌/◌, ◌%◌, List, [], ◌∷◌, ◌++◌, Bool, true, false, cond, ltb}
use Rattle.std.proofs.Math.Option.{Option, none, some}
use Rattle.tree_layout.specs.of_refusal.Refusal.{Outcome, accepted, refused, late}
use Rattle.tree_layout.specs.of_refusal.declared.Cause.TheVariants as cause
use Rattle.tree_layout.specs.of_timestamp.declared.Moment.{Moment}
use Rattle.start_ends.specs.of_instant.Instant.{instant_of}
use Rattle.tree_layout.specs.of_tree_report.Report.{TestCase, TestSuite, Report}
use Rattle.tree_layout.specs.of_tree_report.Layout.{layout}
use Rattle.tree_layout.specs.of_tree_report.ReportOf.{report_of}
use Rattle.start_ends.specs.Nothing.{no_moment}
use Rattle.starts.specs.declared.Extent.{Extent}

-- the nanoseconds up to a moment
unfoldable pub nanos_to : Moment → ℕ
nanos_to m = (instant_of m).seconds * 1000000000 + (instant_of m).nanos

abbrev pub is_earlier : Moment → Moment → Bool
is_earlier a b = ltb (nanos_to a) (nanos_to b)

abbrev pub is_later : Moment → Moment → Bool
is_later a b = ltb (nanos_to b) (nanos_to a)

-- of m and those behind it: another only where it wins, so that ties go to the earlier in the list (rule D4)
abbrev pub first_by : (Moment → Moment → Bool) → Moment → List Moment → Moment
first_by wins m [] = m
first_by wins m (x ∷ xs) = first_by wins (cond (wins x m) x m) xs

abbrev pub earliest : Moment → List Moment → Moment
earliest m ms = first_by is_earlier m ms

abbrev pub latest : Moment → List Moment → Moment
latest m ms = first_by is_later m ms

-- rule D6
abbrev pub not_found_of : Extent
not_found_of = record { found = false; first = no_moment; last = no_moment; seconds = 0; nanos = 0 }

-- the two, and the nanoseconds between them as whole seconds and what is left (rule D5)
abbrev pub between : Moment → Moment → Extent
between a b =
    record {
      found = true;
      first = a;
      last = b;
      seconds = (nanos_to b - nanos_to a) / 1000000000;
      nanos = (nanos_to b - nanos_to a) % 1000000000;
    }

unfoldable pub starts_in : List Moment → Extent
starts_in [] = not_found_of
starts_in (m ∷ ms) = between (earliest m ms) (latest m ms)

-- ---- of a report
abbrev pub cases_of : List TestSuite → List TestCase
cases_of [] = []
cases_of (s ∷ ss) = s.cases ++ cases_of ss

abbrev pub behind : Option Moment → List Moment → List Moment
behind none ms = ms
behind (some m) ms = m ∷ ms

-- missing ones are passed over (rule D4)
abbrev pub moments_of : List TestCase → List Moment
moments_of [] = []
moments_of (c ∷ cs) = behind c.timestamp (moments_of cs)

-- the timestamps of a report's cases, in the document's order
abbrev pub report_moments : Option Report → List Moment
report_moments none = []
report_moments (some r) = moments_of (cases_of r.suites)

-- 15 for what is no layout (rule D7)
unfoldable pub starts_of : List ℕ → List ℕ → Outcome Extent
starts_of words text = cond (layout words text) (accepted (starts_in (report_moments (report_of words text)))) (refused (late cause.NotLayout))
