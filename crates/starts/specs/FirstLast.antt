-- What the first and the last start of a run are: of the timestamps of the report's cases the earliest and the latest, each the first such in the
-- document, and the nanoseconds between them. The claim is a type; proofs/FirstLast.antt has a proof of it. Definitions only.
--
-- It rests on nanos_to (Starts): the nanoseconds up to a moment by its instant, of which `Counted` (crate instant: Instant) claims that dates are
-- counted day by day and offsets taken off.
use Rattle.std.specs.Prelude.{ℕ, ◌+◌, ◌*◌, ◌<◌, ◌≡◌, Bool, true, false, List, [], ◌∷◌, ◌++◌}
use Rattle.tree_layout.specs.of_refusal.Refusal.{accepted, refused, late}
use Rattle.tree_layout.specs.of_refusal.declared.Cause.TheVariants as cause
use Rattle.tree_layout.specs.of_timestamp.declared.Moment.{Moment}
use Rattle.tree_layout.specs.of_tree_report.Layout.{layout}
use Rattle.tree_layout.specs.of_tree_report.ReportOf.{report_of}
use Rattle.starts.specs.declared.Extent.{Extent}
use Rattle.starts.specs.Starts.{nanos_to, is_earlier, is_later, not_found_of, report_moments, starts_of}

abbrev pub All : (Moment → Type 0) → List Moment → Type 0
All P [] = Unit {0}
All P (x ∷ xs) = P x × All P xs

-- m stands in ms; it wins against all before it, and none behind it wins against m
pub record First (wins : Moment → Moment → Bool) (m : Moment) (ms : List Moment) : Type 0 where
  pub front : List Moment
  pub back : List Moment
  pub member : ms ≡ front ++ (m ∷ back)
  pub before : All (λ x. wins m x ≡ true) front
  pub behind : All (λ x. wins x m ≡ false) back

-- of some moments, at least one
pub record Spans (ms : List Moment) (e : Extent) : Type 0 where
  pub found : e.found ≡ true
  pub first : First is_earlier e.first ms
  pub last : First is_later e.last ms
  pub apart : nanos_to e.first + (e.seconds * 1000000000 + e.nanos) ≡ nanos_to e.last
  pub under : e.nanos < 1000000000

-- what the areas' report answers
pub record Answers (words text : List ℕ) (ms : List Moment) : Type 0 where
  pub extent : Extent
  pub answer : starts_of words text ≡ accepted extent
  pub spans : Spans ms extent

pub record FirstLast : Type 0 where
  pub some : (words text : List ℕ) (m : Moment) (ms : List Moment) → layout words text ≡ true → report_moments (report_of words text) ≡ m ∷ ms
      → Answers words text (m ∷ ms)
  -- without a timestamp all is zero
  pub none : (words text : List ℕ) → layout words text ≡ true → report_moments (report_of words text) ≡ [] → starts_of words text ≡ accepted not_found_of
  pub no_layout : (words text : List ℕ) → layout words text ≡ false → starts_of words text ≡ refused (late cause.NotLayout)
