-- The public listing: what is shown of a report, and its text (rules L6 to L12). Definitions only.
use Rattle.std.specs.Prelude.{ℕ, List, [], ◌∷◌, ◌++◌, map, cond, length}
use Rattle.std.proofs.Math.Option.{Option, none, some}
use Rattle.time_text.specs.of_area.Answer.{Answer, gives, refuses}
use Rattle.time_text.specs.of_area.Area.{zeros, placing, laid}
use Rattle.tree_report.specs.of_names.Bytes.{bytes}
use Rattle.time_text.specs.of_digits.Digits.{decimal}
use Rattle.time_text.specs.Written.{written_time}
use Rattle.escape.specs.Escape.{escaped}
use Rattle.tree_report.specs.Report.{Text, Duration, Counts, NonSuccessKind, failure, error, FlakyOrRerun, flaky, rerun}
use Rattle.tree_report.specs.Report.{TestRerun, TestCaseStatus, success, non_success, skipped, TestCase, TestSuite, Report}
use Rattle.tree_report.specs.ReportOf.{report_of}
use Rattle.tree_report.specs.Layout.{layout}
use Rattle.time_text.specs.of_refusal.Refusal.{Outcome, accepted, refused, late}
use Rattle.time_text.specs.of_refusal.declared.Cause.TheVariants as cause

-- ---- what is shown
pub data Status : Type 0 where
  is_success is_failure is_error is_skipped : Status

pub data RunKind : Type 0 where
  no_kind flaky_kind rerun_kind : RunKind

-- rule L7
pub record PublicRun : Type 0 where
  pub kind : NonSuccessKind
  pub time : Option Duration

-- rule L7; `kind` is that of the runs
pub record PublicCase : Type 0 where
  pub name : Text
  pub classname : Option Text
  pub time : Option Duration
  pub status : Status
  pub kind : RunKind
  pub runs : List PublicRun

-- rule L6, and so for the report
pub record PublicSuite : Type 0 where
  pub name : Text
  pub counts : Counts
  pub cases : List PublicCase

pub record PublicReport : Type 0 where
  pub name : Option Text
  pub counts : Counts
  pub suites : List PublicSuite

abbrev pub public_run : TestRerun → PublicRun
public_run r = record { kind = r.kind; time = r.time }

abbrev pub status_of_kind : NonSuccessKind → Status
status_of_kind failure = is_failure
status_of_kind error = is_error

abbrev pub kind_shown : FlakyOrRerun → RunKind
kind_shown flaky = flaky_kind
kind_shown rerun = rerun_kind

abbrev pub status_shown : TestCaseStatus → Status
status_shown (success runs) = is_success
status_shown (non_success k reason f runs) = status_of_kind k
status_shown (skipped reason) = is_skipped

-- a success has flaky runs, skipped has none (rule L7)
abbrev pub run_kind_shown : TestCaseStatus → RunKind
run_kind_shown (success runs) = flaky_kind
run_kind_shown (non_success k reason f runs) = kind_shown f
run_kind_shown (skipped reason) = no_kind

abbrev pub runs_shown : TestCaseStatus → List PublicRun
runs_shown (success runs) = map public_run runs
runs_shown (non_success k reason f runs) = map public_run runs
runs_shown (skipped reason) = []

abbrev pub public_case : TestCase → PublicCase
public_case c =
    record { name = c.name; classname = c.classname; time = c.time; status = status_shown c.status; kind = run_kind_shown c.status; runs = runs_shown c.status }

abbrev pub public_suite : TestSuite → PublicSuite
public_suite s = record { name = s.name; counts = s.counts; cases = map public_case s.cases }

abbrev pub public_part : Report → PublicReport
public_part r = record { name = r.name; counts = r.counts; suites = map public_suite r.suites }

-- ---- its text
-- rule L8
abbrev pub quoted : Text → List ℕ
quoted s = 34 ∷ (escaped s ++ (34 ∷ []))

-- rule L8
abbrev pub or_dash : {A : Type 0} → (A → List ℕ) → Option A → List ℕ
or_dash f none = bytes "-"
or_dash f (some a) = f a

-- as writing has it (rules L9 and W10)
abbrev pub timed : Duration → List ℕ
timed d = written_time d.seconds d.nanos

-- each with one space before it (rule L10)
abbrev pub fields : List (List ℕ) → List ℕ
fields [] = []
fields (f ∷ fs) = 32 ∷ (f ++ fields fs)

-- rules L6 and L9
abbrev pub count_fields : Counts → List (List ℕ)
count_fields c = decimal c.tests ∷ decimal c.failures ∷ decimal c.errors ∷ decimal c.skipped ∷ or_dash decimal c.disabled ∷ []

abbrev pub status_word : Status → List ℕ
status_word is_success = bytes "success"
status_word is_failure = bytes "failure"
status_word is_error = bytes "error"
status_word is_skipped = bytes "skipped"

abbrev pub kind_word : RunKind → List ℕ
kind_word no_kind = bytes "none"
kind_word flaky_kind = bytes "flaky"
kind_word rerun_kind = bytes "rerun"

abbrev pub run_word : NonSuccessKind → List ℕ
run_word failure = bytes "failure"
run_word error = bytes "error"

-- on the line that is there; only suites, cases and runs begin one (rule L10)
abbrev pub close : List ℕ
close = bytes ")"

-- rule L7
unfoldable pub run_text : PublicRun → List ℕ
run_text r = 10 ∷ (bytes "(run" ++ (fields (run_word r.kind ∷ or_dash timed r.time ∷ []) ++ close))

abbrev pub run_texts : List PublicRun → List ℕ
run_texts [] = []
run_texts (r ∷ rs) = run_text r ++ run_texts rs

-- rule L7
abbrev pub case_fields : PublicCase → List (List ℕ)
case_fields c =
    quoted c.name
    ∷ or_dash quoted c.classname
    ∷ or_dash timed c.time
    ∷ status_word c.status
    ∷ kind_word c.kind
    ∷ decimal (length c.runs)
    ∷ []

unfoldable pub case_text : PublicCase → List ℕ
case_text c = 10 ∷ (bytes "(case" ++ (fields (case_fields c) ++ (run_texts c.runs ++ close)))

abbrev pub case_texts : List PublicCase → List ℕ
case_texts [] = []
case_texts (c ∷ cs) = case_text c ++ case_texts cs

-- rule L6
unfoldable pub suite_text : PublicSuite → List ℕ
suite_text s = 10 ∷ (bytes "(suite" ++ (fields (quoted s.name ∷ count_fields s.counts) ++ (case_texts s.cases ++ close)))

abbrev pub suite_texts : List PublicSuite → List ℕ
suite_texts [] = []
suite_texts (s ∷ ss) = suite_text s ++ suite_texts ss

-- the report's own line (rule L6)
unfoldable pub header : Option Text → Counts → List ℕ
header name counts = bytes "(report" ++ fields (or_dash quoted name ∷ count_fields counts)

-- with the newline that ends the listing (rule L10)
abbrev pub ending : List ℕ
ending = close ++ (10 ∷ [])

-- header, the suites one behind the other, closing bracket (rule L10)
unfoldable pub render_public : PublicReport → List ℕ
render_public r = header r.name r.counts ++ (suite_texts r.suites ++ ending)

unfoldable pub render : Report → List ℕ
render r = render_public (public_part r)

-- ---- what listing answers
abbrev pub rendered_or : Option Report → List ℕ
rendered_or none = []
rendered_or (some r) = render r

-- the listing of two areas
unfoldable pub listing_of : List ℕ → List ℕ → List ℕ
listing_of words text = rendered_or (report_of words text)

-- 15: not a layout, then 16: output area too short of n bytes; the final newline counts (rule L11)
unfoldable pub listing_answer : List ℕ → List ℕ → ℕ → Answer ℕ
listing_answer words text n = cond (layout words text) (placing cause.OutputFull n (listing_of words text)) (refuses cause.NotLayout)

-- the same with all that a refusal carries: an empty path, no event and no attribute (rule F11)
abbrev pub outcome_of : Answer ℕ → Outcome ℕ
outcome_of (gives k) = accepted k
outcome_of (refuses c) = refused (late c)

abbrev pub listed : List ℕ → List ℕ → ℕ → Outcome ℕ
listed words text n = outcome_of (listing_answer words text n)

-- the output area afterwards: the listing with zeros behind it, or zeros throughout at a refusal (rule F13)
abbrev pub output_for : Answer ℕ → ℕ → List ℕ → List ℕ
output_for (gives k) n f = laid (zeros n) f
output_for (refuses k) n f = zeros n

-- rule L12
unfoldable pub output_of : List ℕ → List ℕ → ℕ → List ℕ
output_of words text n = output_for (listing_answer words text n) n (listing_of words text)
