-- Builders, whole: what is claimed of a report that is built call by call. Each call leads from a report that the areas hold to the report that the
-- operation gives, or refuses exactly where a test of its list fails, the first one deciding. After the end every call but a new report is refused
-- with 15. The claims are types; proofs/Builders.antt has a proof of each. Definitions only.
--
-- Whoever wants to be sure that this is what report.rs of the crate does reads these definitions:
--   report_named, add_test_suite, .., summed (Operations)           the operations on a report, in the words of report.rs
--   Holds, Stands, Stand (Stands)                                the areas hold a report; a builder stands over it, and its marks are right
--   Ended, Finished (Stands)                                     nothing is open any more; the areas hold a finished report
--   Comes (Stands)                                               what a call comes to: the first test that fails decides the refusal
--   layout, report_of (crate tree_report: Layout, ReportOf)       docs/TREE.md: whether two areas are a layout; the report that they hold
--   rows_of (crate tree_report: inside/Cells)                     a report's records, which are counted against the room
--   Builder, Element, Holder, .. (crate build_draft, as declared)
--                                                                the marks of a builder; what a call is for
--   unnamed_report, new_report, .., finish (crate build_draft: Calls)
--                                                                what each call answers and leaves, on every builder and all areas: the promise of the
--                                                                call
--   no_builder (crate build_draft: Draft)                         the builder that comes back at a refusal
--   room_for, bytes_for (crate build_draft: Draft)                 how many records and bytes of text the areas may hold
--   has_text, is_output, has_times (crate build_draft: Parts)       which kinds of records have a text, an output, a timestamp and a time
--   utf8, filtered (crates utf8, text_filter: Utf8, Filter)      whether bytes are UTF-8; the text that is stored of them
--   lossy_text (crate text_lossy: LossyText)                      the text that is stored of any bytes
--   in_range (crate timestamp: Timestamp)                        which timestamps there are
use Rattle.std.specs.Prelude.{ℕ, ◌+◌, List, [], ◌∷◌, Bool, true, false, not, ◌&&◌, ◌||◌, ◌≡◌, length, leb}
use Rattle.std.proofs.Math.Option.{Option, none, some}
use Rattle.tree_placed.specs.of_area.Area.{zeros}
use Rattle.tree_placed.specs.of_refusal.Refusal.{Outcome, refused, late}
use Rattle.tree_placed.specs.of_refusal.declared.Cause.{Cause}
use Rattle.tree_placed.specs.of_refusal.declared.Cause.TheVariants as cause
use Rattle.tree_placed.specs.of_names.Names.{same_bytes}
use Rattle.tree_placed.specs.of_utf8.Utf8.{utf8}
use Rattle.tree_placed.specs.of_text_filter.Filter.{filtered}
use Rattle.build_draft.specs.of_text_lossy.LossyText.{lossy_text}
use Rattle.tree_placed.specs.of_timestamp.Timestamp.{in_range}
use Rattle.tree_placed.specs.of_timestamp.declared.Moment.{Moment}
use Rattle.tree_placed.specs.of_uuids.declared.Words.{Words}
use Rattle.build_draft.specs.of_tree_counts.declared.Outcome.{Outcome as Status}
use Rattle.build_draft.specs.of_tree_counts.declared.Outcome.TheVariants as outcome
use Rattle.tree_placed.specs.of_tree_report.Report.{Text, Pair, Counts, TestCaseStatus, success, non_success, skipped, TestCase, TestSuite, Report}
use Rattle.tree_placed.specs.of_tree_report.inside.Cells.{rows_of}
use Rattle.build_draft.specs.declared.Builder.{Builder}
use Rattle.build_draft.specs.declared.Element.{Element}
use Rattle.build_draft.specs.declared.Holder.{Holder}
use Rattle.build_draft.specs.declared.Holder.TheVariants as holder
use Rattle.build_draft.specs.declared.TextField.{TextField}
use Rattle.build_draft.specs.declared.NumberField.{NumberField}
use Rattle.build_draft.specs.declared.NumberField.TheVariants as number
use Rattle.build_draft.specs.declared.NonSuccessKind.{NonSuccessKind}
use Rattle.build_draft.specs.declared.FlakyOrRerun.{FlakyOrRerun}
use Rattle.build_draft.specs.Draft.{Draft, no_builder, room_for, bytes_for}
use Rattle.build_draft.specs.Parts.{has_text, is_output, has_times}
use Rattle.build_draft.specs.Calls as call
use Rattle.build_report.specs.Operations as report
use Rattle.build_report.specs.Operations.{last_in, open_case, target_of, kind_of_target, is_empty, runs_in}
use Rattle.build_report.specs.Stands.{Holds, Stands, Comes, Stand, Ended, Finished}

-- ---- tests
abbrev pub is_some : {A : Type 0} → Option A → Bool
is_some none = false
is_some (some a) = true

-- not past the limit, else 17 (rule C3)
abbrev pub is_number : ℕ → Bool
is_number n = leb n 18446744073709551615

abbrev pub disabled_in : Option ℕ → ℕ
disabled_in none = 0
disabled_in (some n) = n

abbrev pub are_numbers : Counts → Bool
are_numbers c = is_number c.tests && (is_number c.failures && (is_number c.errors && (is_number c.skipped && is_number (disabled_in c.disabled))))

-- n records more than the report has fit (12)
abbrev pub fits_records : ℕ → Report → List ℕ → Bool
fits_records n r words = leb (length (rows_of r) + n) (room_for words)

-- f fits behind the bytes that are used (13)
abbrev pub fits_text : ℕ → List ℕ → List ℕ → Bool
fits_text used f text = leb (used + length f) (bytes_for text)

abbrev pub has_open_suite : Report → Bool
has_open_suite r = is_some (last_in r.suites)

abbrev pub has_open_case : Report → Bool
has_open_case r = is_some (open_case (last_in r.suites))

-- the counts of the open suite, none where there is none
abbrev pub open_counts : Option TestSuite → Counts
open_counts none = report.no_counts
open_counts (some s) = s.counts

abbrev pub is_skipped : TestCaseStatus → Bool
is_skipped (success runs) = false
is_skipped (non_success k m f runs) = false
is_skipped (skipped m) = true

abbrev pub is_non_success : TestCaseStatus → Bool
is_non_success (success runs) = false
is_non_success (non_success k m f runs) = true
is_non_success (skipped m) = false

abbrev pub of_case : (TestCase → Bool) → Option TestCase → Bool
of_case p none = false
of_case p (some c) = p c

abbrev pub of_suite : (TestSuite → Bool) → Option TestSuite → Bool
of_suite p none = false
of_suite p (some s) = p s

-- the open case has a status that takes runs; one whose runs have a family
abbrev pub takes_runs : Report → Bool
takes_runs r = of_case (λ c. not (is_skipped c.status)) (open_case (last_in r.suites))

abbrev pub has_family : Report → Bool
has_family r = of_case (λ c. is_non_success c.status) (open_case (last_in r.suites))

-- a suite's properties come before its cases, a case's before its runs; extras before properties
abbrev pub takes_property : Holder → Report → Bool
takes_property holder.Suite r = of_suite (λ s. is_empty s.cases) (last_in r.suites)
takes_property holder.Case r = of_case (λ c. is_empty (runs_in c.status)) (open_case (last_in r.suites))

abbrev pub takes_extra : Holder → Report → Bool
takes_extra holder.Suite r = of_suite (λ s. is_empty s.properties && is_empty s.cases) (last_in r.suites)
takes_extra holder.Case r = of_case (λ c. is_empty c.properties && is_empty (runs_in c.status)) (open_case (last_in r.suites))

-- the extras of the open suite or case
abbrev pub suite_extras : Option TestSuite → List Pair
suite_extras none = []
suite_extras (some s) = s.extra

abbrev pub case_extras : Option TestCase → List Pair
case_extras none = []
case_extras (some c) = c.extra

abbrev pub extras_in : Holder → Report → List Pair
extras_in holder.Suite r = suite_extras (last_in r.suites)
extras_in holder.Case r = case_extras (open_case (last_in r.suites))

-- the key is there already: no record is needed for it
abbrev pub has_key : Text → List Pair → Bool
has_key key [] = false
has_key key (p ∷ ps) = same_bytes p.key key || has_key key ps

-- the element that has the number
abbrev pub has_open : NumberField → Report → Bool
has_open number.Assertions r = has_open_case r
has_open number.Disabled r = has_open_suite r

-- how many records a case takes
abbrev pub mains_of : Status → ℕ
mains_of outcome.Success = 0
mains_of outcome.Failure = 1
mains_of outcome.Error = 1
mains_of outcome.Skipped = 1

-- words of 32 bits, a number of 64 bits: what the code's types hold
abbrev pub are_words : Words → Bool
are_words w = leb w.a 4294967295 && (leb w.b 4294967295 && (leb w.c 4294967295 && leb w.d 4294967295))

-- ---- the tests of a text: UTF-8 (2), then room (13)
abbrev pub text_tests : ℕ → List ℕ → List ℕ → List (Bool × Cause) → List (Bool × Cause)
text_tests used s text ts = (utf8 s, cause.NotUtf8) ∷ (fits_text used (filtered s) text, cause.TextFull) ∷ ts

abbrev pub pair_tests : ℕ → List ℕ → List ℕ → List ℕ → List (Bool × Cause) → List (Bool × Cause)
pair_tests used key value text ts = text_tests used key text (text_tests (used + length (filtered key)) value text ts)

abbrev pub pair_of : List ℕ → List ℕ → Pair
pair_of key value = record { key = filtered key; value = filtered value }

-- ---- a builder that stands over a report (rule B2)
pub record FromReport (b : Builder) (words text : List ℕ) (r : Report) : Type 0 where
  pub means : Holds words text r
  pub add_test_suite : (name : List ℕ)
      → Comes (Stand (report.add_test_suite (filtered name) r))
      ((are_numbers (report.summed r).counts, cause.CountLimit) ∷ (fits_records 1 r words, cause.RecordsSpent) ∷ text_tests b.bytes name text [])
      (call.add_test_suite name (record { builder = b; words = words; text = text }))
  pub add_test_case : (name : List ℕ) (o : Status)
      → Comes (Stand (report.add_test_case (filtered name) o r))
      ((has_open_suite r, cause.NotLayout)
      ∷ (are_numbers (report.sum (open_counts (last_in r.suites)) (report.one_more_of o)), cause.CountLimit)
      ∷ (fits_records 1 r words, cause.RecordsSpent)
      ∷ text_tests b.bytes name text ((fits_records (1 + mains_of o) r words, cause.RecordsSpent) ∷ []))
      (call.add_test_case name o (record { builder = b; words = words; text = text }))
  pub add_rerun : (k : NonSuccessKind)
      → Comes (Stand (report.add_rerun k r)) ((takes_runs r, cause.NotLayout) ∷ (fits_records 1 r words, cause.RecordsSpent) ∷ [])
      (call.add_rerun k (record { builder = b; words = words; text = text }))
  pub set_rerun_kind : (f : FlakyOrRerun)
      → Comes (Stand (report.set_rerun_kind f r)) ((has_family r, cause.NotLayout) ∷ []) (call.set_rerun_kind f (record { builder = b; words = words; text = text }))
  pub add_property : (h : Holder) (key value : List ℕ)
      → Comes (Stand (report.add_property h (pair_of key value) r))
      ((takes_property h r, cause.NotLayout) ∷ pair_tests b.bytes key value text ((fits_records 1 r words, cause.RecordsSpent) ∷ []))
      (call.add_property h key value (record { builder = b; words = words; text = text }))
  pub add_extra : (h : Holder) (key value : List ℕ)
      → Comes (Stand (report.add_extra h (pair_of key value) r))
      ((takes_extra h r, cause.NotLayout)
      ∷ pair_tests b.bytes key value text ((has_key (filtered key) (extras_in h r) || fits_records 1 r words, cause.RecordsSpent) ∷ []))
      (call.add_extra h key value (record { builder = b; words = words; text = text }))
  pub set_text : (e : Element) (f : TextField) (s : List ℕ)
      → Comes (Stand (report.set_text (target_of e r) f (filtered s) r))
      ((has_text (kind_of_target (target_of e r)) f, cause.NotLayout) ∷ text_tests b.bytes s text [])
      (call.set_text e f s (record { builder = b; words = words; text = text }))
  pub set_output_lossy : (e : Element) (f : TextField) (s : List ℕ)
      → Comes (Stand (report.set_text (target_of e r) f (lossy_text s) r))
      ((is_output f && has_text (kind_of_target (target_of e r)) f, cause.NotLayout) ∷ (fits_text b.bytes (lossy_text s) text, cause.TextFull) ∷ [])
      (call.set_output_lossy e f s (record { builder = b; words = words; text = text }))
  pub set_timestamp : (e : Element) (m : Moment)
      → Comes (Stand (report.set_timestamp (target_of e r) m r)) ((has_times (kind_of_target (target_of e r)), cause.NotLayout) ∷ (in_range m, cause.BadTimestamp) ∷ [])
      (call.set_timestamp e m (record { builder = b; words = words; text = text }))
  pub set_time : (e : Element) (seconds nanos : ℕ)
      → Comes (Stand (report.set_time (target_of e r) (record { seconds = seconds; nanos = nanos }) r))
      ((has_times (kind_of_target (target_of e r)), cause.NotLayout) ∷ (leb seconds 8388607 && leb nanos 999999999, cause.BadTime) ∷ [])
      (call.set_time e seconds nanos (record { builder = b; words = words; text = text }))
  pub set_uuid : (w : Words) → are_words w ≡ true
      → Comes (Stand (report.set_uuid w r)) [] (call.set_uuid w (record { builder = b; words = words; text = text }))
  pub set_number : (f : NumberField) (n : ℕ) → is_number n ≡ true
      → Comes (Stand (report.set_number f n r)) ((has_open f r, cause.NotLayout) ∷ []) (call.set_number f n (record { builder = b; words = words; text = text }))
  pub finish :
      Comes (Finished (report.summed r)) ((are_numbers (report.summed r).counts, cause.CountLimit) ∷ []) (call.finish (record { builder = b; words = words; text = text }))

-- ---- a builder after the end, in any areas: each call but a new report is refused with 15 (rule B12)
abbrev pub IsOver : Outcome Draft → Type 0
IsOver o = o ≡ refused (late cause.NotLayout)

pub record FromEnd (d : Draft) : Type 0 where
  pub add_test_suite : (name : List ℕ) → IsOver (call.add_test_suite name d)
  pub add_test_case : (name : List ℕ) (s : Status) → IsOver (call.add_test_case name s d)
  pub add_rerun : (k : NonSuccessKind) → IsOver (call.add_rerun k d)
  pub set_rerun_kind : (f : FlakyOrRerun) → IsOver (call.set_rerun_kind f d)
  pub add_property : (h : Holder) (key value : List ℕ) → IsOver (call.add_property h key value d)
  pub add_extra : (h : Holder) (key value : List ℕ) → IsOver (call.add_extra h key value d)
  pub set_text : (e : Element) (f : TextField) (s : List ℕ) → IsOver (call.set_text e f s d)
  pub set_output_lossy : (e : Element) (f : TextField) (s : List ℕ) → IsOver (call.set_output_lossy e f s d)
  pub set_timestamp : (e : Element) (m : Moment) → IsOver (call.set_timestamp e m d)
  pub set_time : (e : Element) (seconds nanos : ℕ) → IsOver (call.set_time e seconds nanos d)
  pub set_uuid : (w : Words) → IsOver (call.set_uuid w d)
  pub set_number : (f : NumberField) (n : ℕ) → IsOver (call.set_number f n d)
  pub finish : IsOver (call.finish d)

-- ---- the claim
pub record Builders : Type 0 where
  -- a new report, in areas of so many words and bytes
  pub unnamed_report : (words bytes : ℕ)
      → Comes (Stand (report.report_named none)) ((leb 1 (room_for (zeros words)), cause.RecordsSpent) ∷ []) (call.unnamed_report words bytes)
  pub new_report : (name : List ℕ) (words bytes : ℕ)
      → Comes (Stand (report.report_named (some (filtered name)))) ((leb 1 (room_for (zeros words)), cause.RecordsSpent) ∷ text_tests 0 name (zeros bytes) [])
      (call.new_report name words bytes)
  -- and every call from there
  pub calls : {b : Builder} {words text : List ℕ} {r : Report} → Stands b words text r → FromReport b words text r
  -- until the report is finished (rule B12); after a refusal nothing is open, either (rule B11)
  pub after_end : {d : Draft} → Ended d.builder → FromEnd d
  pub after_refusal : Ended no_builder
