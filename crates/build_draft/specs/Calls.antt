-- The calls of a builder: what each makes of a draft, and when it refuses. A call of the code equals one of these on every builder and
-- all areas. Definitions only.
use Rattle.std.specs.Prelude.{ℕ, ◌+◌, ◌-◌, ◌*◌, List, Bool, true, false, cond, not, ◌&&◌, ◌||◌, drop, leb, ltb, eqb}
use Rattle.text_lossy.specs.of_area.Area.{zeros}
use Rattle.text_lossy.specs.of_text_filter.Filter.{filtered}
use Rattle.tree_put.specs.of_timestamp.Timestamp.{in_range}
use Rattle.tree_put.specs.of_timestamp.declared.Moment.{Moment}
use Rattle.tree_put.specs.of_uuids.declared.Words.{Words}
use Rattle.tree_counts.specs.of_refusal.Refusal.{nowhere, Outcome, accepted}
use Rattle.tree_counts.specs.of_refusal.declared.Cause.TheVariants as cause
use Rattle.tree_put.specs.of_tree_record.Words as word
use Rattle.tree_put.specs.of_tree_record.Bits as bit
use Rattle.tree_put.specs.of_tree_record.Kinds as kind
use Rattle.tree_put.specs.of_tree_record.Record.{has_bit, marked, unmarked}
use Rattle.tree_put.specs.Put.{put_pair, put_text, put_uuid, put_moment, put_time}
use Rattle.tree_counts.specs.declared.Outcome.{Outcome as Status}
use Rattle.tree_counts.specs.declared.Outcome.TheVariants as status
use Rattle.tree_counts.specs.Counts.{with_case}
use Rattle.build_draft.specs.declared.Builder.{Builder}
use Rattle.build_draft.specs.declared.Element.{Element}
use Rattle.build_draft.specs.declared.Holder.{Holder}
use Rattle.build_draft.specs.declared.Holder.TheVariants as holder
use Rattle.build_draft.specs.declared.TextField.{TextField}
use Rattle.build_draft.specs.declared.NumberField.{NumberField}
use Rattle.build_draft.specs.declared.NumberField.TheVariants.{Assertions, Disabled}
use Rattle.build_draft.specs.declared.NonSuccessKind.{NonSuccessKind}
use Rattle.build_draft.specs.declared.FlakyOrRerun.{FlakyOrRerun}
use Rattle.build_draft.specs.declared.FlakyOrRerun.TheVariants.{Flaky, Rerun}
use Rattle.build_draft.specs.Draft.{Draft, no_builder, ◌>>=◌, asks, is_record, kind_at, is_of, on_record_of, last_of, mark_of, with_words, with_builder}
use Rattle.build_draft.specs.Parts.{taking, keeping, putting, naming, counts_at, put_number, counting, summing, place_for, may_stand_behind}
use Rattle.build_draft.specs.Parts.{key_place, exchanged, run_kind, turn_runs, has_text, word_for, bit_for, is_output, has_times}

-- ---- reports, suites and cases
-- a builder with these marks
abbrev pub marks : ℕ → ℕ → ℕ → ℕ → Builder → Builder
marks report suite case main b = record { records = b.records; bytes = b.bytes; report = report; suite = suite; case = case; main = main }

-- `Report::unnamed`, in areas of so many words and bytes, whatever they held (rule B1)
unfoldable pub unnamed_report : ℕ → ℕ → Outcome Draft
unnamed_report words bytes =
    taking kind.report (record { builder = no_builder; words = zeros words; text = zeros bytes }) >>= λ d.
    accepted (with_builder d (marks 0 nowhere nowhere nowhere d.builder))

-- `Report::new` (rule B1)
unfoldable pub new_report : List ℕ → ℕ → ℕ → Outcome Draft
new_report name words bytes = unnamed_report words bytes >>= naming name

-- `Report::add_test_suite`: the suite before is added to the sums (17), and the new one is open; its record (12), its name (2, 13)
unfoldable pub open_suite : Draft → Outcome Draft
open_suite d =
    asks (is_of d.builder d.words d.builder.report kind.report) cause.NotLayout
    (summing d >>= λ e.
    taking kind.suite e >>= λ f.
    accepted (with_builder f (marks f.builder.report (last_of f.builder) nowhere nowhere f.builder)))

unfoldable pub add_test_suite : List ℕ → Draft → Outcome Draft
add_test_suite name d = open_suite d >>= naming name

-- `TestSuite::add_test_case`: the open suite's counts (17), its record (12), its name (2, 13), and its main, a record of its own (12)
unfoldable pub open_case : Status → Draft → Outcome Draft
open_case s d =
    asks (is_of d.builder d.words d.builder.suite kind.suite) cause.NotLayout
    (counting d.builder.suite (with_case (counts_at d.words d.builder.suite) s) d >>= λ e.
    taking kind.case e >>= λ f.
    accepted (with_builder f (marks f.builder.report f.builder.suite (last_of f.builder) nowhere f.builder)))

abbrev pub main_kind : Status → ℕ
main_kind status.Success = 0
main_kind status.Failure = kind.failure
main_kind status.Error = kind.error
main_kind status.Skipped = kind.skipped

-- no main is success
unfoldable pub open_main : Status → Draft → Outcome Draft
open_main s d =
    cond (eqb (main_kind s) 0) (accepted d)
    (taking (main_kind s) d >>= λ e.
    accepted (with_builder e (marks e.builder.report e.builder.suite e.builder.case (last_of e.builder) e.builder)))

-- rule B5
unfoldable pub add_test_case : List ℕ → Status → Draft → Outcome Draft
add_test_case name s d = open_case s d >>= naming name >>= open_main s

-- ---- runs
-- the open case has a failure or error
unfoldable pub is_non_success : Draft → Bool
is_non_success d =
    let b = d.builder in
    is_of b d.words b.main kind.failure || is_of b d.words b.main kind.error

-- the runs of the open case's failure or error stand behind it
abbrev pub has_runs : Draft → Bool
has_runs d = not (eqb (d.builder.main + 1) d.builder.records)

-- Rerun where there are no runs, unless the flaky bit says otherwise (rule B9)
abbrev pub family_of : Draft → FlakyOrRerun
family_of d =
    cond (has_runs d) (cond (leb (kind_at d.words (last_of d.builder)) kind.flaky_error) Flaky Rerun)
    (cond (has_bit bit.flaky (drop (d.builder.main * 32) d.words)) Flaky Rerun)

-- `TestCaseStatus::add_rerun` on the open case (rule B9): flaky on success, of its family on failure and error, none on skipped (15)
unfoldable pub add_rerun : NonSuccessKind → Draft → Outcome Draft
add_rerun k d =
    let b = d.builder in
    asks (is_of b d.words b.case kind.case) cause.NotLayout
    (cond (eqb b.main nowhere) (taking (run_kind Flaky k) d)
    (asks (is_non_success d) cause.NotLayout (taking (run_kind (family_of d) k) (with_words d (on_record_of b.main (unmarked bit.flaky) d.words)))))

-- the flaky bit of a failure or error without runs
abbrev pub flagged : FlakyOrRerun → List ℕ → List ℕ
flagged Flaky r = marked bit.flaky r
flagged Rerun r = unmarked bit.flaky r

-- `TestCaseStatus::set_rerun_kind` on the open case's failure or error (rule B4)
unfoldable pub set_rerun_kind : FlakyOrRerun → Draft → Outcome Draft
set_rerun_kind f d =
    let b = d.builder in
    asks (is_non_success d) cause.NotLayout
    (accepted (with_words d (cond (has_runs d) (turn_runs f (b.main + 1) (b.records - (b.main + 1)) d.words) (on_record_of b.main (flagged f) d.words))))

-- ---- properties and extras of the open suite or case
-- `IndexMap::insert`: an extra whose key is there gets the new value in the old place
abbrev pub is_extra : ℕ → Bool
is_extra κ = leb kind.suite_extra κ

-- a record of kind κ is a suite's, else a case's
abbrev pub is_suites : ℕ → Bool
is_suites κ = eqb κ kind.suite_extra || eqb κ kind.suite_property

-- the mark of the element that has records of kind κ
abbrev pub holder_of : ℕ → Builder → ℕ
holder_of κ b = cond (is_suites κ) b.suite b.case

-- and whether it is open (rule B4)
abbrev pub is_held : ℕ → Builder → List ℕ → Bool
is_held κ b words = cond (is_suites κ) (is_of b words b.suite kind.suite) (is_of b words b.case kind.case)

-- the place of the record with this key among the element's extras, or no place before `place_for` (rule B7)
abbrev pub old_place : ℕ → List ℕ → List ℕ → Draft → ℕ
old_place κ key text d =
    cond (is_extra κ) (key_place text d.words key (holder_of κ d.builder + 1) (place_for d - (holder_of κ d.builder + 1))) (place_for d)

-- the record that was taken last gets its texts, and stands before the case's main
unfoldable pub put_pair_in : ℕ → ℕ → ℕ → ℕ → Draft → Draft
put_pair_in place x y z d =
    let b = d.builder in
    let words = on_record_of (last_of b) (λ r. put_text word.value bit.value y (z - y) (put_text word.key bit.key x (y - x) r)) d.words in
    cond (ltb place (last_of b)) (record { builder = marks b.report b.suite b.case (place + 1) b; words = exchanged place words; text = d.text }) (with_words d words)

-- in the order of rule B5: both texts (2, 13 of the first, then of the second), then a record if the key is new (12)
unfoldable pub add_pair : ℕ → List ℕ → List ℕ → Draft → Outcome Draft
add_pair κ key value d =
    asks (is_held κ d.builder d.words && may_stand_behind κ (kind_at d.words (place_for d - 1))) cause.NotLayout
    (keeping false key d >>= λ e.
    keeping false value e >>= λ f.
    (let x = d.builder.bytes in
    let y = e.builder.bytes in
    let z = f.builder.bytes in
    let i = old_place κ (filtered key) f.text d in
    cond (ltb i (place_for d)) (accepted (with_words f (on_record_of i (put_pair word.value y (z - y)) f.words)))
    (taking κ f >>= λ g. accepted (put_pair_in (place_for d) x y z g))))

abbrev pub property_kind : Holder → ℕ
property_kind holder.Suite = kind.suite_property
property_kind holder.Case = kind.case_property

abbrev pub extra_kind : Holder → ℕ
extra_kind holder.Suite = kind.suite_extra
extra_kind holder.Case = kind.case_extra

unfoldable pub add_property : Holder → List ℕ → List ℕ → Draft → Outcome Draft
add_property h key value d = add_pair (property_kind h) key value d

unfoldable pub add_extra : Holder → List ℕ → List ℕ → Draft → Outcome Draft
add_extra h key value d = add_pair (extra_kind h) key value d

-- ---- setters
-- a field that the element doesn't have is refused with 15 (rule B4)
unfoldable pub set_text : Element → TextField → List ℕ → Draft → Outcome Draft
set_text e f s d =
    let i = mark_of d.builder e in
    asks (has_text (kind_at d.words i) f) cause.NotLayout (putting i (word_for f) (bit_for f) false s d)

-- `set_system_out_lossy`, `set_system_err_lossy`
unfoldable pub set_output_lossy : Element → TextField → List ℕ → Draft → Outcome Draft
set_output_lossy e f s d =
    let i = mark_of d.builder e in
    asks (is_output f && has_text (kind_at d.words i) f) cause.NotLayout (putting i (word_for f) (bit_for f) true s d)

-- record i is there and has times
abbrev pub is_timed : ℕ → Draft → Bool
is_timed i d = is_record d.builder d.words i && has_times (kind_at d.words i)

-- rule B10
unfoldable pub set_timestamp : Element → Moment → Draft → Outcome Draft
set_timestamp e m d =
    let i = mark_of d.builder e in
    asks (is_timed i d) cause.NotLayout (asks (in_range m) cause.BadTimestamp (accepted (with_words d (on_record_of i (put_moment m) d.words))))

-- rule B10
unfoldable pub set_time : Element → ℕ → ℕ → Draft → Outcome Draft
set_time e seconds nanos d =
    let i = mark_of d.builder e in
    asks (is_timed i d) cause.NotLayout
    (asks (leb seconds 8388607 && leb nanos 999999999) cause.BadTime (accepted (with_words d (on_record_of i (put_time (seconds, nanos)) d.words))))

unfoldable pub set_uuid : Words → Draft → Outcome Draft
set_uuid w d =
    let i = d.builder.report in
    asks (is_of d.builder d.words i kind.report) cause.NotLayout (accepted (with_words d (on_record_of i (put_uuid w) d.words)))

-- a case's assertions; a suite's `disabled`, which the crate has set by hand
unfoldable pub set_number : NumberField → ℕ → Draft → Outcome Draft
set_number Assertions n d =
    let i = d.builder.case in
    asks (is_of d.builder d.words i kind.case) cause.NotLayout (accepted (with_words d (on_record_of i (put_number word.assertions bit.assertions n) d.words)))
set_number Disabled n d =
    let i = d.builder.suite in
    asks (is_of d.builder d.words i kind.suite) cause.NotLayout (accepted (with_words d (on_record_of i (put_number word.disabled bit.disabled n) d.words)))

-- ---- the end: the last suite is added to the sums (17), and nothing is open any more, so that only a new report can follow (rule B12)
unfoldable pub finish : Draft → Outcome Draft
finish d =
    asks (is_of d.builder d.words d.builder.report kind.report) cause.NotLayout
    (summing d >>= λ e. accepted (with_builder e (marks nowhere nowhere nowhere nowhere e.builder)))
