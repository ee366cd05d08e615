-- `set_timestamp`, `set_time`, `set_uuid` and the setters of a number, as operations on the report. Assumes nothing.
use Prim.Native.Nat.{ℕ}
use mathlib.Core.Bool.{Bool, true, false, ◌&&◌, false≢true}
use mathlib.Core.List.{List, [], ◌∷◌}
use mathlib.Core.Option.{Option, none, some}
use mathlib.Core.Path.{◌≡◌, refl, sym, ap, ◌∙◌}
use lib.Dec.{leb}
use Rattle.tree_placed.specs.of_refusal.declared.Cause.TheVariants as cause
use Rattle.tree_placed.specs.of_timestamp.Timestamp.{in_range}
use Rattle.tree_placed.specs.of_timestamp.declared.Moment.{Moment}
use Rattle.tree_placed.specs.of_uuids.declared.Words.{Words}
use Rattle.tree_placed.specs.of_tree_record.Kinds as kind
use Rattle.tree_placed.specs.of_tree_put.Put.{put_uuid, put_moment, put_time}
use Rattle.tree_placed.specs.of_tree_report.Report.{Duration, TestCase, TestSuite, Report}
use Rattle.tree_placed.specs.of_tree_report.inside.Cells.{Row, is_given, of_number, uuid_front, uuid_back, fits_row, report_row, rows_of_each, suite_rows}
use Rattle.tree_placed.proofs.of_tree_report.EncodeLists.{both, and_left, and_right}
use Rattle.tree_placed.specs.inside.Placed.{Placed, InTexts}
use Rattle.tree_placed.specs.inside.Changed.{with_middle, with_timestamp, with_time, with_third, with_sixth}
use Rattle.build_draft.specs.declared.Builder.{Builder}
use Rattle.build_draft.specs.declared.Element.{Element}
use Rattle.build_draft.specs.declared.Element.TheVariants as element
use Rattle.build_draft.specs.declared.NumberField.{NumberField}
use Rattle.build_draft.specs.declared.NumberField.TheVariants as number
use Rattle.build_draft.specs.Draft.{kind_at, mark_of, is_record, is_of, on_record_of}
use Rattle.build_draft.specs.Parts.{has_times, put_number}
use Rattle.build_draft.specs.Calls as call
use Rattle.build_report.specs.Operations as report
use Rattle.build_report.specs.Operations.{last_in, open_case, target_of, kind_of_target, suite_target, case_target, Target}
use Rattle.build_report.specs.Stands.{Marked, Stands, Comes, gives, Stand}
use Rattle.build_report.specs.Builders.{is_some, is_number, has_open_suite, has_open_case, has_open, are_words}
use Rattle.build_report.proofs.SpotTypes.{Spot}
use Rattle.build_report.proofs.Marks.{marked-suites}
use Rattle.build_report.proofs.PlaceTypes.{Place, at-report, at-suite, at-case, at-main, at-run, at_pair, at_none}
use Rattle.build_report.proofs.PlaceOf.{place-of}
use Rattle.build_report.proofs.PlaceReads.{reads}
use Rattle.build_report.proofs.Coming.{comes-asks, comes-tests, comes-anyway}
use Rattle.build_report.proofs.Storing.{rows-many, row_fits, Becomes, stored-set}
use Rattle.build_report.proofs.Becoming.{becomes_on, moment-becomes, time-becomes, uuid-becomes, assertions-becomes, disabled-becomes}
use Rattle.build_report.proofs.Fitting.{moment-fits, time-fits, middle-fits, third-fits, sixth-fits, number_fits}
use Rattle.build_report.proofs.Targets.{times-test, Altered, report-altered, suite-altered, case-altered, run-altered}
use Rattle.build_report.proofs.Opens.{report-open, suite-open, case_open}

-- ---- the rows
module _ {b : Builder} (r : Report) (m : Marked b r) where
  moment-altered : (w : Moment) {i : ℕ} {t : Target} → Place r i t → has_times (kind_of_target t) ≡ true → Altered b r i (with_timestamp (some w)) (report.set_timestamp t w r)
  moment-altered w (at-report n) h = report-altered r m (with_timestamp (some w)) (report.set_timestamp report.report w r) refl n refl
  moment-altered w (at-suite e n) h = suite-altered r m (with_timestamp (some w)) _ e n refl refl refl refl
  moment-altered w (at-case e d n) h = case-altered r m (with_timestamp (some w)) e d _ n refl refl refl refl
  moment-altered w (at-main e d y n) h = absurd (false≢true h)
  moment-altered w (at-run e d l n) h = run-altered r m (with_timestamp (some w)) e d _ l n (λ g x. refl)
  moment-altered w (at_pair front back κ p q n s) h = absurd (false≢true h)
  moment-altered w (at_none n) h = absurd (false≢true h)

  time-altered : (w : Duration) {i : ℕ} {t : Target} → Place r i t → has_times (kind_of_target t) ≡ true → Altered b r i (with_time (some w)) (report.set_time t w r)
  time-altered w (at-report n) h = report-altered r m (with_time (some w)) (report.set_time report.report w r) refl n refl
  time-altered w (at-suite e n) h = suite-altered r m (with_time (some w)) _ e n refl refl refl refl
  time-altered w (at-case e d n) h = case-altered r m (with_time (some w)) e d _ n refl refl refl refl
  time-altered w (at-main e d y n) h = absurd (false≢true h)
  time-altered w (at-run e d l n) h = run-altered r m (with_time (some w)) e d _ l n (λ g x. refl)
  time-altered w (at_pair front back κ p q n s) h = absurd (false≢true h)
  time-altered w (at_none n) h = absurd (false≢true h)

  assertions-altered : (n : ℕ) {i : ℕ} (q : Option TestCase) → Place r i (case_target q) → is_some q ≡ true → Altered b r i (with_third (of_number (some n))) (report.set_number number.Assertions n r)
  assertions-altered n none p t = absurd (false≢true t)
  assertions-altered n (some c) (at-case e d l) t = case-altered r m (with_third (of_number (some n))) e d _ l refl refl refl refl

  disabled-altered : (n : ℕ) {i : ℕ} (q : Option TestSuite) → Place r i (suite_target q) → is_some q ≡ true → Altered b r i (with_sixth (of_number (some n))) (report.set_number number.Disabled n r)
  disabled-altered n none p t = absurd (false≢true t)
  disabled-altered n (some s) (at-suite e l) t = suite-altered r m (with_sixth (of_number (some n))) _ e l refl refl refl refl

-- a report's UUID has no presence bit for its second half
no-bit : (u : Option Words) → is_given (uuid_back u) ≡ false
no-bit none = refl
no-bit (some w) = refl

module _ {b : Builder} {words text : List ℕ} {r : Report} (h : Stands b words text r) where
  -- a change of record i that keeps the marks
  value-stands : {i : ℕ} {r' : Report} {change : Row → Row} (g : List ℕ → List ℕ) (a : Altered b r i change r') → fits_row (change a.row) ≡ true
      → ((p : Placed) → InTexts h.stored.texts p → Becomes g h.stored.texts p (change p.row))
      → Stand r' (record { builder = b; words = on_record_of i g words; text = text })
  value-stands {change = change} g a k c = record {
    stored = stored-set h.stored a.spot g k (λ p e i. becomes_on (c p i) (ap change e));
    marks = a.marks;
  }

  place : (e : Element) → Place r (mark_of b e) (target_of e r)
  place e = place-of r h.marks (sym (rows-many h.stored)) e

  pub set_timestamp : (e : Element) (m : Moment)
      → Comes (Stand (report.set_timestamp (target_of e r) m r)) ((has_times (kind_of_target (target_of e r)), cause.NotLayout) ∷ (in_range m, cause.BadTimestamp) ∷ [])
      (call.set_timestamp e m (record { builder = b; words = words; text = text }))
  unfolding call.set_timestamp
  set_timestamp e m =
      let i : ℕ = mark_of b e in
      comes-tests (is_record b words i && has_times (kind_at words i)) (has_times (kind_of_target (target_of e r))) cause.NotLayout (times-test h.stored (reads r (place e)))
      (λ t. comes-asks (in_range m) cause.BadTimestamp
      (λ k. let a = moment-altered r h.marks m (place e) t in
      gives (value-stands (put_moment m) a (moment-fits a.row (row_fits h.stored a.spot) (some m) k) (λ p i. moment-becomes i m))))

  pub set_time : (e : Element) (seconds nanos : ℕ)
      → Comes (Stand (report.set_time (target_of e r) (record { seconds = seconds; nanos = nanos }) r))
      ((has_times (kind_of_target (target_of e r)), cause.NotLayout) ∷ (leb seconds 8388607 && leb nanos 999999999, cause.BadTime) ∷ [])
      (call.set_time e seconds nanos (record { builder = b; words = words; text = text }))
  unfolding call.set_time
  set_time e seconds nanos =
      let i : ℕ = mark_of b e in
      let w : Duration = record { seconds = seconds; nanos = nanos } in
      comes-tests (is_record b words i && has_times (kind_at words i)) (has_times (kind_of_target (target_of e r))) cause.NotLayout (times-test h.stored (reads r (place e)))
      (λ t. comes-asks (leb seconds 8388607 && leb nanos 999999999) cause.BadTime
      (λ k. let a = time-altered r h.marks w (place e) t in
      gives (value-stands (put_time (seconds, nanos)) a (time-fits a.row (row_fits h.stored a.spot) (some w) k) (λ p i. time-becomes i (seconds, nanos)))))

  pub set_number : (f : NumberField) (n : ℕ) → is_number n ≡ true
      → Comes (Stand (report.set_number f n r)) ((has_open f r, cause.NotLayout) ∷ []) (call.set_number f n (record { builder = b; words = words; text = text }))
  unfolding call.set_number
  set_number number.Assertions n k =
      comes-tests (is_of b words b.case kind.case) (has_open_case r) cause.NotLayout (case_open h)
      (λ t. let a = assertions-altered r h.marks n (open_case (last_in r.suites)) (place element.Case) t in
      gives (value-stands (put_number 20 6 n) a (third-fits a.row (row_fits h.stored a.spot) (of_number (some n)) (number_fits n k)) (λ p i. assertions-becomes i n)))
  set_number number.Disabled n k =
      comes-tests (is_of b words b.suite kind.suite) (has_open_suite r) cause.NotLayout (suite-open h)
      (λ t. let a = disabled-altered r h.marks n (last_in r.suites) (place element.Suite) t in
      gives (value-stands (put_number 26 8 n) a (sixth-fits a.row (row_fits h.stored a.spot) (of_number (some n)) (number_fits n k)) (λ p i. disabled-becomes i n)))

  -- the report's record is always there
  pub set_uuid : (w : Words) → are_words w ≡ true
      → Comes (Stand (report.set_uuid w r)) [] (call.set_uuid w (record { builder = b; words = words; text = text }))
  unfolding call.set_uuid
  set_uuid w k =
      let s = h.stored in
      let r' : Report = report.set_uuid w r in
      let t : Spot r b.report (report_row r) r' (report_row r') = record { front = []; back = rows_of_each suite_rows r.suites; here = refl; there = refl; at = sym h.marks.report } in
      let la : Bool = leb w.a 4294967295 in
      let lb : Bool = leb w.b 4294967295 in
      let lc : Bool = leb w.c 4294967295 in
      let ld : Bool = leb w.d 4294967295 in
      let k1 = and_right la (lb && (lc && ld)) k in
      let f = middle-fits (report_row r) (row_fits s t) (uuid_front (some w)) (uuid_back (some w)) (both (and_left la (lb && (lc && ld)) k) (and_left lb (lc && ld) k1)) (and_right lb (lc && ld) k1) in
      comes-anyway (is_of b words b.report kind.report) cause.NotLayout (report-open h)
      (gives (record {
        stored = stored-set s t (put_uuid w) f
            (λ p e i. becomes_on (uuid-becomes i w (ap (λ (x : Row). is_given x.err) e ∙ no-bit r.uuid)) (ap (with_middle (uuid_front (some w)) (uuid_back (some w))) e));
        marks = marked-suites r r' refl h.marks;
      }))
