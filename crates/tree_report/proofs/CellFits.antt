-- A report's rows beside its rows by cells: as many, and what fits by cells is what fits. Assumes nothing.
use Prim.Native.Nat.{ℕ, suc, ◌/◌, ◌%◌}
use mathlib.Core.Bool.{Bool, true, false, ◌&&◌}
use mathlib.Core.List.{List, [], ◌∷◌, map}
use mathlib.Core.Option.{Option, none, some}
use mathlib.Core.Path.{◌≡◌, refl, sym, ap, ap₂, ◌∙◌}
use native.Mathlib.Omega.{arith}
use borrow.Author.Tests.{leb-true, leb-false, le-leb, lt-leb}
use lib.Dec.{leb}
use lib.ListN.{length}
use Rattle.schema.specs.of_timestamp.declared.Moment.{Moment}
use Rattle.schema.specs.of_uuids.declared.Words.{Words}
use Rattle.tree_status.specs.of_tree_record.Kinds as kind
use Rattle.tree_report.specs.Report.{Text, Duration, Pair, NonSuccessKind, FlakyOrRerun, flaky, TestRerun, Reason}
use Rattle.tree_report.specs.Report.{TestCaseStatus, success, non_success, TestCase, TestSuite, Report}
use Rattle.tree_report.specs.Report.{skipped as is_skipped}
use Rattle.tree_report.specs.Fields.{given}
use Rattle.tree_report.specs.Encode as row
use Rattle.tree_report.specs.Encode.{kind_of_main, is_flaky_alone, rows_of_each, every}
use Rattle.tree_report.specs.inside.Cells.{Row, of_text, of_number, of_count, uuid_front, uuid_back, fits_cell, fits_moment, fits_time, fits_row}
use Rattle.tree_report.specs.inside.Cells.{pair_row_of, main_row, run_row, status_rows, case_row, case_rows, suite_row, suite_rows, report_row, rows_of}
use Rattle.tree_report.proofs.EncodeLists.{both, Beside, ended, beside, beside-append}
use Rattle.schema.specs.Schema.{text, number, time, timestamp, uuid, flag, may, report, suite, case, main, skipped, run, property}
use Rattle.schema.specs.Texts.{sound_value, sound_slot, sound}
use Rattle.schema.specs.Elements.{report_fields, suite_fields, case_fields, main_fields, skipped_fields, run_fields, pair_fields}

-- ---- one value
and-false : (a b : Bool) → b ≡ false → (a && b) ≡ false
and-false true b e = e
and-false false b e = refl

-- both words of a count have 32 bits exactly if it has 64
fits_count : (n : ℕ) → fits_cell (of_count n) ≡ sound_value number n
fits_count n = go (leb n 18446744073709551615) refl
  where
    go : (t : Bool) → leb n 18446744073709551615 ≡ t → (leb (n % 4294967296) 4294967295 && leb (n / 4294967296) 4294967295) ≡ t
    go true e =
        let l = leb-true n 18446744073709551615 e in
        both (le-leb (n % 4294967296) 4294967295 (omega arith)) (le-leb (n / 4294967296) 4294967295 (omega arith))
    go false e =
        let l = leb-false n 18446744073709551615 e in
        and-false (leb (n % 4294967296) 4294967295) (leb (n / 4294967296) 4294967295) (lt-leb (n / 4294967296) 4294967295 (omega arith))

fits-text : (k : ℕ) (v : Option Text) → fits_cell (of_text v) ≡ sound_slot (may k) text v
fits-text k none = refl
fits-text k (some v) = refl

fits-number : (k : ℕ) (v : Option ℕ) → fits_cell (of_number v) ≡ sound_slot (may k) number v
fits-number k none = refl
fits-number k (some v) = fits_count v

fits-moment : (k : ℕ) (v : Option Moment) → fits_moment v ≡ sound_slot (may k) timestamp v
fits-moment k none = refl
fits-moment k (some v) = refl

fits-time : (k : ℕ) (v : Option Duration) → fits_time v ≡ sound_slot (may k) time v
fits-time k none = refl
fits-time k (some v) = refl

four : (a b c d : Bool) → ((a && b) && (c && d)) ≡ (a && (b && (c && d)))
four true true c d = refl
four true false c d = refl
four false b c d = refl

fits-uuid : (k : ℕ) (v : Option Words) → (fits_cell (uuid_front v) && fits_cell (uuid_back v)) ≡ sound_slot (may k) uuid v
fits-uuid k none = refl
fits-uuid k (some v) = four (leb v.a 4294967295) (leb v.b 4294967295) (leb v.c 4294967295) (leb v.d 4294967295)

fits-flag : (k : ℕ) (b : Bool) → sound_slot (may k) flag (given b tt) ≡ true
fits-flag k true = refl
fits-flag k false = refl

-- ---- timestamp and time stand behind the other parts of a row
joined : (a b c d : Bool) → ((a && b) && (c && d)) ≡ (a && (c && (d && b)))
joined false b c d = refl
joined true true true true = refl
joined true true true false = refl
joined true true false d = refl
joined true false true true = refl
joined true false true false = refl
joined true false false d = refl

moved : (a b c y m t : Bool) → ((a && (b && (c && y))) && (m && t)) ≡ (a && (b && (c && (m && (t && y)))))
moved true true c y m t = joined c y m t
moved true false c y m t = refl
moved false b c y m t = refl

-- a report's UUID is two parts of its row
moved-two : (a b c y m t : Bool) → ((a && (b && (c && y))) && (m && t)) ≡ (a && ((b && c) && (m && (t && y))))
moved-two true true c y m t = joined c y m t
moved-two true false c y m t = refl
moved-two false b c y m t = refl

module _ (s : TestSuite) where
  pub suite-fits : fits_row (suite_row s) ≡ sound suite (suite_fields s)
  unfolding fits_row
  suite-fits =
      (λ i. (sound_value text s.name && (fits-text 1 s.system_out i && (fits-text 2 s.system_err i
      && (fits_count s.counts.tests i && (fits_count s.counts.failures i && (fits_count s.counts.errors i
      && (fits_count s.counts.skipped i && (fits-number 8 s.counts.disabled i && (fits-text 10 s.hostname i && true)))))))))
      && (fits-moment 3 s.timestamp i && fits-time 4 s.time i))
      ∙ moved (sound_value text s.name) (sound_slot (may 1) text s.system_out) (sound_slot (may 2) text s.system_err)
      (sound_value number s.counts.tests && (sound_value number s.counts.failures && (sound_value number s.counts.errors
      && (sound_value number s.counts.skipped && (sound_slot (may 8) number s.counts.disabled && (sound_slot (may 10) text s.hostname && true))))))
      (sound_slot (may 3) timestamp s.timestamp) (sound_slot (may 4) time s.time)

module _ (r : Report) where
  pub report-fits : fits_row (report_row r) ≡ sound report (report_fields r)
  unfolding fits_row
  report-fits =
      (λ i. (fits-text 0 r.name i && (fits_cell (uuid_front r.uuid) && (fits_cell (uuid_back r.uuid)
      && (fits_count r.counts.tests i && (fits_count r.counts.failures i && (fits_count r.counts.errors i
      && (fits_count r.counts.skipped i && (fits-number 8 r.counts.disabled i && true))))))))
      && (fits-moment 3 r.timestamp i && fits-time 4 r.time i))
      ∙ moved-two (sound_slot (may 0) text r.name) (fits_cell (uuid_front r.uuid)) (fits_cell (uuid_back r.uuid))
      (sound_value number r.counts.tests && (sound_value number r.counts.failures && (sound_value number r.counts.errors
      && (sound_value number r.counts.skipped && (sound_slot (may 8) number r.counts.disabled && true)))))
      (sound_slot (may 3) timestamp r.timestamp) (sound_slot (may 4) time r.time)
      ∙ ap (λ (t : Bool). sound_slot (may 0) text r.name && (t && (sound_slot (may 3) timestamp r.timestamp && (sound_slot (may 4) time r.time
      && (sound_value number r.counts.tests && (sound_value number r.counts.failures && (sound_value number r.counts.errors
      && (sound_value number r.counts.skipped && (sound_slot (may 8) number r.counts.disabled && true))))))))) (fits-uuid 1 r.uuid)

module _ (c : TestCase) where
  pub case-fits : fits_row (case_row c) ≡ sound case (case_fields c)
  unfolding fits_row
  case-fits =
      (λ i. (sound_value text c.name && (fits-text 1 c.system_out i && (fits-text 2 c.system_err i
      && (fits-text 5 c.classname i && (fits-number 6 c.assertions i && true)))))
      && (fits-moment 3 c.timestamp i && fits-time 4 c.time i))
      ∙ moved (sound_value text c.name) (sound_slot (may 1) text c.system_out) (sound_slot (may 2) text c.system_err)
      (sound_slot (may 5) text c.classname && (sound_slot (may 6) number c.assertions && true))
      (sound_slot (may 3) timestamp c.timestamp) (sound_slot (may 4) time c.time)

module _ (family : FlakyOrRerun) (r : TestRerun) where
  pub run_fits : fits_row (run_row family r) ≡ sound run (run_fields r)
  unfolding fits_row
  run_fits =
      (λ i. (fits-text 0 r.message i && (fits-text 1 r.system_out i && (fits-text 2 r.system_err i
      && (fits-text 5 r.type i && (fits-text 6 r.description i && (fits-text 7 r.stack_trace i && true))))))
      && (fits-moment 3 r.timestamp i && fits-time 4 r.time i))
      ∙ moved (sound_slot (may 0) text r.message) (sound_slot (may 1) text r.system_out) (sound_slot (may 2) text r.system_err)
      (sound_slot (may 5) text r.type && (sound_slot (may 6) text r.description && (sound_slot (may 7) text r.stack_trace && true)))
      (sound_slot (may 3) timestamp r.timestamp) (sound_slot (may 4) time r.time)

and-true : (a : Bool) → (a && true) ≡ a
and-true true = refl
and-true false = refl

module _ (r : Reason) where
  abbrev whole : Bool
  whole = sound_slot (may 0) text r.message && (sound_slot (may 5) text r.type && (sound_slot (may 6) text r.description && true))

  reason-fits : (k : ℕ) (b : Bool) → fits_row (main_row k b r) ≡ whole
  unfolding fits_row
  reason-fits k b =
      (λ i. (fits-text 0 r.message i && (fits-text 5 r.type i && (fits-text 6 r.description i && true))) && true)
      ∙ and-true whole

  pub main-fits : (k : ℕ) (b : Bool) → fits_row (main_row k b r) ≡ sound main (main_fields b r)
  main-fits k b =
      reason-fits k b
      ∙ (λ i. sound_slot (may 0) text r.message && (sound_slot (may 5) text r.type && (sound_slot (may 6) text r.description && (sym (fits-flag 9 b) i && true))))

  pub skipped-fits : fits_row (main_row kind.skipped false r) ≡ sound skipped (skipped_fields r)
  skipped-fits = reason-fits kind.skipped false

pub pair_fits : (k : ℕ) (p : Pair) → fits_row (pair_row_of k p) ≡ sound property (pair_fields p)
unfolding fits_row
pair_fits k p = and-true (sound_value text p.key && (sound_value text p.value && true))

-- ---- the rows of a report, side by side
pub record Alike (R : row.Row → Row → Type 0) : Type 0 where
  pub report : (r : Report) → R (row.report_row r) (report_row r)
  pub suite : (s : TestSuite) → R (row.suite_row s) (suite_row s)
  pub case : (c : TestCase) → R (row.case_row c) (case_row c)
  pub pair : (k : ℕ) (p : Pair) → R (row.pair_row_of k p) (pair_row_of k p)
  pub main : (k : NonSuccessKind) (b : Bool) (r : Reason) → R (row.main_row k b r) (main_row (kind_of_main k) b r)
  pub skipped : (r : Reason) → R (row.skipped_row r) (main_row kind.skipped false r)
  pub run : (family : FlakyOrRerun) (r : TestRerun) → R (row.run_row family r) (run_row family r)

module _ {R : row.Row → Row → Type 0} (a : Alike R) where
  each-one : {A : Type 0} (f : A → row.Row) (g : A → Row) → ((x : A) → R (f x) (g x)) → (xs : List A) → Beside R (map f xs) (map g xs)
  each-one f g h [] = ended
  each-one f g h (x ∷ xs) = beside (h x) (each-one f g h xs)

  each-some : {A : Type 0} (f : A → List row.Row) (g : A → List Row) → ((x : A) → Beside R (f x) (g x)) → (xs : List A) → Beside R (rows_of_each f xs) (rows_of_each g xs)
  each-some f g h [] = ended
  each-some f g h (x ∷ xs) = beside-append (h x) (each-some f g h xs)

  pairs-alike : (k : ℕ) (ps : List Pair) → Beside R (map (row.pair_row_of k) ps) (map (pair_row_of k) ps)
  pairs-alike k ps = each-one (row.pair_row_of k) (pair_row_of k) (a.pair k) ps

  runs-alike : (family : FlakyOrRerun) (rs : List TestRerun) → Beside R (map (row.run_row family) rs) (map (run_row family) rs)
  runs-alike family rs = each-one (row.run_row family) (run_row family) (a.run family) rs

  status-alike : (s : TestCaseStatus) → Beside R (row.status_rows s) (status_rows s)
  status-alike (success runs) = runs-alike flaky runs
  status-alike (non_success k reason family runs) = beside (a.main k (is_flaky_alone family runs) reason) (runs-alike family runs)
  status-alike (is_skipped reason) = beside (a.skipped reason) ended

  case-alike : (c : TestCase) → Beside R (row.case_rows c) (case_rows c)
  case-alike c = beside (a.case c) (beside-append (pairs-alike kind.case_extra c.extra) (beside-append (pairs-alike kind.case_property c.properties) (status-alike c.status)))

  suite-alike : (s : TestSuite) → Beside R (row.suite_rows s) (suite_rows s)
  suite-alike s =
      beside (a.suite s)
      (beside-append (pairs-alike kind.suite_extra s.extra)
      (beside-append (pairs-alike kind.suite_property s.properties) (each-some row.case_rows case_rows case-alike s.cases)))

  -- what holds of each element's two rows holds of a report's, side by side
  pub rows_alike : (r : Report) → Beside R (row.rows_of r) (rows_of r)
  rows_alike r = beside (a.report r) (each-some row.suite_rows suite_rows suite-alike r.suites)

abbrev SameFit : row.Row → Row → Type 0
SameFit x y = fits_row y ≡ row.fits_row x

all_fit : Alike SameFit
unfolding row.fits_row
all_fit = record {
  report = report-fits;
  suite = suite-fits;
  case = case-fits;
  pair = pair_fits;
  main = λ k b r. main-fits r (kind_of_main k) b;
  skipped = skipped-fits;
  run = run_fits;
}

every-same : {xs : List row.Row} {ys : List Row} → Beside SameFit xs ys → every fits_row ys ≡ every row.fits_row xs
every-same ended = refl
every-same (beside e h) = ap₂ (λ (a b : Bool). a && b) e (every-same h)

-- a report's rows fit by cells exactly if they fit
pub rows_fit : (r : Report) → every fits_row (rows_of r) ≡ every row.fits_row (row.rows_of r)
rows_fit r = every-same (rows_alike all_fit r)

length-same : {R : row.Row → Row → Type 0} {xs : List row.Row} {ys : List Row} → Beside R xs ys → length xs ≡ length ys
length-same ended = refl
length-same (beside r h) = ap suc (length-same h)

pub length-rows : (r : Report) → length (row.rows_of r) ≡ length (rows_of r)
length-rows r = length-same (rows_alike all_fit r)
