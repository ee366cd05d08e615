-- A plain case that fits the areas has clean texts and whole times. Assumes nothing.
use Prim.Native.Nat.{ℕ}
use mathlib.Core.Bool.{Bool, true, false, not}
use mathlib.Core.List.{List, [], ◌∷◌, ◌++◌, map}
use mathlib.Core.Option.{Option}
use mathlib.Core.Path.{◌≡◌, refl}
use Rattle.round_elements.specs.of_tree_record.Kinds as kind
use Rattle.round_elements.specs.of_tree_report.Report.{Text, FlakyOrRerun, flaky, TestRerun, Reason, TestCaseStatus, success, non_success, skipped, TestCase}
use Rattle.round_elements.specs.of_tree_report.inside.Cells.{Row, every, fits_row, pair_row_of, main_row, kind_of_main, run_row, is_flaky_alone, status_rows, case_row, case_rows}
use Rattle.round_elements.proofs.of_tree_report.EncodeLists.{both, and_left, and_right, Each, done, more}
use Rattle.round_elements.specs.of_write_report.Written.{each, is_empty}
use Rattle.round_elements.specs.Plain.{listed, reasons_in, runs_in, bare}
use Rattle.round_elements.specs.inside.PlainCase.{whole_time, whole_moment, WholeTime, WholeMoment, PlainCase}
use Rattle.round_elements.proofs.Fits.{fitting}
use Rattle.round_case.proofs.Clean.{Cleans, cleans, describes}
use Rattle.round_case.proofs.Runs.{RunClean}
use Rattle.round_case.proofs.Statuses.{ReasonClean, StatusClean}

module _ {A : Type 0} (p : A → Bool) where
  -- what holds of every element of two lists joined holds of every one of the first
  pub every_front : (xs ys : List A) → every p (xs ++ ys) ≡ true → every p xs ≡ true
  every_front [] ys e = refl
  every_front (x ∷ xs) ys e = both (and_left (p x) (every p (xs ++ ys)) e) (every_front xs ys (and_right (p x) (every p (xs ++ ys)) e))

  -- what holds of every element of two lists joined holds of every one of the second
  pub every-behind : (xs ys : List A) → every p (xs ++ ys) ≡ true → every p ys ≡ true
  every-behind [] ys e = e
  every-behind (x ∷ xs) ys e = every-behind xs ys (and_right (p x) (every p (xs ++ ys)) e)

-- ---- runs
abbrev run_outputs : TestRerun → List Text
run_outputs e = listed e.stack_trace ++ (listed e.system_out ++ listed e.system_err)

abbrev some-text : Text → Bool
some-text t = not (is_empty t)

-- what a plain report asks of runs
record RunsPlain (family : FlakyOrRerun) (es : List TestRerun) : Type 0 where
  fits : every fits_row (map (run_row family) es) ≡ true
  descriptions : every bare (each (λ (e : TestRerun). listed e.description) es) ≡ true
  described : every some-text (each (λ (e : TestRerun). listed e.description) es) ≡ true
  outputs : every bare (each run_outputs es) ≡ true
  times : every whole_time (each (λ (e : TestRerun). listed e.time) es) ≡ true
  timestamps : every whole_moment (each (λ (e : TestRerun). listed e.timestamp) es) ≡ true

module _ {A B : Type 0} (p : B → Bool) (f : A → List B) (x : A) (xs : List A) (e : every p (each f (x ∷ xs)) ≡ true) where
  here : every p (f x) ≡ true
  here = every_front p (f x) (each f xs) e

  behind : every p (each f xs) ≡ true
  behind = every-behind p (f x) (each f xs) e

runs-clean : (family : FlakyOrRerun) (es : List TestRerun) → RunsPlain family es → Each (RunClean family) es
runs-clean family [] h = done
runs-clean family (e ∷ es) h =
    let fits : fits_row (run_row family e) ≡ true = and_left (fits_row (run_row family e)) (every fits_row (map (run_row family) es)) h.fits in
    let g = fitting (run_row family e) fits in
    let outs : every bare (run_outputs e) ≡ true = here bare run_outputs e es h.outputs in
    let two : every bare (listed e.system_out ++ listed e.system_err) ≡ true = every-behind bare (listed e.stack_trace) (listed e.system_out ++ listed e.system_err) outs in
    more
    (record {
      fits = fits;
      time = here whole_time (λ (x : TestRerun). listed x.time) e es h.times;
      timestamp = here whole_moment (λ (x : TestRerun). listed x.timestamp) e es h.timestamps;
      trace = cleans e.stack_trace g.fourth (every_front bare (listed e.stack_trace) (listed e.system_out ++ listed e.system_err) outs);
      out = cleans e.system_out g.out (every_front bare (listed e.system_out) (listed e.system_err) two);
      err = cleans e.system_err g.err (every-behind bare (listed e.system_out) (listed e.system_err) two);
      description = describes e.description g.third (here bare (λ (x : TestRerun). listed x.description) e es h.descriptions)
          (here some-text (λ (x : TestRerun). listed x.description) e es h.described);
    })
    (runs-clean family es (record {
      fits = and_right (fits_row (run_row family e)) (every fits_row (map (run_row family) es)) h.fits;
      descriptions = behind bare (λ (x : TestRerun). listed x.description) e es h.descriptions;
      described = behind some-text (λ (x : TestRerun). listed x.description) e es h.described;
      outputs = behind bare run_outputs e es h.outputs;
      times = behind whole_time (λ (x : TestRerun). listed x.time) e es h.times;
      timestamps = behind whole_moment (λ (x : TestRerun). listed x.timestamp) e es h.timestamps;
    }))

-- ---- a status
reason-clean : (k : ℕ) (is_flaky : Bool) (m : Reason) → fits_row (main_row k is_flaky m) ≡ true
    → every bare (listed m.description) ≡ true → every some-text (listed m.description) ≡ true → ReasonClean m
reason-clean k is_flaky m f b d = let g = fitting (main_row k is_flaky m) f in record { message = g.first; type = g.second; description = describes m.description g.third b d }

abbrev reason_texts : TestCaseStatus → List Text
reason_texts st = each (λ (m : Reason). listed m.description) (reasons_in st)

abbrev run_texts : TestCaseStatus → List Text
run_texts st = each (λ (e : TestRerun). listed e.description) (runs_in st)

module _ (p : Text → Bool) (d : Option Text) (ts : List Text) (e : every p ((listed d ++ []) ++ ts) ≡ true) where
  of-reason : every p (listed d) ≡ true
  of-reason = every_front p (listed d) [] (every_front p (listed d ++ []) ts e)

  of-runs : every p ts ≡ true
  of-runs = every-behind p (listed d ++ []) ts e

status-clean : (st : TestCaseStatus) → every fits_row (status_rows st) ≡ true → every bare (reason_texts st ++ run_texts st) ≡ true → every some-text (reason_texts st ++ run_texts st) ≡ true
    → every bare (each run_outputs (runs_in st)) ≡ true → every whole_time (each (λ (e : TestRerun). listed e.time) (runs_in st)) ≡ true
    → every whole_moment (each (λ (e : TestRerun). listed e.timestamp) (runs_in st)) ≡ true → StatusClean st
status-clean (success runs) f b d o t m = runs-clean flaky runs (record { fits = f; descriptions = b; described = d; outputs = o; times = t; timestamps = m })
status-clean (non_success k reason family runs) f b d o t m =
    let row : Row = main_row (kind_of_main k) (is_flaky_alone family runs) reason in
    let ts : List Text = each (λ (e : TestRerun). listed e.description) runs in
    let v : Option Text = reason.description in (
      reason-clean (kind_of_main k) (is_flaky_alone family runs) reason (and_left (fits_row row) (every fits_row (map (run_row family) runs)) f) (of-reason bare v ts b) (of-reason some-text v ts d),
      runs-clean family runs (record {
        fits = and_right (fits_row row) (every fits_row (map (run_row family) runs)) f;
        descriptions = of-runs bare v ts b;
        described = of-runs some-text v ts d;
        outputs = o;
        times = t;
        timestamps = m;
      }),
    )
status-clean (skipped reason) f b d o t m =
    reason-clean kind.skipped false reason (and_left (fits_row (main_row kind.skipped false reason)) true f) (of-reason bare reason.description [] b) (of-reason some-text reason.description [] d)

-- ---- a case
pub record CaseClean (c : TestCase) : Type 0 where
  pub row : fits_row (case_row c) ≡ true
  pub extras : every fits_row (map (pair_row_of kind.case_extra) c.extra) ≡ true
  pub properties : every fits_row (map (pair_row_of kind.case_property) c.properties) ≡ true
  pub time : WholeTime c.time
  pub timestamp : WholeMoment c.timestamp
  pub out : Cleans c.system_out
  pub err : Cleans c.system_err
  pub status : StatusClean c.status

pub case-clean : (c : TestCase) → every fits_row (case_rows c) ≡ true → PlainCase c → CaseClean c
case-clean c f h =
    let extras : List Row = map (pair_row_of kind.case_extra) c.extra in
    let properties : List Row = map (pair_row_of kind.case_property) c.properties in
    let rows : List Row = status_rows c.status in
    let row : fits_row (case_row c) ≡ true = and_left (fits_row (case_row c)) (every fits_row (extras ++ (properties ++ rows))) f in
    let rest : every fits_row (extras ++ (properties ++ rows)) ≡ true = and_right (fits_row (case_row c)) (every fits_row (extras ++ (properties ++ rows))) f in
    let last : every fits_row (properties ++ rows) ≡ true = every-behind fits_row extras (properties ++ rows) rest in
    let g = fitting (case_row c) row in
    let own : List Text = listed c.system_out ++ listed c.system_err in
    let runs : List TestRerun = runs_in c.status in
    let outs : every bare own ≡ true = every_front bare own (each run_outputs runs) h.outputs in
    record {
      row = row;
      extras = every_front fits_row extras (properties ++ rows) rest;
      properties = every_front fits_row properties rows last;
      time = every_front whole_time (listed c.time) (each (λ (e : TestRerun). listed e.time) runs) h.times;
      timestamp = every_front whole_moment (listed c.timestamp) (each (λ (e : TestRerun). listed e.timestamp) runs) h.timestamps;
      out = cleans c.system_out g.out (every_front bare (listed c.system_out) (listed c.system_err) outs);
      err = cleans c.system_err g.err (every-behind bare (listed c.system_out) (listed c.system_err) outs);
      status = status-clean c.status (every-behind fits_row properties rows last) h.descriptions h.described (every-behind bare own (each run_outputs runs) h.outputs)
          (every-behind whole_time (listed c.time) (each (λ (e : TestRerun). listed e.time) runs) h.times)
          (every-behind whole_moment (listed c.timestamp) (each (λ (e : TestRerun). listed e.timestamp) runs) h.timestamps);
    }
