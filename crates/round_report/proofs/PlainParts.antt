-- What a plain and sound report's conditions come to for each suite and each case. Assumes nothing.
use Prim.Native.Nat.{◌*◌}
use mathlib.Core.Bool.{Bool, true, not, ◌&&◌}
use mathlib.Core.List.{List, ◌++◌, map}
use mathlib.Core.Path.{◌≡◌, ◌∙◌}
use Rattle.round_rooms.specs.of_area.Limits.{most_entries, most_bytes}
use Rattle.round_rooms.specs.of_tree_record.Kinds as kind
use Rattle.round_rooms.specs.of_tree_report.Report.{Text, Reason, TestRerun, TestCase, TestSuite, Report}
use Rattle.round_rooms.specs.of_tree_report.inside.Cells.{every, fits_row, pair_row_of, case_rows, rows_of_each, suite_row, suite_rows, report_row, rows_of}
use Rattle.round_rooms.proofs.of_tree_report.CellFits.{rows_fit}
use Rattle.round_rooms.proofs.of_tree_report.EncodeLists.{and_left, and_right, Each, each_on, every-each}
use Rattle.round_rooms.specs.of_write_report.Written.{each, is_empty, written}
use Rattle.round_rooms.specs.of_write_table.Laid.{laid_out, fits}
use Rattle.round_case.specs.of_round_elements.Plain.{listed, cases_of, reasons_in, runs_in, reasons_of, runs_of, descriptions, outputs, times}
use Rattle.round_case.specs.of_round_elements.Plain.{timestamps, keys_of, bare, suite_keys, case_keys, good_keys, is_ruled, plain, sound}
use Rattle.round_case.specs.of_round_elements.inside.PlainCase.{whole_time, whole_moment, WholeTime, WholeMoment, descriptions_in, outputs_in, PlainCase}
use Rattle.round_case.proofs.Conditions.{every_front, every-behind}
use Rattle.round_report.proofs.Parts.{every_append, every-parts, every-rows, every-nested, each-split, each-with}

-- ---- the conditions, one by one
pub record Conditions (r : Report) : Type 0 where
  pub bare : every bare (descriptions r ++ outputs r) ≡ true
  pub given : every (λ (t : Text). not (is_empty t)) (descriptions r) ≡ true
  pub times : every whole_time (times r) ≡ true
  pub timestamps : every whole_moment (timestamps r) ≡ true
  pub suite_keys : every (λ (s : TestSuite). good_keys suite_keys (keys_of s.extra)) r.suites ≡ true
  pub case_keys : every (λ (c : TestCase). good_keys case_keys (keys_of c.extra)) (cases_of r) ≡ true
  pub ruled : every (λ (c : TestCase). is_ruled c.status) (cases_of r) ≡ true
  pub fits : fits (laid_out (written r)) (most_entries * 5) (most_entries * 5) most_bytes ≡ true

all-eight : (a b c d e f g h : Bool) → (a && (b && (c && (d && (e && (f && (g && h))))))) ≡ true
    → (a ≡ true) × (b ≡ true) × (c ≡ true) × (d ≡ true) × (e ≡ true) × (f ≡ true) × (g ≡ true) × (h ≡ true)
all-eight a b c d e f g h q =
    let q₁ = and_right a (b && (c && (d && (e && (f && (g && h)))))) q in
    let q₂ = and_right b (c && (d && (e && (f && (g && h))))) q₁ in
    let q₃ = and_right c (d && (e && (f && (g && h)))) q₂ in
    let q₄ = and_right d (e && (f && (g && h))) q₃ in
    let q₅ = and_right e (f && (g && h)) q₄ in
    let q₆ = and_right f (g && h) q₅ in (
      and_left a (b && (c && (d && (e && (f && (g && h)))))) q,
      and_left b (c && (d && (e && (f && (g && h))))) q₁,
      and_left c (d && (e && (f && (g && h)))) q₂,
      and_left d (e && (f && (g && h))) q₃,
      and_left e (f && (g && h)) q₄,
      and_left f (g && h) q₅,
      and_left g h q₆,
      and_right g h q₆,
    )

-- a plain report's conditions, one by one
pub conditions : (r : Report) → plain r ≡ true → Conditions r
unfolding plain
conditions r e =
    let q =
    all-eight (every bare (descriptions r ++ outputs r)) (every (λ (t : Text). not (is_empty t)) (descriptions r)) (every whole_time (times r)) (every whole_moment (timestamps r))
    (every (λ (s : TestSuite). good_keys suite_keys (keys_of s.extra)) r.suites) (every (λ (c : TestCase). good_keys case_keys (keys_of c.extra)) (cases_of r))
    (every (λ (c : TestCase). is_ruled c.status) (cases_of r)) (fits (laid_out (written r)) (most_entries * 5) (most_entries * 5) most_bytes) e in
    record { bare = q.0; given = q.1; times = q.2; timestamps = q.3; suite_keys = q.4; case_keys = q.5; ruled = q.6; fits = q.7 }

-- ---- of one suite
pub record PlainSuite (s : TestSuite) : Type 0 where
  pub row : fits_row (suite_row s) ≡ true
  pub extras : every fits_row (map (pair_row_of kind.suite_extra) s.extra) ≡ true
  pub properties : every fits_row (map (pair_row_of kind.suite_property) s.properties) ≡ true
  pub cases : Each (λ c. (every fits_row (case_rows c) ≡ true) × PlainCase c) s.cases
  pub bare : every bare (listed s.system_out ++ listed s.system_err) ≡ true
  pub time : WholeTime s.time
  pub timestamp : WholeMoment s.timestamp
  pub keys : good_keys suite_keys (keys_of s.extra) ≡ true

pub record PlainReport (r : Report) : Type 0 where
  pub row : fits_row (report_row r) ≡ true
  pub time : WholeTime r.time
  pub timestamp : WholeMoment r.timestamp
  pub suites : Each PlainSuite r.suites

module _ (r : Report) (k : Conditions r) where
  abbrev cases : List TestCase
  cases = cases_of r

  -- a test of what reasons or runs have
  by-reasons : {A : Type 0} (p : A → Bool) (f : Reason → List A) → every p (each f (reasons_of r)) ≡ true → Each (λ c. every p (each f (reasons_in c.status)) ≡ true) cases
  by-reasons p f e = every-nested p f (λ (c : TestCase). reasons_in c.status) cases e

  by_runs : {A : Type 0} (p : A → Bool) (f : TestRerun → List A) → every p (each f (runs_of r)) ≡ true → Each (λ c. every p (each f (runs_in c.status)) ≡ true) cases
  by_runs p f e = every-nested p f (λ (c : TestCase). runs_in c.status) cases e

  abbrev from_reasons : List Text
  from_reasons = each (λ (m : Reason). listed m.description) (reasons_of r)

  abbrev from_runs : List Text
  from_runs = each (λ (e : TestRerun). listed e.description) (runs_of r)

  described : (p : Text → Bool) → every p (descriptions r) ≡ true → Each (λ c. every p (descriptions_in c) ≡ true) cases
  described p e =
      each_on (λ c q. every_append p (each (λ (m : Reason). listed m.description) (reasons_in c.status)) (each (λ (e : TestRerun). listed e.description) (runs_in c.status)) q.0 q.1)
      (each-with (by-reasons p (λ m. listed m.description) (every_front p from_reasons from_runs e)) (by_runs p (λ e. listed e.description) (every-behind p from_reasons from_runs e)))

  abbrev suite_outputs : List Text
  suite_outputs = each (λ (s : TestSuite). listed s.system_out ++ listed s.system_err) r.suites

  abbrev case_outputs : List Text
  case_outputs = each (λ (c : TestCase). listed c.system_out ++ listed c.system_err) cases

  abbrev run_outputs : List Text
  run_outputs = each (λ (e : TestRerun). listed e.stack_trace ++ (listed e.system_out ++ listed e.system_err)) (runs_of r)

  bare-suites : Each (λ s. every bare (listed s.system_out ++ listed s.system_err) ≡ true) r.suites
  bare-suites =
      every-parts bare (λ (s : TestSuite). listed s.system_out ++ listed s.system_err) r.suites
      (every_front bare suite_outputs (case_outputs ++ run_outputs) (every-behind bare (descriptions r) (outputs r) k.bare))

  bare-outputs : Each (λ c. every bare (outputs_in c) ≡ true) cases
  bare-outputs =
      let e = every-behind bare suite_outputs (case_outputs ++ run_outputs) (every-behind bare (descriptions r) (outputs r) k.bare) in
      each_on (λ c q. every_append bare (listed c.system_out ++ listed c.system_err)
      (each (λ (e : TestRerun). listed e.stack_trace ++ (listed e.system_out ++ listed e.system_err)) (runs_in c.status)) q.0 q.1)
      (each-with
      (every-parts bare (λ (c : TestCase). listed c.system_out ++ listed c.system_err) cases (every_front bare case_outputs run_outputs e))
      (by_runs bare (λ e. listed e.stack_trace ++ (listed e.system_out ++ listed e.system_err)) (every-behind bare case_outputs run_outputs e)))

  -- times and timestamps alike: of the report, the suites, the cases and their runs
  module _ {A : Type 0} (p : A → Bool) (own : List A) (f : TestSuite → List A) (g : TestCase → List A) (h : TestRerun → List A)
      (e : every p (own ++ (each f r.suites ++ (each g cases ++ each h (runs_of r)))) ≡ true) where
    own-good : every p own ≡ true
    own-good = every_front p own (each f r.suites ++ (each g cases ++ each h (runs_of r))) e

    behind-own : every p (each f r.suites ++ (each g cases ++ each h (runs_of r))) ≡ true
    behind-own = every-behind p own (each f r.suites ++ (each g cases ++ each h (runs_of r))) e

    suites-good : Each (λ s. every p (f s) ≡ true) r.suites
    suites-good = every-parts p f r.suites (every_front p (each f r.suites) (each g cases ++ each h (runs_of r)) behind-own)

    cases-good : Each (λ c. every p (g c ++ each h (runs_in c.status)) ≡ true) cases
    cases-good =
        let q = every-behind p (each f r.suites) (each g cases ++ each h (runs_of r)) behind-own in
        each_on (λ c q. every_append p (g c) (each h (runs_in c.status)) q.0 q.1)
        (each-with (every-parts p g cases (every_front p (each g cases) (each h (runs_of r)) q)) (by_runs p h (every-behind p (each g cases) (each h (runs_of r)) q)))

  plain-cases : Each PlainCase cases
  plain-cases =
      let b = each-with (described bare (every_front bare (descriptions r) (outputs r) k.bare)) bare-outputs in
      let d = described (λ (t : Text). not (is_empty t)) k.given in
      let t = cases-good whole_time (listed r.time) (λ s. listed s.time) (λ c. listed c.time) (λ e. listed e.time) k.times in
      let m = cases-good whole_moment (listed r.timestamp) (λ s. listed s.timestamp) (λ c. listed c.timestamp) (λ e. listed e.timestamp) k.timestamps in
      let x = every-each (λ (c : TestCase). good_keys case_keys (keys_of c.extra)) cases k.case_keys in
      let u = every-each (λ (c : TestCase). is_ruled c.status) cases k.ruled in
      each_on
      (λ c q. record {
        descriptions = q.0.0;
        outputs = q.0.1;
        described = q.1.0;
        times = q.1.1.0;
        timestamps = q.1.1.1.0;
        keys = q.1.1.1.1.0;
        ruled = q.1.1.1.1.1;
      })
      (each-with b (each-with d (each-with t (each-with m (each-with x u)))))

  rows-of-suite : (s : TestSuite) → every fits_row (suite_rows s) ≡ true
      → (fits_row (suite_row s) ≡ true) × (every fits_row (map (pair_row_of 13) s.extra) ≡ true)
      × (every fits_row (map (pair_row_of 4) s.properties) ≡ true) × Each (λ c. every fits_row (case_rows c) ≡ true) s.cases
  rows-of-suite s e =
      let extra = map (pair_row_of 13) s.extra in
      let properties = map (pair_row_of 4) s.properties in
      let q = and_right (fits_row (suite_row s)) (every fits_row (extra ++ (properties ++ rows_of_each case_rows s.cases))) e in
      let u = every-behind fits_row extra (properties ++ rows_of_each case_rows s.cases) q in (
        and_left (fits_row (suite_row s)) (every fits_row (extra ++ (properties ++ rows_of_each case_rows s.cases))) e,
        every_front fits_row extra (properties ++ rows_of_each case_rows s.cases) q,
        every_front fits_row properties (rows_of_each case_rows s.cases) u,
        every-rows fits_row case_rows s.cases (every-behind fits_row properties (rows_of_each case_rows s.cases) u),
      )

  plain-suites : every fits_row (rows_of_each suite_rows r.suites) ≡ true → Each PlainSuite r.suites
  plain-suites e =
      let w = every-rows fits_row suite_rows r.suites e in
      let c = each-split (λ (s : TestSuite). s.cases) r.suites plain-cases in
      let t = suites-good whole_time (listed r.time) (λ s. listed s.time) (λ c. listed c.time) (λ e. listed e.time) k.times in
      let m = suites-good whole_moment (listed r.timestamp) (λ s. listed s.timestamp) (λ c. listed c.timestamp) (λ e. listed e.timestamp) k.timestamps in
      let x = every-each (λ (s : TestSuite). good_keys suite_keys (keys_of s.extra)) r.suites k.suite_keys in
      each_on
      (λ s q. (let v = rows-of-suite s q.0 in
      record {
        row = v.0;
        extras = v.1;
        properties = v.2;
        cases = each-with v.3 q.1.0;
        bare = q.1.1.0;
        time = q.1.1.1.0;
        timestamp = q.1.1.1.1.0;
        keys = q.1.1.1.1.1;
      }))
      (each-with w (each-with c (each-with bare-suites (each-with t (each-with m x)))))

pub plain-parts : (r : Report) → sound r ≡ true → plain r ≡ true → PlainReport r
unfolding sound
plain-parts r s p =
    let k = conditions r p in
    let e : every fits_row (rows_of r) ≡ true = rows_fit r ∙ s in
    record {
      row = and_left (fits_row (report_row r)) (every fits_row (rows_of_each suite_rows r.suites)) e;
      time = own-good r k whole_time (listed r.time) (λ s. listed s.time) (λ c. listed c.time) (λ e. listed e.time) k.times;
      timestamp = own-good r k whole_moment (listed r.timestamp) (λ s. listed s.timestamp) (λ c. listed c.timestamp) (λ e. listed e.timestamp) k.timestamps;
      suites = plain-suites r k (and_right (fits_row (report_row r)) (every fits_row (rows_of_each suite_rows r.suites)) e);
    }
