-- The one row that a change of an open element changes. Assumes nothing.
use Prim.Native.Nat.{ℕ, ◌+◌, ◌-◌}
use mathlib.Core.Bool.{false}
use mathlib.Core.List.{List, [], ◌∷◌, ◌++◌, map, append_assoc, map-append}
use mathlib.Core.Option.{some}
use mathlib.Core.Path.{◌≡◌, refl, sym, ap, ◌∙◌}
use native.Mathlib.Omega.{arith}
use lib.ListN.{length, length-append, length-map}
use Rattle.tree_placed.specs.of_tree_record.Kinds as kind
use Rattle.tree_placed.specs.of_tree_report.Report.{Pair, NonSuccessKind, FlakyOrRerun, flaky, rerun, TestRerun, Reason, TestCaseStatus, success, non_success, skipped, TestCase, TestSuite, Report}
use Rattle.tree_placed.specs.of_tree_report.inside.Cells.{Row, pair_row_of, main_row, kind_of_main, run_row, is_flaky_alone, status_rows, case_row, case_rows, rows_of_each, suite_row, suite_rows, report_row, rows_of}
use Rattle.build_draft.specs.declared.Holder.TheVariants as holder
use Rattle.build_report.specs.Operations.{on_last, last_in, on_suite, on_case, on_status, on_reason, on_run, with_family, insert, suite_pairs, case_pairs, add_extra}
use Rattle.build_report.specs.Stands.{all_but_last, suite_mark, case_mark, main_mark}
use Rattle.build_report.proofs.SpotTypes.{Spot}
use Rattle.build_report.proofs.Lasts.{last-split, on-last}
use Rattle.build_report.proofs.Openings.{before_suite, up_to_case, up_to_status, length-before-suite, length-up_to-case, length-up_to-status}
use Rattle.build_report.proofs.Openings.{rows-suite, rows-on-suite, rows-case, rows-on-case, rows-status, rows-on-status}
use Rattle.build_report.proofs.Keys.{key_index, renewed, OldKey}

-- ---- parts of the rows that differ in one row, behind the same rows
module _ {r r' : Report} (before : List Row) {part part' : List Row} (h : rows_of r ≡ before ++ part) (t : rows_of r' ≡ before ++ part') where
  -- in their first row
  pub spot-first : {row row' : Row} {back : List Row} {n : ℕ} → part ≡ row ∷ back → part' ≡ row' ∷ back → length before ≡ n → Spot r n row r' row'
  spot-first {back = back} p q n =
      record { front = before; back = back; here = h ∙ ap (λ (l : List Row). before ++ l) p; there = t ∙ ap (λ (l : List Row). before ++ l) q; at = n }

  -- behind some of their rows
  pub spot-behind : (front back : List Row) {row row' : Row} {n : ℕ} → part ≡ front ++ (row ∷ back) → part' ≡ front ++ (row' ∷ back)
      → length before + length front ≡ n → Spot r n row r' row'
  spot-behind front back {row} {row'} p q n = record {
    front = before ++ front;
    back = back;
    here = h ∙ ap (λ (l : List Row). before ++ l) p ∙ sym (append_assoc before front (row ∷ back));
    there = t ∙ ap (λ (l : List Row). before ++ l) q ∙ sym (append_assoc before front (row' ∷ back));
    at = length-append before front ∙ n;
  }

-- ---- the report's own row
pub spot-report : (r r' : Report) → r.suites ≡ r'.suites → Spot r 0 (report_row r) r' (report_row r')
spot-report r r' e = record {
  front = [];
  back = rows_of_each suite_rows r.suites;
  here = refl;
  there = ap (λ (ss : List TestSuite). report_row r' ∷ rows_of_each suite_rows ss) (sym e);
  at = refl;
}

-- ---- the open suite's
abbrev behind_suite : List Pair → List Pair → List TestCase → List Row
behind_suite x p cs = map (pair_row_of kind.suite_extra) x ++ (map (pair_row_of kind.suite_property) p ++ rows_of_each case_rows cs)

pub spot-suite : (f : TestSuite → TestSuite) (r : Report) {s : TestSuite} → last_in r.suites ≡ some s
    → s.extra ≡ (f s).extra → s.properties ≡ (f s).properties → s.cases ≡ (f s).cases → Spot r (suite_mark r) (suite_row s) (on_suite f r) (suite_row (f s))
spot-suite f r {s} e x p cs =
    spot-first (before_suite r) (rows-suite r e) (rows-on-suite r e f) refl
    (ap (λ (l : List Row). suite_row (f s) ∷ l) (λ i. behind_suite (sym x i) (sym p i) (sym cs i))) (length-before-suite r)

-- ---- the open case's
module _ (r : Report) {s : TestSuite} {c : TestCase} (e : last_in r.suites ≡ some s) (d : last_in s.cases ≡ some c) where
  abbrev behind_case : List Pair → List Pair → TestCaseStatus → List Row
  behind_case x p t = map (pair_row_of kind.case_extra) x ++ (map (pair_row_of kind.case_property) p ++ status_rows t)

  pub spot-case : (f : TestCase → TestCase) → c.extra ≡ (f c).extra → c.properties ≡ (f c).properties → c.status ≡ (f c).status
      → Spot r (case_mark (suite_mark r) s) (case_row c) (on_case f r) (case_row (f c))
  spot-case f x p t =
      spot-first (up_to_case r s) (rows-case r e d) (rows-on-case r e d f) refl
      (ap (λ (l : List Row). case_row (f c) ∷ l) (λ i. behind_case (sym x i) (sym p i) (sym t i))) (length-up_to-case r s)

  -- ---- its main's: the first row of the status
  pub spot-main : (f : TestCaseStatus → TestCaseStatus) {row row' : Row} {back : List Row}
      → status_rows c.status ≡ row ∷ back → status_rows (f c.status) ≡ row' ∷ back → Spot r (main_mark (case_mark (suite_mark r) s) c) row (on_status f r) row'
  spot-main f p q = spot-first (up_to_status r s c) (rows-status r e d) (rows-on-status r e d f) p q (length-up_to-status r s c)

  pub spot-reason : (f : Reason → Reason) {k : NonSuccessKind} {m : Reason} {g : FlakyOrRerun} {runs : List TestRerun} → c.status ≡ non_success k m g runs
      → Spot r (main_mark (case_mark (suite_mark r) s) c) (main_row (kind_of_main k) (is_flaky_alone g runs) m) (on_status (on_reason f) r) (main_row (kind_of_main k) (is_flaky_alone g runs) (f m))
  spot-reason f h = spot-main (on_reason f) (ap status_rows h) (ap (λ (t : TestCaseStatus). status_rows (on_reason f t)) h)

  pub spot-skipped : (f : Reason → Reason) {m : Reason} → c.status ≡ skipped m
      → Spot r (main_mark (case_mark (suite_mark r) s) c) (main_row kind.skipped false m) (on_status (on_reason f) r) (main_row kind.skipped false (f m))
  spot-skipped f h = spot-main (on_reason f) (ap status_rows h) (ap (λ (t : TestCaseStatus). status_rows (on_reason f t)) h)

  -- the family of no runs is the main's flaky bit
  pub spot-family : (f : FlakyOrRerun) {k : NonSuccessKind} {m : Reason} {g : FlakyOrRerun} → c.status ≡ non_success k m g []
      → Spot r (main_mark (case_mark (suite_mark r) s) c) (main_row (kind_of_main k) (is_flaky_alone g []) m) (on_status (with_family f) r) (main_row (kind_of_main k) (is_flaky_alone f []) m)
  spot-family f h = spot-main (with_family f) (ap status_rows h) (ap (λ (t : TestCaseStatus). status_rows (with_family f t)) h)

  -- ---- the last run's: the last row of all
  pub spot-last : (f : TestCaseStatus → TestCaseStatus) (front : List Row) {row row' : Row}
      → status_rows c.status ≡ front ++ (row ∷ []) → status_rows (f c.status) ≡ front ++ (row' ∷ []) → Spot r (length (rows_of r) - 1) row (on_status f r) row'
  spot-last f front {row} p q =
      let n : length (rows_of r) ≡ length (up_to_status r s c) + length (status_rows c.status) =
      ap length (rows-status r e d) ∙ length-append (up_to_status r s c) (status_rows c.status) in
      let m : length (status_rows c.status) ≡ length front + 1 = ap length p ∙ length-append front (row ∷ []) in
      spot-behind (up_to_status r s c) (rows-status r e d) (rows-on-status r e d f) front [] p q (omega arith)

-- ---- the rows of runs, and of runs of which the last is changed
module _ (g : FlakyOrRerun) (runs : List TestRerun) {run : TestRerun} (l : last_in runs ≡ some run) where
  pub runs_last : map (run_row g) runs ≡ map (run_row g) (all_but_last runs) ++ (run_row g run ∷ [])
  runs_last = ap (map (run_row g)) (last-split runs l) ∙ map-append (run_row g) (all_but_last runs) (run ∷ [])

  pub runs-on-last : (f : TestRerun → TestRerun) → map (run_row g) (on_last f runs) ≡ map (run_row g) (all_but_last runs) ++ (run_row g (f run) ∷ [])
  runs-on-last f = ap (map (run_row g)) (on-last f runs l) ∙ map-append (run_row g) (all_but_last runs) (f run ∷ [])

-- a change of the last run doesn't change whether there are any
pub alone-on-last : (g : FlakyOrRerun) (f : TestRerun → TestRerun) (runs : List TestRerun) → is_flaky_alone g (on_last f runs) ≡ is_flaky_alone g runs
alone-on-last rerun f runs = refl
alone-on-last flaky f [] = refl
alone-on-last flaky f (x ∷ []) = refl
alone-on-last flaky f (x ∷ (y ∷ ys)) = refl

module _ (r : Report) {s : TestSuite} {c : TestCase} (e : last_in r.suites ≡ some s) (d : last_in s.cases ≡ some c) (f : TestRerun → TestRerun) where
  pub spot_run-success : {runs : List TestRerun} {run : TestRerun} → c.status ≡ success runs → last_in runs ≡ some run
      → Spot r (length (rows_of r) - 1) (run_row flaky run) (on_status (on_run f) r) (run_row flaky (f run))
  spot_run-success {runs} h l =
      spot-last r e d (on_run f) (map (run_row flaky) (all_but_last runs)) (ap status_rows h ∙ runs_last flaky runs l)
      (ap (λ (t : TestCaseStatus). status_rows (on_run f t)) h ∙ runs-on-last flaky runs l f)

  pub spot-run : {k : NonSuccessKind} {m : Reason} {g : FlakyOrRerun} {runs : List TestRerun} {run : TestRerun} → c.status ≡ non_success k m g runs → last_in runs ≡ some run
      → Spot r (length (rows_of r) - 1) (run_row g run) (on_status (on_run f) r) (run_row g (f run))
  spot-run {k} {m} {g} {runs} {run} h l =
      let main : Row = main_row (kind_of_main k) (is_flaky_alone g runs) m in
      spot-last r e d (on_run f) (main ∷ map (run_row g) (all_but_last runs))
      (ap status_rows h ∙ ap (λ (l : List Row). main ∷ l) (runs_last g runs l))
      (ap (λ (t : TestCaseStatus). status_rows (on_run f t)) h
      ∙ (λ i. main_row (kind_of_main k) (alone-on-last g f runs i) m ∷ runs-on-last g runs l f i))

-- ---- an extra's, whose key was there
pairs-cut : (κ : ℕ) (a : List Pair) (q : Pair) (b : List Pair) (rest : List Row) → map (pair_row_of κ) (a ++ (q ∷ b)) ++ rest ≡ map (pair_row_of κ) a ++ (pair_row_of κ q ∷ (map (pair_row_of κ) b ++ rest))
pairs-cut κ [] q b rest = refl
pairs-cut κ (x ∷ xs) q b rest = ap (λ (l : List Row). pair_row_of κ x ∷ l) (pairs-cut κ xs q b rest)

-- the extras of an element that stands behind `before`
pub spot-extra : {r r' : Report} (before : List Row) (κ : ℕ) (head : Row) (p : Pair) (ps : List Pair) (rest : List Row) (k : OldKey p ps)
    → rows_of r ≡ before ++ (head ∷ (map (pair_row_of κ) ps ++ rest)) → rows_of r' ≡ before ++ (head ∷ (map (pair_row_of κ) (insert p ps) ++ rest)) → {n : ℕ} → length before ≡ n
    → Spot r (n + 1 + key_index p.key ps) (pair_row_of κ k.old) r' (pair_row_of κ (renewed p k.old))
spot-extra before κ head p ps rest k h t {n} b =
    let a = k.at in
    let z : length (map (pair_row_of κ) k.before) ≡ length k.before = length-map k.before (pair_row_of κ) in
    spot-behind before h t (head ∷ map (pair_row_of κ) k.before) (map (pair_row_of κ) k.behind ++ rest)
    (ap (λ (l : List Row). head ∷ l) (ap (λ (l : List Pair). map (pair_row_of κ) l ++ rest) k.here ∙ pairs-cut κ k.before k.old k.behind rest))
    (ap (λ (l : List Row). head ∷ l) (ap (λ (l : List Pair). map (pair_row_of κ) l ++ rest) k.there ∙ pairs-cut κ k.before (renewed p k.old) k.behind rest))
    (omega arith)

pub spot_suite-extra : (r : Report) {s : TestSuite} → last_in r.suites ≡ some s → (p : Pair) (k : OldKey p s.extra)
    → Spot r (suite_mark r + 1 + key_index p.key s.extra) (pair_row_of kind.suite_extra k.old) (add_extra holder.Suite p r) (pair_row_of kind.suite_extra (renewed p k.old))
spot_suite-extra r {s} e p k =
    spot-extra (before_suite r) kind.suite_extra (suite_row s) p s.extra (map (pair_row_of kind.suite_property) s.properties ++ rows_of_each case_rows s.cases) k
    (rows-suite r e) (rows-on-suite r e (λ t. suite_pairs (insert p t.extra) t.properties t)) (length-before-suite r)

pub spot_case-extra : (r : Report) {s : TestSuite} {c : TestCase} → last_in r.suites ≡ some s → last_in s.cases ≡ some c → (p : Pair) (k : OldKey p c.extra)
    → Spot r (case_mark (suite_mark r) s + 1 + key_index p.key c.extra) (pair_row_of kind.case_extra k.old) (add_extra holder.Case p r) (pair_row_of kind.case_extra (renewed p k.old))
spot_case-extra r {s} {c} e d p k =
    spot-extra (up_to_case r s) kind.case_extra (case_row c) p c.extra (map (pair_row_of kind.case_property) c.properties ++ status_rows c.status) k
    (rows-case r e d) (rows-on-case r e d (λ t. case_pairs (insert p t.extra) t.properties t)) (length-up_to-case r s)
