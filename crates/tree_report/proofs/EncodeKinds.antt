-- Which kinds the records of a report and of its parts have. Assumes nothing.
use Prim.Native.Nat.{ℕ, ◌≤◌}
use mathlib.Core.Bool.{true, false, cond, ◌&&◌}
use mathlib.Core.List.{List, [], ◌∷◌, ◌++◌, map}
use mathlib.Core.Path.{◌≡◌, refl}
use lib.Dec.{leb, eqb, lit≤}
use Rattle.tree_report.specs.Encode.{rows_of_each, pair_row_of, kind_of_main, kind_of_run, run_row, status_rows, case_rows, suite_rows, rows_of}
use Rattle.tree_report.specs.Report.{Pair, NonSuccessKind, failure, error, FlakyOrRerun, flaky, rerun, TestRerun, TestCaseStatus, success, non_success, skipped, TestCase, TestSuite, Report}
use Rattle.tree_report.proofs.EncodeLists.{done, more, each_append, each_map, each_rows, among, Kinds, kinds-more}

-- ---- the kinds of a main and of a run
-- a run's family and kind are read back from its record's kind
pub run-family : (family : FlakyOrRerun) (k : NonSuccessKind) → cond (leb (kind_of_run family k) 10) flaky rerun ≡ family
run-family flaky failure = refl
run-family flaky error = refl
run-family rerun failure = refl
run-family rerun error = refl

pub run-kind : (family : FlakyOrRerun) (k : NonSuccessKind) → cond (eqb (kind_of_run family k) 9) failure (cond (eqb (kind_of_run family k) 11) failure error) ≡ k
run-kind flaky failure = refl
run-kind flaky error = refl
run-kind rerun failure = refl
run-kind rerun error = refl

-- the kinds of runs are 9 to 12
pub run-bounds : (family : FlakyOrRerun) (k : NonSuccessKind) → (9 ≤ kind_of_run family k) × (kind_of_run family k ≤ 12)
run-bounds flaky failure = (lit≤ tt, lit≤ tt)
run-bounds flaky error = (lit≤ tt, lit≤ tt)
run-bounds rerun failure = (lit≤ tt, lit≤ tt)
run-bounds rerun error = (lit≤ tt, lit≤ tt)

pub main-bounds : (kind : NonSuccessKind) → (6 ≤ kind_of_main kind) × (kind_of_main kind ≤ 7)
main-bounds failure = (lit≤ tt, lit≤ tt)
main-bounds error = (lit≤ tt, lit≤ tt)

-- the kind of a main is told from that of a run
pub main-test : (kind : NonSuccessKind) → ((leb 6 (kind_of_main kind) && leb (kind_of_main kind) 8) ≡ true) × ((leb 9 (kind_of_main kind) && leb (kind_of_main kind) 12) ≡ false)
main-test failure = (refl, refl)
main-test error = (refl, refl)

-- ---- which kinds stand where
abbrev pub run_kinds : List ℕ
run_kinds = 9 ∷ 10 ∷ 11 ∷ 12 ∷ []

abbrev pub status_kinds : List ℕ
status_kinds = 6 ∷ 7 ∷ 8 ∷ run_kinds

-- below a case, and below a suite
abbrev pub case_kinds : List ℕ
case_kinds = 14 ∷ 5 ∷ status_kinds

abbrev pub suite_kinds : List ℕ
suite_kinds = 13 ∷ 4 ∷ 3 ∷ case_kinds

pairs-kinds : (kind : ℕ) (ks : List ℕ) → among ks kind ≡ true → (ps : List Pair) → Kinds ks (map (pair_row_of kind) ps)
pairs-kinds kind ks e ps = each_map (pair_row_of kind) (λ p. e) ps

-- the rows of runs have the kinds of runs only
pub runs-kinds : (family : FlakyOrRerun) (runs : List TestRerun) → Kinds run_kinds (map (run_row family) runs)
runs-kinds family runs = each_map (run_row family) (λ r. one family r.kind) runs
  where
    one : (family : FlakyOrRerun) (k : NonSuccessKind) → among run_kinds (kind_of_run family k) ≡ true
    one flaky failure = refl
    one flaky error = refl
    one rerun failure = refl
    one rerun error = refl

runs-status : (family : FlakyOrRerun) (runs : List TestRerun) → Kinds status_kinds (map (run_row family) runs)
runs-status family runs = kinds-more 6 (7 ∷ 8 ∷ run_kinds) (kinds-more 7 (8 ∷ run_kinds) (kinds-more 8 run_kinds (runs-kinds family runs)))

-- the rows of a status have the kinds of status elements only
pub status-kinds : (s : TestCaseStatus) → Kinds status_kinds (status_rows s)
status-kinds (success runs) = runs-status flaky runs
status-kinds (non_success failure reason family runs) = more refl (runs-status family runs)
status-kinds (non_success error reason family runs) = more refl (runs-status family runs)
status-kinds (skipped reason) = more refl done

-- the rows below a case begin no case and no suite, so that they are found as its own
pub below-case : (c : TestCase) → Kinds case_kinds (map (pair_row_of 14) c.extra ++ (map (pair_row_of 5) c.properties ++ status_rows c.status))
below-case c =
    each_append (pairs-kinds 14 case_kinds refl c.extra)
    (each_append (pairs-kinds 5 case_kinds refl c.properties) (kinds-more 14 (5 ∷ status_kinds) (kinds-more 5 status_kinds (status-kinds c.status))))

-- the rows of cases begin no suite, so that they are found below their suite
pub cases-kinds : (cs : List TestCase) → Kinds (3 ∷ case_kinds) (rows_of_each case_rows cs)
cases-kinds cs = each_rows case_rows (λ c. more refl (kinds-more 3 case_kinds (below-case c))) cs

-- the rows below a suite begin no suite, so that they are found as its own
pub below-suite : (s : TestSuite) → Kinds suite_kinds (map (pair_row_of 13) s.extra ++ (map (pair_row_of 4) s.properties ++ rows_of_each case_rows s.cases))
below-suite s =
    each_append (pairs-kinds 13 suite_kinds refl s.extra)
    (each_append (pairs-kinds 4 suite_kinds refl s.properties) (kinds-more 13 (4 ∷ 3 ∷ case_kinds) (kinds-more 4 (3 ∷ case_kinds) (cases-kinds s.cases))))

-- all kinds that the rows of a report have
pub report-kinds : (r : Report) → Kinds (1 ∷ 2 ∷ suite_kinds) (rows_of r)
report-kinds r =
    more refl (kinds-more 1 (2 ∷ suite_kinds) (each_rows suite_rows (λ s. more refl (kinds-more 2 suite_kinds (below-suite s))) r.suites))
