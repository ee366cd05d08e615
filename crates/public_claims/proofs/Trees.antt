-- The public part of the report that records make is the report that their nodes make. Assumes nothing.
use Prim.Native.Nat.{ℕ, ◌+◌, ◌≤◌}
use mathlib.Core.Path.{◌≡◌, refl, sym, ap, ap₂, ◌∙◌, subst}
use mathlib.Core.List.{List, [], ◌∷◌, ◌++◌, map}
use mathlib.Core.Bool.{Bool, true, false, cond, ◌&&◌}
use mathlib.Core.Option.{Option, none, some}
use native.Mathlib.Omega.{arith}
use borrow.Author.Tests.{eqb-true, leb-true, lt-leb, ltb-false}
use lib.Dec.{eqb, leb}
use Rattle.list_text.specs.of_tree_report.Report.{failure, error, flaky, rerun, non_success, skipped, Report}
use Rattle.read_report.specs.of_tree_record.Bits as bit
use Rattle.list_text.specs.of_tree_report.Fields.{kind_of, live, is_suite, is_case, is_main, is_run, has_bit, text_at, first, second, time, counts}
use Rattle.list_text.specs.of_tree_report.ReportOf.{only, until, branches, run_of, kind_of_runs, status_of, reason_of, case_of, suite_of, report_from}
use Rattle.list_text.specs.Listing.{Status, is_failure, is_error, is_skipped, RunKind, no_kind, flaky_kind, rerun_kind, PublicRun, PublicCase, PublicSuite}
use Rattle.list_text.specs.Listing.{PublicReport, public_run, kind_shown, status_shown, run_kind_shown, runs_shown, public_case, public_suite, public_part}
use Rattle.public_claims.specs.inside.PublicMachine.{Node, report_node, suite_node, case_node, main_node, run_node, Sort, a_report, a_suite, a_case_of, a_main, a_run, unlisted, sort_of, is_suite_node}
use Rattle.public_claims.specs.inside.PublicMachine.{is_case_node, up_to_next, mains_in, runs_in, run_codes_in, node_status, family_of, node_kind, node_runs, case_from, cases_in, suites_in, report_in}
use Rattle.public_claims.proofs.View.{look_as, look, looks, sort-dead}
use Rattle.public_claims.proofs.Said.{Solid}
use Rattle.public_claims.proofs.Acts.{heads, impossible}

-- ---- the tests on records by their sort
abbrev suite_sort : Sort → Bool
suite_sort a_report = false
suite_sort a_suite = true
suite_sort a_case_of = false
suite_sort a_main = false
suite_sort a_run = false
suite_sort unlisted = false

abbrev case_sort : Sort → Bool
case_sort a_report = false
case_sort a_suite = false
case_sort a_case_of = true
case_sort a_main = false
case_sort a_run = false
case_sort unlisted = false

abbrev main_sort : Sort → Bool
main_sort a_report = false
main_sort a_suite = false
main_sort a_case_of = false
main_sort a_main = true
main_sort a_run = false
main_sort unlisted = false

abbrev run_sort : Sort → Bool
run_sort a_report = false
run_sort a_suite = false
run_sort a_case_of = false
run_sort a_main = false
run_sort a_run = true
run_sort unlisted = false

record Tests (k : ℕ) : Type 0 where
  suites : eqb k 2 ≡ suite_sort (sort_of k)
  cases : eqb k 3 ≡ case_sort (sort_of k)
  mains : (leb 6 k && leb k 8) ≡ main_sort (sort_of k)
  runs : (leb 9 k && leb k 12) ≡ run_sort (sort_of k)

choose : (P : ℕ → Type 0) (n k : ℕ) → P n → (eqb k n ≡ false → P k) → P k
choose P n k h j = go (eqb k n) refl
  where
    go : (b : Bool) → eqb k n ≡ b → P k
    go true e = subst P (sym (eqb-true k n e)) h
    go false e = j e

tests-1 : Tests 1
unfolding sort_of
tests-1 = record { suites = refl; cases = refl; mains = refl; runs = refl }

tests-2 : Tests 2
unfolding sort_of
tests-2 = record { suites = refl; cases = refl; mains = refl; runs = refl }

tests-3 : Tests 3
unfolding sort_of
tests-3 = record { suites = refl; cases = refl; mains = refl; runs = refl }

-- neither report, suite nor case
lower : (k : ℕ) → eqb k 1 ≡ false → eqb k 2 ≡ false → eqb k 3 ≡ false → sort_of k ≡ cond (leb 6 k && leb k 8) a_main (cond (leb 9 k && leb k 12) a_run unlisted)
unfolding sort_of
lower k a b c = rw (a, b, c)

exclusive : (k : ℕ) → (leb 6 k && leb k 8) ≡ true → (leb 9 k && leb k 12) ≡ false
exclusive k e = go (leb 6 k) (leb k 8) refl e
  where
    go : (x y : Bool) → leb k 8 ≡ y → (x && y) ≡ true → (leb 9 k && leb k 12) ≡ false
    go true true p q = ap (λ (b : Bool). b && leb k 12) (lt-leb 9 k (let h : k ≤ 8 = leb-true k 8 p in omega arith))
    go true false p q = impossible q
    go false y p q = impossible q

tests-lower : (k : ℕ) → eqb k 1 ≡ false → eqb k 2 ≡ false → eqb k 3 ≡ false → Tests k
tests-lower k a b c = go (leb 6 k && leb k 8) refl (leb 9 k && leb k 12) refl
  where
    make : (σ : Sort) → sort_of k ≡ σ → false ≡ suite_sort σ → false ≡ case_sort σ → (leb 6 k && leb k 8) ≡ main_sort σ → (leb 9 k && leb k 12) ≡ run_sort σ → Tests k
    make σ e p q r s =
        record {
          suites = b ∙ p ∙ sym (ap suite_sort e);
          cases = c ∙ q ∙ sym (ap case_sort e);
          mains = r ∙ sym (ap main_sort e);
          runs = s ∙ sym (ap run_sort e);
        }

    sorted : (m r : Bool) → (leb 6 k && leb k 8) ≡ m → (leb 9 k && leb k 12) ≡ r → sort_of k ≡ cond m a_main (cond r a_run unlisted)
    sorted m r e f = lower k a b c ∙ ap₂ (λ (x y : Bool). cond x a_main (cond y a_run unlisted)) e f

    go : (m : Bool) → (leb 6 k && leb k 8) ≡ m → (r : Bool) → (leb 9 k && leb k 12) ≡ r → Tests k
    go true e r f = make a_main (sorted true r e f) refl refl e (exclusive k e)
    go false e true f = make a_run (sorted false true e f) refl refl e f
    go false e false f = make unlisted (sorted false false e f) refl refl e f

tests : (k : ℕ) → Tests k
tests k = choose Tests 1 k tests-1 λ a. choose Tests 2 k tests-2 λ b. choose Tests 3 k tests-3 λ c. tests-lower k a b c

-- ---- dead records show nothing
pub looks-live : (t : List ℕ) (rs : List (List ℕ)) → looks t (only live rs) ≡ looks t rs
looks-live t [] = refl
looks-live t (r ∷ rs) = go (live r) refl (looks-live t rs)
  where
    go : (b : Bool) → live r ≡ b → looks t (only live rs) ≡ looks t rs → looks t (cond b (r ∷ only live rs) (only live rs)) ≡ look t r ++ looks t rs
    go true e i = ap (look t r ++◌) i
    go false e i =
        let h : 16 ≤ kind_of r = ltb-false (kind_of r) 16 e in
        i ∙ sym (ap (λ (σ : Sort). look_as σ t r ++ looks t rs) (sort-dead (kind_of r) (omega arith)))

abbrev pub public_or : Option Report → Option PublicReport
public_or none = none
public_or (some r) = some (public_part r)

module _ (t : List ℕ) where
  -- ---- a case's status elements
  mains-same : (rs : List (List ℕ)) → mains_in (looks t rs) ≡ map kind_of (only is_main rs)
  mains-same [] = refl
  mains-same (r ∷ rs) =
      go (sort_of (kind_of r)) (mains-same rs) ∙ sym (ap (λ (b : Bool). map kind_of (cond b (r ∷ only is_main rs) (only is_main rs))) (tests (kind_of r)).mains)
    where
      go : (σ : Sort) → mains_in (looks t rs) ≡ map kind_of (only is_main rs) → mains_in (look_as σ t r ++ looks t rs) ≡ map kind_of (cond (main_sort σ) (r ∷ only is_main rs) (only is_main rs))
      go a_report i = i
      go a_suite i = i
      go a_case_of i = i
      go a_main i = ap (kind_of r ∷◌) i
      go a_run i = i
      go unlisted i = i

  codes_same : (rs : List (List ℕ)) → run_codes_in (looks t rs) ≡ map kind_of (only is_run rs)
  codes_same [] = refl
  codes_same (r ∷ rs) =
      go (sort_of (kind_of r)) (codes_same rs) ∙ sym (ap (λ (b : Bool). map kind_of (cond b (r ∷ only is_run rs) (only is_run rs))) (tests (kind_of r)).runs)
    where
      go : (σ : Sort) → run_codes_in (looks t rs) ≡ map kind_of (only is_run rs) → run_codes_in (look_as σ t r ++ looks t rs) ≡ map kind_of (cond (run_sort σ) (r ∷ only is_run rs) (only is_run rs))
      go a_report i = i
      go a_suite i = i
      go a_case_of i = i
      go a_main i = i
      go a_run i = ap (kind_of r ∷◌) i
      go unlisted i = i

  abbrev shown_run : List ℕ → PublicRun
  shown_run r = public_run (run_of t r)

  runs_same : (rs : List (List ℕ)) → runs_in (looks t rs) ≡ map shown_run (only is_run rs)
  runs_same [] = refl
  runs_same (r ∷ rs) =
      go (sort_of (kind_of r)) (runs_same rs) ∙ sym (ap (λ (b : Bool). map shown_run (cond b (r ∷ only is_run rs) (only is_run rs))) (tests (kind_of r)).runs)
    where
      go : (σ : Sort) → runs_in (looks t rs) ≡ map shown_run (only is_run rs) → runs_in (look_as σ t r ++ looks t rs) ≡ map shown_run (cond (run_sort σ) (r ∷ only is_run rs) (only is_run rs))
      go a_report i = i
      go a_suite i = i
      go a_case_of i = i
      go a_main i = i
      go a_run i = ap (shown_run r ∷◌) i
      go unlisted i = i

  map-map : (rs : List (List ℕ)) → map public_run (map (run_of t) rs) ≡ map shown_run rs
  map-map [] = refl
  map-map (r ∷ rs) = ap (shown_run r ∷◌) (map-map rs)

  status-same : (ms rs : List (List ℕ)) → status_shown (status_of t ms rs) ≡ node_status (map kind_of ms)
  status-same [] rs = refl
  status-same (m ∷ ms) rs = go (eqb (kind_of m) 8) (eqb (kind_of m) 6)
    where
      go : (b c : Bool) → status_shown (cond b (skipped (reason_of t m)) (non_success (cond c failure error) (reason_of t m) (kind_of_runs t m rs) (map (run_of t) rs)))
          ≡ cond b is_skipped (cond c is_failure is_error)
      go true c = refl
      go false true = refl
      go false false = refl

  family-same : (m : List ℕ) (rs : List (List ℕ)) → has_bit bit.flaky m ≡ false → kind_shown (kind_of_runs t m rs) ≡ family_of (map kind_of rs)
  family-same m [] e = ap (λ (b : Bool). kind_shown (cond b flaky rerun)) e
  family-same m (r ∷ rs) e = go (leb (kind_of r) 10)
    where
      go : (b : Bool) → kind_shown (cond b flaky rerun) ≡ cond b flaky_kind rerun_kind
      go true = refl
      go false = refl

  kind-same : (ms rs : List (List ℕ)) → Solid ms → run_kind_shown (status_of t ms rs) ≡ node_kind (map kind_of ms) (map kind_of rs)
  kind-same [] rs s = refl
  kind-same (m ∷ ms) rs s = go (eqb (kind_of m) 8) (eqb (kind_of m) 6)
    where
      go : (b c : Bool) → run_kind_shown (cond b (skipped (reason_of t m)) (non_success (cond c failure error) (reason_of t m) (kind_of_runs t m rs) (map (run_of t) rs)))
          ≡ cond b no_kind (family_of (map kind_of rs))
      go true c = refl
      go false c = family-same m rs s.0.1

  shown-same : (ms rs : List (List ℕ)) → runs_shown (status_of t ms rs) ≡ node_runs (map kind_of ms) (map shown_run rs)
  shown-same [] rs = map-map rs
  shown-same (m ∷ ms) rs = go (eqb (kind_of m) 8) (eqb (kind_of m) 6)
    where
      go : (b c : Bool) → runs_shown (cond b (skipped (reason_of t m)) (non_success (cond c failure error) (reason_of t m) (kind_of_runs t m rs) (map (run_of t) rs)))
          ≡ cond b [] (map shown_run rs)
      go true c = refl
      go false c = map-map rs

  only-solid : (p : List ℕ → Bool) (rs : List (List ℕ)) → Solid rs → Solid (only p rs)
  only-solid p [] s = tt
  only-solid p (r ∷ rs) s = go (p r) (only-solid p rs s.1)
    where
      go : (b : Bool) → Solid (only p rs) → Solid (cond b (r ∷ only p rs) (only p rs))
      go true h = (s.0, h)
      go false h = h

  until-solid : (p : List ℕ → Bool) (rs : List (List ℕ)) → Solid rs → Solid (until p rs)
  until-solid p [] s = tt
  until-solid p (r ∷ rs) s = go (p r) (until-solid p rs s.1)
    where
      go : (b : Bool) → Solid (until p rs) → Solid (cond b [] (r ∷ until p rs))
      go true h = tt
      go false h = (s.0, h)

  case_same : (r : List ℕ) (rs : List (List ℕ)) → Solid rs →
      public_case (case_of t (record { head = r; below = rs })) ≡ case_from (text_at t r 2) (second t r) (time r) (looks t rs)
  case_same r rs s =
      let ms : List (List ℕ) = only is_main rs in
      let ns : List (List ℕ) = only is_run rs in
      ap₂ (λ (x : Status) (y : RunKind). record { name = text_at t r 2; classname = second t r; time = time r; status = x; kind = y; runs = runs_shown (status_of t ms ns) })
      (status-same ms ns ∙ sym (ap node_status (mains-same rs)))
      (kind-same ms ns (only-solid is_main rs s) ∙ sym (ap₂ (λ (x y : List ℕ). node_kind x y) (mains-same rs) (codes_same rs)))
      ∙ ap (λ (z : List PublicRun). record {
        name = text_at t r 2;
        classname = second t r;
        time = time r;
        status = node_status (mains_in (looks t rs));
        kind = node_kind (mains_in (looks t rs)) (run_codes_in (looks t rs));
        runs = z;
      })
      (shown-same ms ns ∙ sym (ap₂ (λ (x : List ℕ) (y : List PublicRun). node_runs x y) (mains-same rs) (runs_same rs)))

  -- ---- up to the next case, or suite
  until-case : (rs : List (List ℕ)) → looks t (until is_case rs) ≡ up_to_next is_case_node (looks t rs)
  until-case [] = refl
  until-case (r ∷ rs) = ap (λ (b : Bool). looks t (cond b [] (r ∷ until is_case rs))) (tests (kind_of r)).cases ∙ go (sort_of (kind_of r)) refl (until-case rs)
    where
      go : (σ : Sort) → sort_of (kind_of r) ≡ σ → looks t (until is_case rs) ≡ up_to_next is_case_node (looks t rs) →
          looks t (cond (case_sort σ) [] (r ∷ until is_case rs)) ≡ up_to_next is_case_node (look_as σ t r ++ looks t rs)
      go a_report e i = ap (λ (τ : Sort). look_as τ t r ++ looks t (until is_case rs)) e ∙ ap (report_node (first t r) (counts r) ∷◌) i
      go a_suite e i = ap (λ (τ : Sort). look_as τ t r ++ looks t (until is_case rs)) e ∙ ap (suite_node (text_at t r 2) (counts r) ∷◌) i
      go a_case_of e i = refl
      go a_main e i = ap (λ (τ : Sort). look_as τ t r ++ looks t (until is_case rs)) e ∙ ap (main_node (kind_of r) ∷◌) i
      go a_run e i = ap (λ (τ : Sort). look_as τ t r ++ looks t (until is_case rs)) e ∙ ap (run_node (kind_of r) (time r) ∷◌) i
      go unlisted e i = ap (λ (τ : Sort). look_as τ t r ++ looks t (until is_case rs)) e ∙ i

  until-suite : (rs : List (List ℕ)) → looks t (until is_suite rs) ≡ up_to_next is_suite_node (looks t rs)
  until-suite [] = refl
  until-suite (r ∷ rs) = ap (λ (b : Bool). looks t (cond b [] (r ∷ until is_suite rs))) (tests (kind_of r)).suites ∙ go (sort_of (kind_of r)) refl (until-suite rs)
    where
      go : (σ : Sort) → sort_of (kind_of r) ≡ σ → looks t (until is_suite rs) ≡ up_to_next is_suite_node (looks t rs) →
          looks t (cond (suite_sort σ) [] (r ∷ until is_suite rs)) ≡ up_to_next is_suite_node (look_as σ t r ++ looks t rs)
      go a_report e i = ap (λ (τ : Sort). look_as τ t r ++ looks t (until is_suite rs)) e ∙ ap (report_node (first t r) (counts r) ∷◌) i
      go a_suite e i = refl
      go a_case_of e i = ap (λ (τ : Sort). look_as τ t r ++ looks t (until is_suite rs)) e ∙ ap (case_node (text_at t r 2) (second t r) (time r) ∷◌) i
      go a_main e i = ap (λ (τ : Sort). look_as τ t r ++ looks t (until is_suite rs)) e ∙ ap (main_node (kind_of r) ∷◌) i
      go a_run e i = ap (λ (τ : Sort). look_as τ t r ++ looks t (until is_suite rs)) e ∙ ap (run_node (kind_of r) (time r) ∷◌) i
      go unlisted e i = ap (λ (τ : Sort). look_as τ t r ++ looks t (until is_suite rs)) e ∙ i

  -- ---- the cases of a suite, the suites of a report
  cases_same : (rs : List (List ℕ)) → Solid rs → map public_case (map (case_of t) (branches is_case rs)) ≡ cases_in (looks t rs)
  cases_same [] s = refl
  cases_same (r ∷ rs) s =
      ap (λ (b : Bool). map public_case (map (case_of t) (cond b (record { head = r; below = until is_case rs } ∷ branches is_case rs) (branches is_case rs)))) (tests (kind_of r)).cases
      ∙ go (sort_of (kind_of r)) (cases_same rs s.1)
    where
      go : (σ : Sort) → map public_case (map (case_of t) (branches is_case rs)) ≡ cases_in (looks t rs) →
          map public_case (map (case_of t) (cond (case_sort σ) (record { head = r; below = until is_case rs } ∷ branches is_case rs) (branches is_case rs))) ≡ cases_in (look_as σ t r ++ looks t rs)
      go a_report i = i
      go a_suite i = i
      go a_case_of i =
          ap₂ (λ (x : PublicCase) (y : List PublicCase). x ∷ y)
          (case_same r (until is_case rs) (until-solid is_case rs s.1) ∙ ap (case_from (text_at t r 2) (second t r) (time r)) (until-case rs)) i
      go a_main i = i
      go a_run i = i
      go unlisted i = i

  suites-same : (rs : List (List ℕ)) → Solid rs → map public_suite (map (suite_of t) (branches is_suite rs)) ≡ suites_in (looks t rs)
  suites-same [] s = refl
  suites-same (r ∷ rs) s =
      ap (λ (b : Bool). map public_suite (map (suite_of t) (cond b (record { head = r; below = until is_suite rs } ∷ branches is_suite rs) (branches is_suite rs)))) (tests (kind_of r)).suites
      ∙ go (sort_of (kind_of r)) (suites-same rs s.1)
    where
      go : (σ : Sort) → map public_suite (map (suite_of t) (branches is_suite rs)) ≡ suites_in (looks t rs) →
          map public_suite (map (suite_of t) (cond (suite_sort σ) (record { head = r; below = until is_suite rs } ∷ branches is_suite rs) (branches is_suite rs))) ≡ suites_in (look_as σ t r ++ looks t rs)
      go a_report i = i
      go a_suite i =
          ap₂ (λ (x : List PublicCase) (y : List PublicSuite). record { name = text_at t r 2; counts = counts r; cases = x } ∷ y)
          (cases_same (until is_suite rs) (until-solid is_suite rs s.1) ∙ ap cases_in (until-suite rs)) i
      go a_case_of i = i
      go a_main i = i
      go a_run i = i
      go unlisted i = i

  -- ---- the report
  report-first : (rs : List (List ℕ)) → Solid rs → (r : List ℕ) → kind_of r ≡ 1 → public_or (report_from t (r ∷ rs)) ≡ report_in (look t r ++ looks t rs)
  unfolding sort_of
  report-first rs s r e =
      ap (λ (x : List PublicSuite). some (record { name = first t r; counts = counts r; suites = x })) (suites-same rs s)
      ∙ sym (ap (λ (k : ℕ). report_in (look_as (sort_of k) t r ++ looks t rs)) e)

  pub report-same : (rs : List (List ℕ)) → Solid rs → heads rs ≡ 1 → public_or (report_from t (only live rs)) ≡ report_in (looks t rs)
  report-same [] s h = let z : ◌≡◌ {A = ℕ} 0 1 = h in absurd (omega arith)
  report-same (r ∷ rs) s h = go (live r) refl (report-same rs s.1) h
    where
      go : (b : Bool) → live r ≡ b → (heads rs ≡ 1 → public_or (report_from t (only live rs)) ≡ report_in (looks t rs)) → cond b (kind_of r) (heads rs) ≡ 1 →
          public_or (report_from t (cond b (r ∷ only live rs) (only live rs))) ≡ report_in (look t r ++ looks t rs)
      go true e i k = report-first (only live rs) (only-solid live rs s.1) r k ∙ ap (λ (x : List Node). report_in (look t r ++ x)) (looks-live t rs)
      go false e i k =
          let d : 16 ≤ kind_of r = ltb-false (kind_of r) 16 e in
          i k ∙ sym (ap (λ (σ : Sort). report_in (look_as σ t r ++ looks t rs)) (sort-dead (kind_of r) (omega arith)))
