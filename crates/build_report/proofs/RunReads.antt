-- What a builder reads off its areas of the open case's failure or error, and of its runs. Assumes nothing.
use Prim.Native.Nat.{ℕ, ◌+◌, ◌-◌, ◌*◌, ◌<◌}
use mathlib.Core.Bool.{Bool, false, cond, not, ◌&&◌, ◌||◌}
use mathlib.Core.List.{List, [], ◌∷◌, ◌++◌, map}
use mathlib.Core.Option.{Option, none, some}
use mathlib.Core.Path.{◌≡◌, refl, sym, ap, ap₂, ◌∙◌}
use native.Mathlib.Omega.{arith}
use borrow.Author.Tests.{eq-eqb, ne_eqb}
use lib.Dec.{leb, eqb, lit≤}
use lib.ListN.{length, drop, length-append, length-map}
use Rattle.tree_placed.specs.of_refusal.Refusal.{nowhere}
use Rattle.tree_placed.specs.of_tree_record.Record.{has_bit}
use Rattle.tree_placed.specs.of_tree_report.Report.{NonSuccessKind, failure, error, FlakyOrRerun, flaky, rerun, TestRerun, Reason, TestCaseStatus, success, non_success, skipped, TestCase, TestSuite, Report}
use Rattle.tree_placed.specs.of_tree_report.inside.Cells.{Row, main_row, kind_of_main, kind_of_run, run_row, is_flaky_alone, status_rows, rows_of}
use Rattle.build_draft.specs.declared.Builder.{Builder}
use Rattle.build_draft.specs.declared.FlakyOrRerun.{FlakyOrRerun as Family}
use Rattle.build_draft.specs.declared.FlakyOrRerun.TheVariants as families
use Rattle.build_draft.specs.Draft.{Draft, kind_at, is_of, last_of}
use Rattle.build_draft.specs.Calls as call
use Rattle.build_draft.specs.Calls.{has_runs, family_of}
use Rattle.build_report.specs.Operations.{last_in, open_case, has_main, is_empty}
use Rattle.build_report.specs.Stands.{suite_mark, case_mark, main_mark, main_mark_of, Stands}
use Rattle.build_report.specs.Builders.{is_non_success, of_case, has_family}
use Rattle.build_report.proofs.Lasts.{last_none}
use Rattle.build_report.proofs.Openings.{up_to_status, length-up_to-status, rows-status}
use Rattle.build_report.proofs.Marks.{main-marked}
use Rattle.build_report.proofs.Spots.{spot-run}
use Rattle.build_report.proofs.Reading.{bit-held}
use Rattle.build_report.proofs.Storing.{holding, rows-many, few-rows, nowhere-record, parted, before-many, is-of-there, kind-at}

-- ---- whether a case is open
pub data Opened (r : Report) : Type 0 where
  no-case : open_case (last_in r.suites) ≡ none → Opened r
  one-case : {s : TestSuite} {c : TestCase} → last_in r.suites ≡ some s → last_in s.cases ≡ some c → Opened r

pub opened : (r : Report) → Opened r
opened r = go (last_in r.suites) refl
  where
    in-suite : (s : TestSuite) → last_in r.suites ≡ some s → (q : Option TestCase) → last_in s.cases ≡ q → Opened r
    in-suite s e none d = no-case (ap open_case e ∙ d)
    in-suite s e (some c) d = one-case e d

    go : (o : Option TestSuite) → last_in r.suites ≡ o → Opened r
    go none e = no-case (ap open_case e)
    go (some s) e = in-suite s e (last_in s.cases) refl

no_main : (r : Report) (o : Option TestSuite) → main_mark_of r o none ≡ nowhere
no_main r none = refl
no_main r (some s) = refl

-- ---- the family of runs, in the calls' words
abbrev pub family_name : FlakyOrRerun → Family
family_name flaky = families.Flaky
family_name rerun = families.Rerun

-- by the kind of a run
by_kind : (g : FlakyOrRerun) (k : NonSuccessKind) → cond (leb (kind_of_run g k) 10) families.Flaky families.Rerun ≡ family_name g
by_kind flaky failure = refl
by_kind flaky error = refl
by_kind rerun failure = refl
by_kind rerun error = refl

-- by the flaky bit, where there are none
by_flag : (g : FlakyOrRerun) → cond (is_flaky_alone g []) families.Flaky families.Rerun ≡ family_name g
by_flag flaky = refl
by_flag rerun = refl

module _ {b : Builder} {words text : List ℕ} {r : Report} (h : Stands b words text r) where
  abbrev pub draft : Draft
  draft = record { builder = b; words = words; text = text }

  -- ---- whether there is a failure or error
  -- where the mark stands for none
  none_of : (k : ℕ) → b.main ≡ nowhere → is_of b words b.main k ≡ false
  unfolding is_of
  none_of k n = ap (λ (j : ℕ). is_of b words j k) n ∙ ap (λ (t : Bool). t && eqb (kind_at words nowhere) k) (nowhere-record h.stored)

  no-main_test : b.main ≡ nowhere → call.is_non_success draft ≡ false
  unfolding call.is_non_success
  no-main_test n = ap₂ (λ (x y : Bool). x || y) (none_of 6 n) (none_of 7 n)

  -- where it stands for a row
  module _ (front : List Row) (row : Row) (back : List Row) (e : rows_of r ≡ front ++ (row ∷ back)) (at : length front ≡ b.main) where
    main-test : call.is_non_success draft ≡ (eqb row.kind 6 || eqb row.kind 7)
    unfolding call.is_non_success
    main-test =
        let p = parted front row back (holding h.stored) (h.stored.rows ∙ e) in
        ap₂ (λ (x y : Bool). x || y) (is-of-there p at 6) (is-of-there p at 7)

    row-bit : has_bit 9 (drop (b.main * 32) words) ≡ row.is_flaky
    row-bit =
        let p = parted front row back (holding h.stored) (h.stored.rows ∙ e) in
        bit-held p.before p.here p.behind (before-many p at) p.held 9 (lit≤ tt) ∙ ap (λ (x : Row). x.is_flaky) p.row_is

    main-low : b.main < nowhere
    main-low =
        let l = few-rows h.stored in
        let n : length (rows_of r) ≡ length front + length (row ∷ back) = ap length e ∙ length-append front (row ∷ back) in
        omega arith

  -- ---- of the open case
  module _ {s : TestSuite} {c : TestCase} (e : last_in r.suites ≡ some s) (d : last_in s.cases ≡ some c) where
    pub main-number : (t : TestCaseStatus) → c.status ≡ t → b.main ≡ cond (has_main t) (main_mark (case_mark (suite_mark r) s) c) nowhere
    main-number t q = main-marked r e d h.marks ∙ ap (λ (u : TestCaseStatus). cond (has_main u) (main_mark (case_mark (suite_mark r) s) c) nowhere) q

    status-is : (t : TestCaseStatus) → c.status ≡ t → rows_of r ≡ up_to_status r s c ++ status_rows t
    status-is t q = rows-status r e d ∙ ap (λ (u : TestCaseStatus). up_to_status r s c ++ status_rows u) q

    pub status-test : (t : TestCaseStatus) → c.status ≡ t → call.is_non_success draft ≡ is_non_success t
    status-test (success runs) q = no-main_test (main-number (success runs) q)
    status-test (non_success failure m g runs) q =
        main-test (up_to_status r s c) (main_row 6 (is_flaky_alone g runs) m) (map (run_row g) runs) (status-is (non_success failure m g runs) q)
        (length-up_to-status r s c ∙ sym (main-number (non_success failure m g runs) q))
    status-test (non_success error m g runs) q =
        main-test (up_to_status r s c) (main_row 7 (is_flaky_alone g runs) m) (map (run_row g) runs) (status-is (non_success error m g runs) q)
        (length-up_to-status r s c ∙ sym (main-number (non_success error m g runs) q))
    status-test (skipped m) q =
        main-test (up_to_status r s c) (main_row 8 false m) [] (status-is (skipped m) q) (length-up_to-status r s c ∙ sym (main-number (skipped m) q))

    -- whether it has a main at all
    pub main-none_test : (t : TestCaseStatus) → c.status ≡ t → eqb b.main nowhere ≡ not (has_main t)
    main-none_test (success runs) q = eq-eqb b.main nowhere (main-number (success runs) q)
    main-none_test (non_success k m g runs) q =
        let l = main-low (up_to_status r s c) (main_row (kind_of_main k) (is_flaky_alone g runs) m) (map (run_row g) runs) (status-is (non_success k m g runs) q)
        (length-up_to-status r s c ∙ sym (main-number (non_success k m g runs) q)) in
        ne_eqb b.main nowhere (λ x. omega arith)
    main-none_test (skipped m) q =
        let l = main-low (up_to_status r s c) (main_row 8 false m) [] (status-is (skipped m) q) (length-up_to-status r s c ∙ sym (main-number (skipped m) q)) in
        ne_eqb b.main nowhere (λ x. omega arith)

    -- ---- its runs
    module _ {k : NonSuccessKind} {m : Reason} {g : FlakyOrRerun} {runs : List TestRerun} (q : c.status ≡ non_success k m g runs) where
      -- how many
      pub runs-many : b.records ≡ b.main + 1 + length runs
      runs-many =
          let main : Row = main_row (kind_of_main k) (is_flaky_alone g runs) m in
          let a : length (rows_of r) ≡ length (up_to_status r s c) + length (main ∷ map (run_row g) runs) =
          ap length (status-is (non_success k m g runs) q) ∙ length-append (up_to_status r s c) (main ∷ map (run_row g) runs) in
          let n : length (map (run_row g) runs) ≡ length runs = length-map runs (run_row g) in
          let x : length (up_to_status r s c) ≡ b.main = length-up_to-status r s c ∙ sym (main-number (non_success k m g runs) q) in
          let y = rows-many h.stored in
          omega arith

      pub flag-read : has_bit 9 (drop (b.main * 32) words) ≡ is_flaky_alone g runs
      flag-read =
          row-bit (up_to_status r s c) (main_row (kind_of_main k) (is_flaky_alone g runs) m) (map (run_row g) runs) (status-is (non_success k m g runs) q)
          (length-up_to-status r s c ∙ sym (main-number (non_success k m g runs) q))

      last-kind : {run : TestRerun} → last_in runs ≡ some run → kind_at words (last_of b) ≡ kind_of_run g run.kind
      last-kind l = ap (λ (n : ℕ). kind_at words (n - 1)) (sym (rows-many h.stored)) ∙ kind-at h.stored (spot-run r e d (λ x. x) q l)

    pub runs-test : {k : NonSuccessKind} {m : Reason} {g : FlakyOrRerun} (runs : List TestRerun) → c.status ≡ non_success k m g runs → has_runs draft ≡ not (is_empty runs)
    runs-test [] q = let n = runs-many q in ap not (eq-eqb (b.main + 1) b.records (omega arith))
    runs-test (x ∷ xs) q = let n = runs-many q in ap not (ne_eqb (b.main + 1) b.records (λ y. omega arith))

    -- the family that a new run gets, by whether there are runs
    abbrev family_if : Bool → Family
    family_if t = cond t (cond (leb (kind_at words (last_of b)) 10) families.Flaky families.Rerun) (cond (has_bit 9 (drop (b.main * 32) words)) families.Flaky families.Rerun)

    pub family-read : {k : NonSuccessKind} {m : Reason} {g : FlakyOrRerun} (runs : List TestRerun) → c.status ≡ non_success k m g runs → family_of draft ≡ family_name g
    family-read {g = g} [] q =
        ap family_if (runs-test [] q)
        ∙ ap (λ (t : Bool). cond t families.Flaky families.Rerun) (flag-read q) ∙ by_flag g
    family-read {g = g} (x ∷ xs) q =
        ap family_if (runs-test (x ∷ xs) q)
        ∙ go (last_in (x ∷ xs)) refl
      where
        go : (o : Option TestRerun) → last_in (x ∷ xs) ≡ o → cond (leb (kind_at words (last_of b)) 10) families.Flaky families.Rerun ≡ family_name g
        go none l = let z : x ∷ xs ≡ [] = last_none (x ∷ xs) l in let w : ◌≡◌ {A = ℕ} 0 1 = cc in absurd (omega arith)
        go (some run) l = ap (λ (k : ℕ). cond (leb k 10) families.Flaky families.Rerun) (last-kind q l) ∙ by_kind g run.kind

  -- ---- the test of `set_rerun_kind`, in the claim's words
  pub family-test : call.is_non_success draft ≡ has_family r
  family-test = go (opened r)
    where
      go : Opened r → call.is_non_success draft ≡ has_family r
      go (no-case q) =
          no-main_test (h.marks.main ∙ ap (main_mark_of r (last_in r.suites)) q ∙ no_main r (last_in r.suites)) ∙ sym (ap (of_case (λ (c : TestCase). is_non_success c.status)) q)
      go (one-case {c = c} e d) = status-test e d c.status refl ∙ sym (ap (of_case (λ (c : TestCase). is_non_success c.status)) (ap open_case e ∙ d))
