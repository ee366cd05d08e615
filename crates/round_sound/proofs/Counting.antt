-- A report has no more rows than there are records that it is read from. Assumes nothing.
use Prim.Native.Nat.{ℕ, suc, ◌+◌, ◌≤◌}
use mathlib.Core.Bool.{Bool, true, false, cond, ◌&&◌, ◌||◌, true≢false}
use mathlib.Core.List.{List, [], ◌∷◌, ◌++◌, map}
use mathlib.Core.Path.{◌≡◌, refl, sym, ap, ◌∙◌}
use native.Mathlib.Omega.{arith}
use borrow.Author.Tests.{eqb-true, leb-true, lt-leb}
use lib.Dec.{leb, eqb}
use lib.ListN.{length, length-append, length-map}
use Rattle.tree_layout.specs.of_tree_record.Kinds as kind
use Rattle.tree_layout.specs.of_tree_report.Report.{failure, error, FlakyOrRerun, flaky, non_success, skipped}
use Rattle.tree_layout.specs.of_tree_report.Fields.{kind_of, is_suite, is_case, is_main, is_run, is_suite_property, is_case_property, is_suite_extra, is_case_extra}
use Rattle.tree_layout.specs.of_tree_report.ReportOf.{Branch, only, until, branches, pair_of, pairs_of_it, reason_of, run_of, kind_of_runs, status_of, case_of, suite_of}
use Rattle.tree_layout.specs.of_tree_report.Encode.{Row, rows_of_each, pair_row_of, run_row, status_rows, case_rows, suite_rows}
use Rattle.tree_layout.proofs.of_tree_report.EncodeLists.{and_right}

-- ---- how many records pass a test
abbrev many : (List ℕ → Bool) → List (List ℕ) → ℕ
many p rs = length (only p rs)

pub many-length : (p : List ℕ → Bool) (rs : List (List ℕ)) → length (only p rs) ≤ length rs
many-length p [] = omega arith
many-length p (r ∷ rs) = go (p r) (many-length p rs)
  where
    go : (b : Bool) → many p rs ≤ length rs → length (cond b (r ∷ only p rs) (only p rs)) ≤ suc (length rs)
    go true h = omega arith
    go false h = omega arith

-- no record passes both
many-apart : (p q : List ℕ → Bool) → ((r : List ℕ) → p r ≡ true → q r ≡ false) → (rs : List (List ℕ)) → many p rs + many q rs ≤ many (λ (r : List ℕ). p r || q r) rs
many-apart p q apart [] = omega arith
many-apart p q apart (r ∷ rs) = go (p r) (q r) refl refl (many-apart p q apart rs)
  where
    go : (b c : Bool) → p r ≡ b → q r ≡ c → many p rs + many q rs ≤ many (λ (x : List ℕ). p x || q x) rs
        → length (cond b (r ∷ only p rs) (only p rs)) + length (cond c (r ∷ only q rs) (only q rs))
        ≤ length (cond (b || c) (r ∷ only (λ (x : List ℕ). p x || q x) rs) (only (λ (x : List ℕ). p x || q x) rs))
    go true true e f h = absurd (true≢false (sym f ∙ apart r e))
    go true false e f h = omega arith
    go false true e f h = omega arith
    go false false e f h = omega arith

-- ---- branches: of what stands behind a record up to the next of its kind, those that pass q are counted once
abbrev sizes : (Branch → List Row) → List Branch → ℕ
sizes f bs = length (rows_of_each f bs)

module _ (p q : List ℕ → Bool) (f : Branch → List Row) (few : (b : Branch) → length (f b) ≤ suc (many q b.below)) where
  abbrev either : List ℕ → Bool
  either r = p r || q r

  branches-many : (rs : List (List ℕ)) → many q (until p rs) + sizes f (branches p rs) ≤ many either rs
  branches-many [] = omega arith
  branches-many (r ∷ rs) = go (p r) (q r) refl (branches-many rs)
    where
      here : Branch
      here = record { head = r; below = until p rs }

      go : (b c : Bool) → q r ≡ c → many q (until p rs) + sizes f (branches p rs) ≤ many either rs
          → many q (cond b [] (r ∷ until p rs)) + sizes f (cond b (here ∷ branches p rs) (branches p rs)) ≤ length (cond (b || c) (r ∷ only either rs) (only either rs))
      go true c e h =
          let a : length (f here ++ rows_of_each f (branches p rs)) ≡ length (f here) + sizes f (branches p rs) = length-append (f here) (rows_of_each f (branches p rs)) in
          let k = few here in
          omega arith
      go false true e h = rw e (omega arith)
      go false false e h = rw e (omega arith)

  pub branch-rows : (rs : List (List ℕ)) → length (rows_of_each f (branches p rs)) ≤ many either rs
  branch-rows rs = let h = branches-many rs in omega arith

rows-map : {A : Type 0} (g : Branch → A) (f : A → List Row) (bs : List Branch) → rows_of_each f (map g bs) ≡ rows_of_each (λ (b : Branch). f (g b)) bs
rows-map g f [] = refl
rows-map g f (b ∷ bs) = ap (λ (l : List Row). f (g b) ++ l) (rows-map g f bs)

-- ---- the tests of kinds: those of a case's parts, and of a suite's
abbrev is_status : List ℕ → Bool
is_status r = is_main r || is_run r

abbrev in_case₁ : List ℕ → Bool
in_case₁ r = is_case_property r || is_status r

abbrev in_case : List ℕ → Bool
in_case r = is_case_extra r || in_case₁ r

abbrev in_suite₁ : List ℕ → Bool
in_suite₁ r = is_case r || in_case r

abbrev in_suite₂ : List ℕ → Bool
in_suite₂ r = is_suite_property r || in_suite₁ r

abbrev in_suite : List ℕ → Bool
in_suite r = is_suite_extra r || in_suite₂ r

-- a record of kind k fails what k fails
kind-apart : (k : ℕ) (q : ℕ → Bool) → q k ≡ false → (r : List ℕ) → eqb (kind_of r) k ≡ true → q (kind_of r) ≡ false
kind-apart k q e r h = ap q (eqb-true (kind_of r) k h) ∙ e

main-no-run : (r : List ℕ) → is_main r ≡ true → is_run r ≡ false
main-no-run r e =
    let h = leb-true (kind_of r) kind.skipped (and_right (leb kind.failure (kind_of r)) (leb (kind_of r) kind.skipped) e) in
    ap (λ (b : Bool). b && leb (kind_of r) kind.rerun_error) (lt-leb kind.flaky_failure (kind_of r) (omega arith))

-- ---- cases and suites
module _ (text : List ℕ) where
  pairs-many : (k : ℕ) (p : List ℕ → Bool) (rs : List (List ℕ)) → length (map (pair_row_of k) (pairs_of_it text p rs)) ≡ many p rs
  pairs-many k p rs = length-map (pairs_of_it text p rs) (pair_row_of k) ∙ length-map (only p rs) (pair_of text)

  runs-many : (family : FlakyOrRerun) (rs : List (List ℕ)) → length (map (run_row family) (map (run_of text) rs)) ≡ length rs
  runs-many family rs = length-map (map (run_of text) rs) (run_row family) ∙ length-map rs (run_of text)

  status-many : (ms rs : List (List ℕ)) → length (status_rows (status_of text ms rs)) ≤ length ms + length rs
  status-many [] rs = let e = runs-many flaky rs in omega arith
  status-many (m ∷ ms) rs = go (eqb (kind_of m) kind.skipped) (eqb (kind_of m) kind.failure)
    where
      go : (b c : Bool)
          → length (status_rows (cond b (skipped (reason_of text m)) (non_success (cond c failure error) (reason_of text m) (kind_of_runs text m rs) (map (run_of text) rs)))) ≤ suc (length ms) + length rs
      go true c = omega arith
      go false c = let e = runs-many (kind_of_runs text m rs) rs in omega arith

  case-many : (b : Branch) → length (case_rows (case_of text b)) ≤ suc (many in_case b.below)
  case-many b =
      let rs : List (List ℕ) = b.below in
      let extras : List Row = map (pair_row_of kind.case_extra) (pairs_of_it text is_case_extra rs) in
      let properties : List Row = map (pair_row_of kind.case_property) (pairs_of_it text is_case_property rs) in
      let status : List Row = status_rows (status_of text (only is_main rs) (only is_run rs)) in
      let l : length (extras ++ (properties ++ status)) ≡ length extras + length (properties ++ status) = length-append extras (properties ++ status) in
      let k : length (properties ++ status) ≡ length properties + length status = length-append properties status in
      let e : length extras ≡ many is_case_extra rs = pairs-many kind.case_extra is_case_extra rs in
      let p : length properties ≡ many is_case_property rs = pairs-many kind.case_property is_case_property rs in
      let s = status-many (only is_main rs) (only is_run rs) in
      let a = many-apart is_main is_run main-no-run rs in
      let c = many-apart is_case_property is_status (kind-apart 5 (λ (n : ℕ). (leb 6 n && leb n 8) || (leb 9 n && leb n 12)) refl) rs in
      let d = many-apart is_case_extra in_case₁ (kind-apart 14 (λ (n : ℕ). eqb n 5 || ((leb 6 n && leb n 8) || (leb 9 n && leb n 12))) refl) rs in
      omega arith

  suite-many : (b : Branch) → length (suite_rows (suite_of text b)) ≤ suc (many in_suite b.below)
  suite-many b =
      let rs : List (List ℕ) = b.below in
      let extras : List Row = map (pair_row_of kind.suite_extra) (pairs_of_it text is_suite_extra rs) in
      let properties : List Row = map (pair_row_of kind.suite_property) (pairs_of_it text is_suite_property rs) in
      let cases : List Row = rows_of_each case_rows (map (case_of text) (branches is_case rs)) in
      let l : length (extras ++ (properties ++ cases)) ≡ length extras + length (properties ++ cases) = length-append extras (properties ++ cases) in
      let k : length (properties ++ cases) ≡ length properties + length cases = length-append properties cases in
      let e : length extras ≡ many is_suite_extra rs = pairs-many kind.suite_extra is_suite_extra rs in
      let p : length properties ≡ many is_suite_property rs = pairs-many kind.suite_property is_suite_property rs in
      let m : length cases ≡ length (rows_of_each (λ (c : Branch). case_rows (case_of text c)) (branches is_case rs)) = ap length (rows-map (case_of text) case_rows (branches is_case rs)) in
      let s : length (rows_of_each (λ (c : Branch). case_rows (case_of text c)) (branches is_case rs)) ≤ many in_suite₁ rs =
      branch-rows is_case in_case (λ (c : Branch). case_rows (case_of text c)) case-many rs in
      let c = many-apart is_suite_property in_suite₁ (kind-apart 4 (λ (n : ℕ). eqb n 3 || (eqb n 14 || (eqb n 5 || ((leb 6 n && leb n 8) || (leb 9 n && leb n 12))))) refl) rs in
      let d = many-apart is_suite_extra in_suite₂ (kind-apart 13 (λ (n : ℕ). eqb n 4 || (eqb n 3 || (eqb n 14 || (eqb n 5 || ((leb 6 n && leb n 8) || (leb 9 n && leb n 12)))))) refl) rs in
      omega arith

  pub suites-many : (rs : List (List ℕ)) → length (rows_of_each suite_rows (map (suite_of text) (branches is_suite rs))) ≤ length rs
  suites-many rs =
      let f : Branch → List Row = λ b. suite_rows (suite_of text b) in
      let m : length (rows_of_each suite_rows (map (suite_of text) (branches is_suite rs))) ≡ length (rows_of_each f (branches is_suite rs)) =
      ap length (rows-map (suite_of text) suite_rows (branches is_suite rs)) in
      let s = branch-rows is_suite in_suite f suite-many rs in
      let k = many-length (λ (r : List ℕ). is_suite r || in_suite r) rs in
      omega arith
