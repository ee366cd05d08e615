-- Records that show a report's rows are read back as the report. Assumes nothing.
use Prim.Native.Nat.{ℕ, ◌/◌, ◌%◌}
use mathlib.Core.Bool.{Bool, true, false, cond, not, ◌&&◌}
use mathlib.Core.List.{List, [], ◌∷◌, ◌++◌, map}
use mathlib.Core.Option.{some}
use mathlib.Core.Path.{◌≡◌, refl, ap, ap₂, ◌∙◌}
use borrow.Author.Tests.{le-leb, not-false}
use lib.Dec.{leb, ltb, eqb}
use Rattle.schema.proofs.Tests.{bit-flag}
use Rattle.schema.specs.Schema as table
use Rattle.schema.specs.Records.{Fields, is_some, marks_from}
use Rattle.schema.specs.Elements as named
use Rattle.tree_report.specs.Encode.{Row, rows_of_each, every, pair_row_of, main_row, skipped_row, kind_of_main, kind_of_run, run_row}
use Rattle.tree_report.specs.Encode.{is_flaky_alone, status_rows, case_row, case_rows, suite_row, suite_rows, rows_of}
use Rattle.tree_report.specs.Fields.{kind_of, live, has_bit, given, is_suite, is_case, is_main, is_run}
use Rattle.tree_report.specs.Report.{Text, Pair, NonSuccessKind, failure, error, FlakyOrRerun, flaky, rerun, TestRerun, Reason}
use Rattle.tree_report.specs.Report.{TestCaseStatus, success, non_success, skipped, TestCase, TestSuite, Report}
use Rattle.tree_report.specs.ReportOf.{only, until, Branch, branches, pair_of, pairs_of_it, reason_of, run_of, kind_of_runs, status_of, case_of, suite_of, report_from}
use Rattle.tree_report.proofs.EncodeKinds.{run-family, run-kind, run-bounds, main-test, run_kinds, status_kinds, case_kinds, suite_kinds}
use Rattle.tree_report.proofs.EncodeKinds.{runs-kinds, status-kinds, below-case, cases-kinds, below-suite, report-kinds}
use Rattle.tree_report.proofs.EncodeLists.{both, Each, each_on, each_map, each_append, ended, beside, Parts, parts}
use Rattle.tree_report.proofs.EncodeLists.{only-all, only-first, only-rest, only_none, only-front, only-behind, branches-behind, Starts, until-next, Kinds}
use Rattle.tree_report.proofs.EncodeShown.{Headed, Shown, Shows, heads, kinds-shown, missed}

pub given-flag : (b : Bool) → is_some (given b (tt {0})) ≡ b
given-flag true = refl
given-flag false = refl

-- the flaky bit of a main
pub main-flag : (k : NonSuccessKind) (is_flaky : Bool) (r : Reason) (w : List ℕ) → Headed (main_row k is_flaky r) w → has_bit 9 w ≡ is_flaky
main-flag k is_flaky r w s =
    ap (λ (n : ℕ). eqb (n / 512 % 2) 1) s.bits ∙ bit-flag 9 (marks_from Text 0 table.main (named.main_fields is_flaky r)) ∙ given-flag is_flaky

-- ---- what stands below an element
abbrev pub under_case : TestCase → List Row
under_case c = map (pair_row_of 14) c.extra ++ (map (pair_row_of 5) c.properties ++ status_rows c.status)

abbrev pub under_suite : TestSuite → List Row
under_suite s = map (pair_row_of 13) s.extra ++ (map (pair_row_of 4) s.properties ++ rows_of_each case_rows s.cases)

module _ (text : List ℕ) where
  -- ---- tests on the records of one kind of row
  pairs-test : (q : ℕ → Bool) (t : Bool) (kind : ℕ) → q kind ≡ t → (ps : List Pair) {rs : List (List ℕ)} → Shows text (map (pair_row_of kind) ps) rs → Each (λ r. q (kind_of r) ≡ t) rs
  pairs-test q t kind e ps h = kinds-shown q t (each_map (pair_row_of kind) (λ p. e) ps) (heads h)

  no-mains : (family : FlakyOrRerun) (runs : List TestRerun) {rs : List (List ℕ)} → Shows text (map (run_row family) runs) rs → only is_main rs ≡ []
  no-mains family runs h = only_none is_main (missed (λ k. leb 6 k && leb k 8) run_kinds refl (runs-kinds family runs) (heads h))

  all_runs : (family : FlakyOrRerun) (runs : List TestRerun) {rs : List (List ℕ)} → Shows text (map (run_row family) runs) rs → only is_run rs ≡ rs
  all_runs family runs h = only-all is_run (kinds-shown (λ k. leb 9 k && leb k 12) true (each_map (run_row family) (λ e. one e.kind) runs) (heads h))
    where
      one : (k : NonSuccessKind) → (leb 9 (kind_of_run family k) && leb (kind_of_run family k) 12) ≡ true
      one k = let b = run-bounds family k in both (le-leb 9 (kind_of_run family k) b.0) (le-leb (kind_of_run family k) 12 b.1)

  -- ---- one row for each
  list_back : {A : Type 0} (f : A → Row) (read : List ℕ → A) → ((x : A) (w : List ℕ) → Shown text (f x) w → read w ≡ x)
      → (xs : List A) {rs : List (List ℕ)} → Shows text (map f xs) rs → map read rs ≡ xs
  list_back f read back [] ended = refl
  list_back f read back (x ∷ xs) (beside {y = w} s h) = ap₂ ◌∷◌ (back x w s) (list_back f read back xs h)

  pairs-back : (kind : ℕ) (ps : List Pair) {rs : List (List ℕ)} → Shows text (map (pair_row_of kind) ps) rs → map (pair_of text) rs ≡ ps
  pairs-back kind ps h = list_back (pair_row_of kind) (pair_of text) (λ p w s. ap (λ (f : Fields Text table.property). named.pair_of f) s.fields) ps h

  pub run-back : (family : FlakyOrRerun) (e : TestRerun) (w : List ℕ) → Shown text (run_row family e) w → run_of text w ≡ e
  run-back family e w s =
      let k = ap (λ (n : ℕ). cond (eqb n 9) failure (cond (eqb n 11) failure error)) s.head.kind ∙ run-kind family e.kind in
      λ i. named.run_of (k i) (s.fields i)

  runs-back : (family : FlakyOrRerun) (runs : List TestRerun) {rs : List (List ℕ)} → Shows text (map (run_row family) runs) rs → map (run_of text) rs ≡ runs
  runs-back family runs h = list_back (run_row family) (run_of text) (run-back family) runs h

  -- ---- a branch for each
  module _ {A : Type 0} (p : List ℕ → Bool) (top : A → Row) (under : A → List Row) (read : Branch → A)
      (tops : (x : A) (w : List ℕ) → Shown text (top x) w → p w ≡ true)
      (unders : (x : A) (rs : List (List ℕ)) → Shows text (under x) rs → Each (λ r. p r ≡ false) rs)
      (back : (x : A) (w : List ℕ) (rs : List (List ℕ)) → Shown text (top x) w → Shows text (under x) rs → read (record { head = w; below = rs }) ≡ x) where
    starts-next : (xs : List A) {rs : List (List ℕ)} → Shows text (rows_of_each (λ x. top x ∷ under x) xs) rs → Starts p rs
    starts-next [] ended = tt
    starts-next (x ∷ xs) (beside {y = w} s h) = tops x w s

    branches-back : (xs : List A) {rs : List (List ℕ)} → Shows text (rows_of_each (λ x. top x ∷ under x) xs) rs → map read (branches p rs) ≡ xs
    branches-back [] ended = refl
    branches-back (x ∷ xs) (beside {y = w} {ys = l} s h) =
        let q = parts (under x) (rows_of_each (λ x. top x ∷ under x) xs) h in
        let n = unders x q.front q.first in
        let u : until p l ≡ q.front = ap (until p) q.whole ∙ until-next p q.back n (starts-next xs q.second) in
        let b : branches p l ≡ branches p q.back = ap (branches p) q.whole ∙ branches-behind p q.back n in
        ap (λ (t : Bool). map read (cond t (record { head = w; below = until p l } ∷ branches p l) (branches p l))) (tops x w s)
        ∙ ap₂ ◌∷◌ (ap (λ (r : List (List ℕ)). read (record { head = w; below = r })) u ∙ back x w q.front s q.first) (ap (map read) b ∙ branches-back xs q.second)

  -- ---- below a suite or a case: extras of kind k, properties of kind j, and other rows
  module _ (k j : ℕ) (xs ys : List Pair) (rows : List Row) {rs : List (List ℕ)} (h : Shows text (map (pair_row_of k) xs ++ (map (pair_row_of j) ys ++ rows)) rs) where
    abbrev extras : Parts (Shown text) (map (pair_row_of k) xs) (map (pair_row_of j) ys ++ rows) rs
    extras = parts (map (pair_row_of k) xs) (map (pair_row_of j) ys ++ rows) h

    abbrev properties : Parts (Shown text) (map (pair_row_of j) ys) rows extras.back
    properties = parts (map (pair_row_of j) ys) rows extras.second

    parted : rs ≡ extras.front ++ (properties.front ++ properties.back)
    parted = extras.whole ∙ ap (λ (l : List (List ℕ)). extras.front ++ l) properties.whole

    module _ (q : ℕ → Bool) where
      abbrev test : List ℕ → Bool
      test r = q (kind_of r)

      extras-back : (ks : List ℕ) → q k ≡ true → q j ≡ false → every (λ i. not (q i)) ks ≡ true → Kinds ks rows → pairs_of_it text test rs ≡ xs
      extras-back ks a b c d =
          ap (λ (l : List (List ℕ)). map (pair_of text) (only test l)) parted
          ∙ ap (map (pair_of text))
          (only-front test (pairs-test q true k a xs extras.first) (each_append (pairs-test q false j b ys properties.first) (missed q ks c d (heads properties.second))))
          ∙ pairs-back k xs extras.first

      properties-back : (ks : List ℕ) → q k ≡ false → q j ≡ true → every (λ i. not (q i)) ks ≡ true → Kinds ks rows → pairs_of_it text test rs ≡ ys
      properties-back ks a b c d =
          ap (λ (l : List (List ℕ)). map (pair_of text) (only test l)) parted
          ∙ ap (map (pair_of text))
          (only-behind test (properties.front ++ properties.back) (pairs-test q false k a xs extras.first)
          ∙ only-front test (pairs-test q true j b ys properties.first) (missed q ks c d (heads properties.second)))
          ∙ pairs-back j ys properties.first

      only-others : q k ≡ false → q j ≡ false → only test rs ≡ only test properties.back
      only-others a b =
          ap (only test) parted
          ∙ only-behind test (properties.front ++ properties.back) (pairs-test q false k a xs extras.first)
          ∙ only-behind test properties.back (pairs-test q false j b ys properties.first)

      branches-others : q k ≡ false → q j ≡ false → branches test rs ≡ branches test properties.back
      branches-others a b =
          ap (branches test) parted
          ∙ branches-behind test (properties.front ++ properties.back) (pairs-test q false k a xs extras.first)
          ∙ branches-behind test properties.back (pairs-test q false j b ys properties.first)

  -- ---- a status
  family-back : (kind : NonSuccessKind) (reason : Reason) (family : FlakyOrRerun) (runs : List TestRerun) (w : List ℕ) {rs : List (List ℕ)}
      → Headed (main_row kind (is_flaky_alone family runs) reason) w → Shows text (map (run_row family) runs) rs → kind_of_runs text w rs ≡ family
  family-back kind reason flaky [] w s ended = ap (λ (b : Bool). cond b flaky rerun) (main-flag kind true reason w s)
  family-back kind reason rerun [] w s ended = ap (λ (b : Bool). cond b flaky rerun) (main-flag kind false reason w s)
  family-back kind reason flaky (e ∷ runs) w s (beside t h) = ap (λ (n : ℕ). cond (leb n 10) flaky rerun) t.head.kind ∙ run-family flaky e.kind
  family-back kind reason rerun (e ∷ runs) w s (beside t h) = ap (λ (n : ℕ). cond (leb n 10) flaky rerun) t.head.kind ∙ run-family rerun e.kind

  -- a main of kind 6 or 7
  non_success-read : (kind : NonSuccessKind) (m : List ℕ) (ms runs : List (List ℕ)) → kind_of m ≡ kind_of_main kind
      → status_of text (m ∷ ms) runs ≡ non_success kind (reason_of text m) (kind_of_runs text m runs) (map (run_of text) runs)
  non_success-read failure m ms runs e = rw e refl
  non_success-read error m ms runs e = rw e refl

  skipped-read : (m : List ℕ) (ms runs : List (List ℕ)) → kind_of m ≡ 8 → status_of text (m ∷ ms) runs ≡ skipped (reason_of text m)
  skipped-read m ms runs e = rw e refl

  pub main-back : (kind : NonSuccessKind) (is_flaky : Bool) (r : Reason) (w : List ℕ) → Shown text (main_row kind is_flaky r) w → reason_of text w ≡ r
  main-back kind is_flaky r w s = ap (λ (f : Fields Text table.main). named.main_of f) s.fields

  pub skipped-back : (r : Reason) (w : List ℕ) → Shown text (skipped_row r) w → reason_of text w ≡ r
  skipped-back r w s = ap (λ (f : Fields Text table.skipped). named.skipped_of f) s.fields

  status-back : (s : TestCaseStatus) {rs : List (List ℕ)} → Shows text (status_rows s) rs → status_of text (only is_main rs) (only is_run rs) ≡ s
  status-back (success runs) h = ap₂ (status_of text) (no-mains flaky runs h) (all_runs flaky runs h) ∙ ap success (runs-back flaky runs h)
  status-back (non_success kind reason family runs) (beside {y = w} {ys = rest} s h) =
      let a = main-back kind (is_flaky_alone family runs) reason w s in
      let b = family-back kind reason family runs w s.head h in
      let c = runs-back family runs h in
      let m : is_main w ≡ true = ap (λ (k : ℕ). leb 6 k && leb k 8) s.head.kind ∙ (main-test kind).0 in
      let n : is_run w ≡ false = ap (λ (k : ℕ). leb 9 k && leb k 12) s.head.kind ∙ (main-test kind).1 in
      ap₂ (status_of text) (only-first is_main w rest m) (only-rest is_run w rest n ∙ all_runs family runs h)
      ∙ non_success-read kind w (only is_main rest) rest s.head.kind
      ∙ (λ i. non_success kind (a i) (b i) (c i))
  status-back (skipped reason) (beside {y = w} s ended) =
      let m : is_main w ≡ true = ap (λ (k : ℕ). leb 6 k && leb k 8) s.head.kind in
      let n : is_run w ≡ false = ap (λ (k : ℕ). leb 9 k && leb k 12) s.head.kind in
      ap₂ (status_of text) (only-first is_main w [] m) (only-rest is_run w [] n) ∙ skipped-read w [] [] s.head.kind ∙ ap skipped (skipped-back reason w s)

  -- ---- cases and suites
  read-case : (c : TestCase) (w : List ℕ) (rs : List (List ℕ)) → Shown text (case_row c) w → Shows text (under_case c) rs → case_of text (record { head = w; below = rs }) ≡ c
  read-case c w rs s h =
      let rows : List Row = status_rows c.status in
      let kinds = status-kinds c.status in
      let extra = extras-back 14 5 c.extra c.properties rows h (λ k. eqb k 14) status_kinds refl refl refl kinds in
      let listed = properties-back 14 5 c.extra c.properties rows h (λ k. eqb k 5) status_kinds refl refl refl kinds in
      let mains = only-others 14 5 c.extra c.properties rows h (λ k. leb 6 k && leb k 8) refl refl in
      let runs = only-others 14 5 c.extra c.properties rows h (λ k. leb 9 k && leb k 12) refl refl in
      let status = ap₂ (status_of text) mains runs ∙ status-back c.status (properties 14 5 c.extra c.properties rows h).second in
      λ i. named.case_of (s.fields i) (status i) (extra i) (listed i)

  read-cases : (cs : List TestCase) {rs : List (List ℕ)} → Shows text (rows_of_each case_rows cs) rs → map (case_of text) (branches is_case rs) ≡ cs
  read-cases cs h =
      branches-back is_case case_row under_case (case_of text) (λ c w s. ap (λ (k : ℕ). eqb k 3) s.head.kind)
      (λ c rs g. missed (λ k. eqb k 3) case_kinds refl (below-case c) (heads g)) read-case cs h

  read-suite : (u : TestSuite) (w : List ℕ) (rs : List (List ℕ)) → Shown text (suite_row u) w → Shows text (under_suite u) rs → suite_of text (record { head = w; below = rs }) ≡ u
  read-suite u w rs s h =
      let rows : List Row = rows_of_each case_rows u.cases in
      let kinds = cases-kinds u.cases in
      let extra = extras-back 13 4 u.extra u.properties rows h (λ k. eqb k 13) (3 ∷ case_kinds) refl refl refl kinds in
      let listed = properties-back 13 4 u.extra u.properties rows h (λ k. eqb k 4) (3 ∷ case_kinds) refl refl refl kinds in
      let cases = ap (map (case_of text)) (branches-others 13 4 u.extra u.properties rows h (λ k. eqb k 3) refl refl)
      ∙ read-cases u.cases (properties 13 4 u.extra u.properties rows h).second in
      λ i. named.suite_of (s.fields i) (cases i) (listed i) (extra i)

  read-suites : (us : List TestSuite) {rs : List (List ℕ)} → Shows text (rows_of_each suite_rows us) rs → map (suite_of text) (branches is_suite rs) ≡ us
  read-suites us h =
      branches-back is_suite suite_row under_suite (suite_of text) (λ u w s. ap (λ (k : ℕ). eqb k 2) s.head.kind)
      (λ u rs g. missed (λ k. eqb k 2) suite_kinds refl (below-suite u) (heads g)) read-suite us h

  -- ---- the report
  pub report-read : (r : Report) {rs : List (List ℕ)} → Shows text (rows_of r) rs → report_from text (only live rs) ≡ some r
  report-read r {rs} (beside {y = w} {ys = rest} s h) =
      let alive = each_on (λ x e. not-false (live x) e) (missed (λ k. not (ltb k 16)) (1 ∷ 2 ∷ suite_kinds) refl (report-kinds r) (heads (beside s h))) in
      let suites = read-suites r.suites h in
      ap (report_from text) (only-all live alive) ∙ (λ i. some (named.report_of (s.fields i) (suites i)))
