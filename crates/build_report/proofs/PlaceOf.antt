-- Each mark stands at the record of its element, and the last record is the last target's. Assumes nothing.
use Prim.Native.Nat.{ℕ, ◌+◌, ◌-◌}
use mathlib.Core.Bool.{Bool, true, false, cond}
use mathlib.Core.List.{List, [], ◌∷◌, ◌++◌, map, append_assoc, append-nil}
use mathlib.Core.Option.{Option, none, some}
use mathlib.Core.Path.{◌≡◌, refl, sym, ap, ◌∙◌}
use native.Mathlib.Omega.{arith}
use lib.Dec.{eqb}
use lib.ListN.{length, length-append}
use Rattle.tree_placed.specs.of_refusal.Refusal.{nowhere}
use Rattle.tree_placed.specs.of_tree_record.Kinds as kind
use Rattle.tree_placed.specs.of_tree_report.Report.{TestCase, TestSuite, Report}
use Rattle.tree_placed.specs.of_tree_report.inside.Cells.{Row, pair_row_of, status_rows, case_row, case_rows, rows_of_each, suite_row, suite_rows, report_row, rows_of}
use Rattle.build_draft.specs.declared.Builder.{Builder}
use Rattle.build_draft.specs.declared.Element.{Element}
use Rattle.build_draft.specs.declared.Element.TheVariants as element
use Rattle.build_draft.specs.Draft.{last_of, mark_of}
use Rattle.build_report.specs.Operations.{last_in, is_empty, has_main, runs_in, open_case, report, suite, case, main, run, nothing}
use Rattle.build_report.specs.Operations.{suite_target, case_target, main_target, last_target, last_of_suite, last_of_pairs, last_of_case, target_of}
use Rattle.build_report.specs.Stands.{suite_mark, case_mark, main_mark, Marked}
use Rattle.build_report.proofs.Lasts.{last_none}
use Rattle.build_report.proofs.Keys.{empty-list}
use Rattle.build_report.proofs.Openings.{before_suite, up_to_case, up_to_status, length-before-suite, length-up_to-case, length-up_to-status, rows-suite, rows-case, rows-status}
use Rattle.build_report.proofs.Marks.{no-suite, suite-marked, no-case, case-marked, main-marked}
use Rattle.build_report.proofs.PlaceTypes.{Place, at-report, at-suite, at-case, at-main, at-run, at_none}
use Rattle.build_report.proofs.Places.{same_kind, same-case-property, same-suite-extra, same-case-extra, last-there, pair-last, main-alone, no-status}

-- ---- the marks
module _ {b : Builder} (r : Report) (m : Marked b r) where
  place-suite : (o : Option TestSuite) → last_in r.suites ≡ o → Place r b.suite (suite_target o)
  place-suite none e = at_none (no-suite r e m).0
  place-suite (some s) e = at-suite e (suite-marked r e m)

  place-case : (o : Option TestSuite) → last_in r.suites ≡ o → (q : Option TestCase) → open_case o ≡ q → Place r b.case (case_target q)
  place-case none e none d = at_none (no-suite r e m).1
  place-case none e (some c) d = let z : ◌≡◌ {A = ℕ} 0 1 = cc in absurd (omega arith)
  place-case (some s) e none d = at_none (no-case r e d m).0
  place-case (some s) e (some c) d = at-case e d (case-marked r e d m)

  place-main : (o : Option TestSuite) → last_in r.suites ≡ o → (q : Option TestCase) → open_case o ≡ q → Place r b.main (main_target q)
  place-main none e none d = at_none (no-suite r e m).2
  place-main none e (some c) d = let z : ◌≡◌ {A = ℕ} 0 1 = cc in absurd (omega arith)
  place-main (some s) e none d = at_none (no-case r e d m).1
  place-main (some s) e (some c) d = go (has_main c.status) refl
    where
      go : (t : Bool) → has_main c.status ≡ t → Place r b.main (cond t main nothing)
      go true h = at-main e d h (main-marked r e d m ∙ ap (λ (t : Bool). cond t (main_mark (case_mark (suite_mark r) s) c) nowhere) h)
      go false h = at_none (main-marked r e d m ∙ ap (λ (t : Bool). cond t (main_mark (case_mark (suite_mark r) s) c) nowhere) h)

-- ---- the last record
module _ (r : Report) {i : ℕ} (n : i ≡ length (rows_of r) - 1) where
  -- of a suite without cases
  last-pairs : {s : TestSuite} → last_in r.suites ≡ some s → s.cases ≡ [] → Place r i (last_of_pairs s)
  last-pairs {s} e z = go (is_empty s.properties) refl (is_empty s.extra) refl
    where
      rows : rows_of r ≡ before_suite r ++ (suite_row s ∷ (map (pair_row_of kind.suite_extra) s.extra ++ map (pair_row_of kind.suite_property) s.properties))
      rows =
          rows-suite r e ∙ (λ j. before_suite r ++ (suite_row s ∷ (map (pair_row_of kind.suite_extra) s.extra ++ (map (pair_row_of kind.suite_property) s.properties ++ rows_of_each case_rows (z j)))))
          ∙ ap (λ (l : List Row). before_suite r ++ (suite_row s ∷ (map (pair_row_of kind.suite_extra) s.extra ++ l))) (append-nil (map (pair_row_of kind.suite_property) s.properties))

      no-properties : s.properties ≡ [] → rows_of r ≡ before_suite r ++ (suite_row s ∷ map (pair_row_of kind.suite_extra) s.extra)
      no-properties p =
          rows ∙ (λ j. before_suite r ++ (suite_row s ∷ (map (pair_row_of kind.suite_extra) s.extra ++ map (pair_row_of kind.suite_property) (p j))))
          ∙ ap (λ (l : List Row). before_suite r ++ (suite_row s ∷ l)) (append-nil (map (pair_row_of kind.suite_extra) s.extra))

      go : (p : Bool) → is_empty s.properties ≡ p → (x : Bool) → is_empty s.extra ≡ x → Place r i (cond p (cond x suite nothing) nothing)
      go false p x y =
          pair-last r kind.suite_property (same_kind 4) (before_suite r ++ (suite_row s ∷ map (pair_row_of kind.suite_extra) s.extra)) s.properties p
          (rows ∙ sym (append_assoc (before_suite r) (suite_row s ∷ map (pair_row_of kind.suite_extra) s.extra) (map (pair_row_of kind.suite_property) s.properties))) n
      go true p false y =
          pair-last r kind.suite_extra same-suite-extra (before_suite r ++ (suite_row s ∷ [])) s.extra y
          (no-properties (empty-list s.properties p) ∙ sym (append_assoc (before_suite r) (suite_row s ∷ []) (map (pair_row_of kind.suite_extra) s.extra))) n
      go true p true y =
          let q : rows_of r ≡ before_suite r ++ (suite_row s ∷ []) =
          no-properties (empty-list s.properties p) ∙ (λ j. before_suite r ++ (suite_row s ∷ map (pair_row_of kind.suite_extra) (empty-list s.extra y j))) in
          let k : length (rows_of r) ≡ length (before_suite r) + 1 = ap length q ∙ length-append (before_suite r) (suite_row s ∷ []) in
          let h = length-before-suite r in
          at-suite e (omega arith)

  -- of a case
  last-case : {s : TestSuite} {c : TestCase} → last_in r.suites ≡ some s → last_in s.cases ≡ some c → Place r i (last_of_case c)
  last-case {s} {c} e d = go (is_empty (runs_in c.status)) refl (has_main c.status) refl (is_empty c.properties) refl (is_empty c.extra) refl
    where
      rows : status_rows c.status ≡ [] → rows_of r ≡ up_to_case r s ++ (case_row c ∷ (map (pair_row_of kind.case_extra) c.extra ++ map (pair_row_of kind.case_property) c.properties))
      rows z =
          rows-case r e d
          ∙ (λ j. up_to_case r s ++ (case_row c ∷ (map (pair_row_of kind.case_extra) c.extra ++ (map (pair_row_of kind.case_property) c.properties ++ z j))))
          ∙ ap (λ (l : List Row). up_to_case r s ++ (case_row c ∷ (map (pair_row_of kind.case_extra) c.extra ++ l))) (append-nil (map (pair_row_of kind.case_property) c.properties))

      no-properties : status_rows c.status ≡ [] → c.properties ≡ [] → rows_of r ≡ up_to_case r s ++ (case_row c ∷ map (pair_row_of kind.case_extra) c.extra)
      no-properties z p =
          rows z ∙ (λ j. up_to_case r s ++ (case_row c ∷ (map (pair_row_of kind.case_extra) c.extra ++ map (pair_row_of kind.case_property) (p j))))
          ∙ ap (λ (l : List Row). up_to_case r s ++ (case_row c ∷ l)) (append-nil (map (pair_row_of kind.case_extra) c.extra))

      go : (t : Bool) → is_empty (runs_in c.status) ≡ t → (h : Bool) → has_main c.status ≡ h → (p : Bool) → is_empty c.properties ≡ p → (x : Bool) → is_empty c.extra ≡ x
          → Place r i (cond t (cond h main (cond p (cond x case nothing) nothing)) run)
      go false t h g p q x y = at-run e d (last-there (runs_in c.status) t).1 n
      go true t true g p q x y =
          let a = main-alone c.status t g in
          let k : length (rows_of r) ≡ length (up_to_status r s c) + length (status_rows c.status) = ap length (rows-status r e d) ∙ length-append (up_to_status r s c) (status_rows c.status) in
          let l = length-up_to-status r s c in
          at-main e d g (omega arith)
      go true t false g false q x y =
          pair-last r kind.case_property same-case-property (up_to_case r s ++ (case_row c ∷ map (pair_row_of kind.case_extra) c.extra)) c.properties q
          (rows (no-status c.status t g) ∙ sym (append_assoc (up_to_case r s) (case_row c ∷ map (pair_row_of kind.case_extra) c.extra) (map (pair_row_of kind.case_property) c.properties))) n
      go true t false g true q false y =
          pair-last r kind.case_extra same-case-extra (up_to_case r s ++ (case_row c ∷ [])) c.extra y
          (no-properties (no-status c.status t g) (empty-list c.properties q) ∙ sym (append_assoc (up_to_case r s) (case_row c ∷ []) (map (pair_row_of kind.case_extra) c.extra))) n
      go true t false g true q true y =
          let w : rows_of r ≡ up_to_case r s ++ (case_row c ∷ []) =
          no-properties (no-status c.status t g) (empty-list c.properties q) ∙ (λ j. up_to_case r s ++ (case_row c ∷ map (pair_row_of kind.case_extra) (empty-list c.extra y j))) in
          let k : length (rows_of r) ≡ length (up_to_case r s) + 1 = ap length w ∙ length-append (up_to_case r s) (case_row c ∷ []) in
          let h = length-up_to-case r s in
          at-case e d (omega arith)

  last-suite : {s : TestSuite} → last_in r.suites ≡ some s → (q : Option TestCase) → last_in s.cases ≡ q → Place r i (last_of_suite s q)
  last-suite {s} e none d = last-pairs e (last_none s.cases d)
  last-suite e (some c) d = last-case e d

  place-last : (o : Option TestSuite) → last_in r.suites ≡ o → Place r i (last_target o)
  place-last none e =
      let k : length (rows_of r) ≡ 1 = ap (λ (ss : List TestSuite). length (report_row r ∷ rows_of_each suite_rows ss)) (last_none r.suites e) in
      at-report (omega arith)
  place-last (some s) e = last-suite e (last_in s.cases) refl

-- ---- all elements
pub place-of : {b : Builder} (r : Report) → Marked b r → b.records ≡ length (rows_of r) → (e : Element) → Place r (mark_of b e) (target_of e r)
place-of r m n element.Report = at-report m.report
place-of r m n element.Suite = place-suite r m (last_in r.suites) refl
place-of r m n element.Case = place-case r m (last_in r.suites) refl (open_case (last_in r.suites)) refl
place-of r m n element.Status = place-main r m (last_in r.suites) refl (open_case (last_in r.suites)) refl
place-of {b} r m n element.Last =
    place-last r (ap (λ (k : ℕ). cond (eqb k nowhere) nowhere (last_of b)) m.report ∙ ap (λ (k : ℕ). k - 1) n) (last_in r.suites) refl
