-- A property or an extra more: the rows, and the marks. Assumes nothing.
use Prim.Native.Nat.{◌+◌}
use mathlib.Core.Bool.{true, false, cond}
use mathlib.Core.List.{List, [], ◌∷◌, ◌++◌, map, append_assoc, append-nil, map-append}
use mathlib.Core.Option.{some}
use mathlib.Core.Path.{◌≡◌, refl, sym, ap, ◌∙◌}
use native.Mathlib.Omega.{arith}
use lib.ListN.{length, length-append}
use Rattle.tree_placed.specs.of_refusal.Refusal.{nowhere}
use Rattle.tree_placed.specs.of_tree_record.Kinds as kind
use Rattle.tree_placed.specs.of_tree_report.Report.{Pair, TestCase, TestSuite, Report}
use Rattle.tree_placed.specs.of_tree_report.inside.Cells.{Row, pair_row_of, status_rows, case_row, case_rows, rows_of_each, suite_row, rows_of}
use Rattle.build_draft.specs.declared.Builder.{Builder}
use Rattle.build_draft.specs.declared.Holder.TheVariants as holder
use Rattle.build_report.specs.Operations.{last_in, has_main, on_suite, on_case, insert, suite_pairs, case_pairs, add_property, add_extra}
use Rattle.build_report.specs.Stands.{suite_mark, case_mark, main_mark, Marked}
use Rattle.build_report.specs.Builders.{has_key}
use Rattle.build_report.proofs.SpotTypes.{Inserted}
use Rattle.build_report.proofs.Lasts.{last_on}
use Rattle.build_report.proofs.Openings.{before_suite, up_to_case, up_to_status, length-up_to-status, rows-suite, rows-on-suite, rows-on-case, rows-status}
use Rattle.build_report.proofs.Marks.{suite-marked, case-marked, no-case, marked-suite-alone, marked-open, main-marked, suite-mark_on}
use Rattle.build_report.proofs.Marks.{suite-mark-case, marked-suite, marked-case, suite-on-case, open_on-case, case-mark_on}
use Rattle.build_report.proofs.Keys.{OldKey, new-key}

-- a row at the end
pub inserted-end : {r r' : Report} {row : Row} → rows_of r' ≡ rows_of r ++ (row ∷ []) → Inserted r (length (rows_of r)) row r'
inserted-end {r} e = record { front = rows_of r; back = []; here = sym (append-nil (rows_of r)); there = e; at = refl }

-- ---- of a suite without cases
module _ (r : Report) {s : TestSuite} (e : last_in r.suites ≡ some s) (n : s.cases ≡ []) where
  rows_before : rows_of r ≡ before_suite r ++ (suite_row s ∷ (map (pair_row_of kind.suite_extra) s.extra ++ (map (pair_row_of kind.suite_property) s.properties ++ [])))
  rows_before =
      rows-suite r e ∙ (λ i. before_suite r ++ (suite_row s ∷ (map (pair_row_of kind.suite_extra) s.extra ++ (map (pair_row_of kind.suite_property) s.properties ++ rows_of_each case_rows (n i)))))

  property-behind : (b x p : List Row) (h row : Row) → b ++ (h ∷ (x ++ ((p ++ (row ∷ [])) ++ []))) ≡ (b ++ (h ∷ (x ++ (p ++ [])))) ++ (row ∷ [])
  property-behind b x p h row = simp (append-nil, append_assoc)

  extra-behind : (b x : List Row) (h row : Row) → b ++ (h ∷ ((x ++ (row ∷ [])) ++ [])) ≡ (b ++ (h ∷ (x ++ []))) ++ (row ∷ [])
  extra-behind b x h row = simp (append-nil, append_assoc)

  pub rows-suite-property : (p : Pair) → rows_of (add_property holder.Suite p r) ≡ rows_of r ++ (pair_row_of kind.suite_property p ∷ [])
  rows-suite-property p =
      rows-on-suite r e (λ t. suite_pairs t.extra (t.properties ++ (p ∷ [])) t)
      ∙ (λ i. before_suite r ++ (suite_row s ∷ (map (pair_row_of kind.suite_extra) s.extra ++ (map-append (pair_row_of kind.suite_property) s.properties (p ∷ []) i ++ rows_of_each case_rows (n i)))))
      ∙ property-behind (before_suite r) (map (pair_row_of kind.suite_extra) s.extra) (map (pair_row_of kind.suite_property) s.properties) (suite_row s) (pair_row_of kind.suite_property p)
      ∙ sym (ap (λ (l : List Row). l ++ (pair_row_of kind.suite_property p ∷ [])) rows_before)

  pub rows-suite-extra : (p : Pair) → has_key p.key s.extra ≡ false → s.properties ≡ [] → rows_of (add_extra holder.Suite p r) ≡ rows_of r ++ (pair_row_of kind.suite_extra p ∷ [])
  rows-suite-extra p k z =
      rows-on-suite r e (λ t. suite_pairs (insert p t.extra) t.properties t)
      ∙ (λ i. before_suite r ++ (suite_row s ∷ (map (pair_row_of kind.suite_extra) (new-key p s.extra k i) ++ (map (pair_row_of kind.suite_property) (z i) ++ rows_of_each case_rows (n i)))))
      ∙ (λ i. before_suite r ++ (suite_row s ∷ (map-append (pair_row_of kind.suite_extra) s.extra (p ∷ []) i ++ [])))
      ∙ extra-behind (before_suite r) (map (pair_row_of kind.suite_extra) s.extra) (suite_row s) (pair_row_of kind.suite_extra p)
      ∙ sym (ap (λ (l : List Row). l ++ (pair_row_of kind.suite_extra p ∷ []))
      (rows_before ∙ (λ i. before_suite r ++ (suite_row s ∷ (map (pair_row_of kind.suite_extra) s.extra ++ (map (pair_row_of kind.suite_property) (z i) ++ []))))))

  -- the marks stay
  pub marked-suite-pair : {b : Builder} (f : TestSuite → TestSuite) → (f s).cases ≡ [] → Marked b r → Marked b (on_suite f r)
  marked-suite-pair f c m =
      let none_before = ap last_in n in
      let k = no-case r e none_before m in
      marked-suite-alone (on_suite f r) (last_on f r.suites e) (ap last_in c) m.report (suite-marked r e m ∙ sym (suite-mark_on f r e)) k.0 k.1

-- ---- of a case: before its status
module _ (r : Report) {s : TestSuite} {c : TestCase} (e : last_in r.suites ≡ some s) (d : last_in s.cases ≡ some c) where
  property-before : (b x p t : List Row) (h row : Row) → b ++ (h ∷ (x ++ ((p ++ (row ∷ [])) ++ t))) ≡ (b ++ (h ∷ (x ++ p))) ++ (row ∷ t)
  property-before b x p t h row = simp append_assoc

  extra-before : (b x t : List Row) (h row : Row) → b ++ (h ∷ ((x ++ (row ∷ [])) ++ t)) ≡ (b ++ (h ∷ (x ++ []))) ++ (row ∷ t)
  extra-before b x t h row = simp (append-nil, append_assoc)

  pub rows-case-property : (p : Pair) → rows_of (add_property holder.Case p r) ≡ up_to_status r s c ++ (pair_row_of kind.case_property p ∷ status_rows c.status)
  rows-case-property p =
      rows-on-case r e d (λ t. case_pairs t.extra (t.properties ++ (p ∷ [])) t)
      ∙ (λ i. up_to_case r s ++ (case_row c ∷ (map (pair_row_of kind.case_extra) c.extra ++ (map-append (pair_row_of kind.case_property) c.properties (p ∷ []) i ++ status_rows c.status))))
      ∙ property-before (up_to_case r s) (map (pair_row_of kind.case_extra) c.extra) (map (pair_row_of kind.case_property) c.properties) (status_rows c.status) (case_row c) (pair_row_of kind.case_property p)

  pub rows-case-extra : (p : Pair) → has_key p.key c.extra ≡ false → c.properties ≡ []
      → rows_of (add_extra holder.Case p r) ≡ up_to_status r s c ++ (pair_row_of kind.case_extra p ∷ status_rows c.status)
  rows-case-extra p k z =
      rows-on-case r e d (λ t. case_pairs (insert p t.extra) t.properties t)
      ∙ (λ i. up_to_case r s ++ (case_row c ∷ (map (pair_row_of kind.case_extra) (new-key p c.extra k i) ++ (map (pair_row_of kind.case_property) (z i) ++ status_rows c.status))))
      ∙ (λ i. up_to_case r s ++ (case_row c ∷ (map-append (pair_row_of kind.case_extra) c.extra (p ∷ []) i ++ status_rows c.status)))
      ∙ extra-before (up_to_case r s) (map (pair_row_of kind.case_extra) c.extra) (status_rows c.status) (case_row c) (pair_row_of kind.case_extra p)
      ∙ sym (λ i. (up_to_case r s ++ (case_row c ∷ (map (pair_row_of kind.case_extra) c.extra ++ map (pair_row_of kind.case_property) (z i)))) ++ (pair_row_of kind.case_extra p ∷ status_rows c.status))

  pub inserted-status : {r' : Report} {row : Row} → rows_of r' ≡ up_to_status r s c ++ (row ∷ status_rows c.status) → Inserted r (main_mark (case_mark (suite_mark r) s) c) row r'
  inserted-status t = record { front = up_to_status r s c; back = status_rows c.status; here = rows-status r e d; there = t; at = length-up_to-status r s c }

  -- without a main the marks stay
  pub marked-no-main : {b : Builder} (f : TestCase → TestCase) → has_main c.status ≡ false → has_main (f c).status ≡ false → Marked b r → Marked b (on_case f r)
  marked-no-main f h t m =
      marked-open (on_case f r) (suite-on-case f r e d) (open_on-case f r e d) m.report
      (suite-marked r e m ∙ sym (suite-mark-case f r e d)) (case-marked r e d m ∙ sym (case-mark_on f r e d))
      (main-marked r e d m ∙ rw (h, t) refl)

  -- with one, it stands one further
  pub marked-main-next : {b b' : Builder} (f : TestCase → TestCase) → has_main (f c).status ≡ true
      → length (f c).extra + length (f c).properties ≡ length c.extra + length c.properties + 1
      → Marked b r → b'.report ≡ b.report → b'.suite ≡ b.suite → b'.case ≡ b.case → b'.main ≡ main_mark (case_mark (suite_mark r) s) c + 1 → Marked b' (on_case f r)
  marked-main-next f t n m x y z w =
      let k = case-mark_on f r e d in
      let g : main_mark (case_mark (suite_mark r) s) c + 1 ≡ main_mark (case_mark (suite_mark r) s) (f c) = omega arith in
      marked-open (on_case f r) (suite-on-case f r e d) (open_on-case f r e d) (x ∙ m.report)
      (y ∙ suite-marked r e m ∙ sym (suite-mark-case f r e d)) (z ∙ case-marked r e d m ∙ sym k)
      (w ∙ g ∙ sym (λ i. cond (t i) (main_mark (k i) (f c)) nowhere))

-- ---- a new value in the old place
pub old-length : {p : Pair} {ps : List Pair} → OldKey p ps → length ps ≡ length (insert p ps)
old-length {p} {ps} k =
    let a : length ps ≡ length k.before + length (k.old ∷ k.behind) = ap length k.here ∙ length-append k.before (k.old ∷ k.behind) in
    let b : length (insert p ps) ≡ length k.before + length (k.old ∷ k.behind) = ap length k.there ∙ length-append k.before (record { key = k.old.key; value = p.value } ∷ k.behind) in
    omega arith

pub marked-suite_old : {b : Builder} (r : Report) {s : TestSuite} → last_in r.suites ≡ some s → (p : Pair) → OldKey p s.extra → Marked b r → Marked b (add_extra holder.Suite p r)
marked-suite_old r e p k m = marked-suite (λ t. suite_pairs (insert p t.extra) t.properties t) r e (old-length k) refl refl m

pub marked-case_old : {b : Builder} (r : Report) {s : TestSuite} {c : TestCase} → last_in r.suites ≡ some s → last_in s.cases ≡ some c → (p : Pair) → OldKey p c.extra
    → Marked b r → Marked b (add_extra holder.Case p r)
marked-case_old r e d p k m = marked-case (λ t. case_pairs (insert p t.extra) t.properties t) r e d (old-length k) refl refl m
