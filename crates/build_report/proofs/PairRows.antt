-- What one more property or extra makes of the rows and the marks, by whose it is. Assumes nothing.
use Prim.Native.Nat.{ℕ, ◌+◌}
use mathlib.Core.Bool.{Bool, true, false, ◌&&◌, false≢true}
use mathlib.Core.List.{List, [], ◌∷◌, ◌++◌, map, append_assoc, append-nil}
use mathlib.Core.Option.{Option, none, some}
use mathlib.Core.Path.{◌≡◌, refl, sym, ap, subst, ◌∙◌}
use native.Mathlib.Omega.{arith}
use lib.ListN.{length, length-append}
use Rattle.tree_placed.specs.of_tree_record.Kinds as kind
use Rattle.tree_placed.specs.of_tree_report.Report.{Pair, TestCaseStatus, success, non_success, skipped, TestCase, TestSuite, Report}
use Rattle.tree_placed.specs.of_tree_report.inside.Cells.{Row, pair_row_of, status_rows, case_row, suite_row, rows_of}
use Rattle.tree_placed.proofs.of_tree_report.EncodeLists.{and_left, and_right}
use Rattle.build_draft.specs.declared.Builder.{Builder}
use Rattle.build_draft.specs.declared.Holder.{Holder}
use Rattle.build_draft.specs.declared.Holder.TheVariants as holder
use Rattle.build_draft.specs.Calls.{holder_of, property_kind, extra_kind}
use Rattle.build_report.specs.Operations.{last_in, open_case, runs_in, is_empty, has_main, on_case, insert, suite_pairs, case_pairs, add_property, add_extra}
use Rattle.build_report.specs.Stands.{suite_mark, case_mark, Marked}
use Rattle.build_report.specs.Builders.{of_case, of_suite, takes_property, takes_extra, suite_extras, case_extras, extras_in, has_key}
use Rattle.build_report.proofs.SpotTypes.{Spot}
use Rattle.build_report.proofs.Openings.{before_suite, up_to_case, up_to_status, length-before-suite, length-up_to-case, length-up_to-status}
use Rattle.build_report.proofs.Marks.{suite-marked, case-marked}
use Rattle.build_report.proofs.Keys.{empty-list, key_index, renewed, OldKey, old-key, new-key}
use Rattle.build_report.proofs.Spots.{spot_suite-extra, spot_case-extra}
use Rattle.build_report.proofs.Pairs.{rows-suite-property, rows-suite-extra, marked-suite-pair, rows-case-property}
use Rattle.build_report.proofs.Pairs.{rows-case-extra, marked-no-main, marked-main-next, marked-suite_old, marked-case_old}
use Rattle.build_report.proofs.PairPlaces.{Cut, cut-suite, cut-case, property-in, extra-in, suite-rows}

-- the main's number where a row stands before `back`: as it was, or n where back is the main
abbrev pub moved : List Row → ℕ → ℕ → ℕ
moved [] n m = m
moved (x ∷ xs) n m = n

-- a pair more, as a row before `back`
pub record New (κ : ℕ) (p : Pair) (r r' : Report) : Type 0 where
  pub before : List Row
  pub back : List Row
  pub cut : Cut (rows_of r) before back
  pub there : rows_of r' ≡ before ++ (pair_row_of κ p ∷ back)
  pub marks : {b b' : Builder} → Marked b r → b'.report ≡ b.report → b'.suite ≡ b.suite → b'.case ≡ b.case → b'.main ≡ moved back (length before + 1) b.main → Marked b' r'

-- a new value in row i
pub record Old (κ : ℕ) (p : Pair) (i : ℕ) (r r' : Report) : Type 0 where
  pub old : Pair
  pub spot : Spot r i (pair_row_of κ old) r' (pair_row_of κ (renewed p old))
  pub marks : {b : Builder} → Marked b r → Marked b r'

-- a builder with the same marks
pub same-marks : {b b' : Builder} {r : Report} → Marked b r → b'.report ≡ b.report → b'.suite ≡ b.suite → b'.case ≡ b.case → b'.main ≡ b.main → Marked b' r
same-marks m x y z w = record { report = x ∙ m.report; suite = y ∙ m.suite; case = z ∙ m.case; main = w ∙ m.main }

-- ---- of a suite without cases
module _ (r : Report) {s : TestSuite} (e : last_in r.suites ≡ some s) (n : s.cases ≡ []) (p : Pair) where
  suite-new-property : New kind.suite_property p r (add_property holder.Suite p r)
  suite-new-property = record {
    before = rows_of r;
    back = [];
    cut = cut-suite r e (ap last_in n);
    there = rows-suite-property r e n p;
    marks = λ m x y z w. same-marks (marked-suite-pair r e n (λ t. suite_pairs t.extra (t.properties ++ (p ∷ [])) t) n m) x y z w;
  }

  suite-new-extra : has_key p.key s.extra ≡ false → s.properties ≡ [] → New kind.suite_extra p r (add_extra holder.Suite p r)
  suite-new-extra k q = record {
    before = rows_of r;
    back = [];
    cut = cut-suite r e (ap last_in n);
    there = rows-suite-extra r e n p k q;
    marks = λ m x y z w. same-marks (marked-suite-pair r e n (λ t. suite_pairs (insert p t.extra) t.properties t) n m) x y z w;
  }

-- ---- of a case without runs
moved_none : (t : TestCaseStatus) (n m : ℕ) → is_empty (runs_in t) ≡ true → has_main t ≡ false → moved (status_rows t) n m ≡ m
moved_none (success []) n m e h = refl
moved_none (success (x ∷ xs)) n m e h = absurd (false≢true e)
moved_none (non_success k r f runs) n m e h = absurd (false≢true (sym h))
moved_none (skipped r) n m e h = absurd (false≢true (sym h))

moved-main : (t : TestCaseStatus) (n m : ℕ) → has_main t ≡ true → moved (status_rows t) n m ≡ n
moved-main (success runs) n m h = absurd (false≢true h)
moved-main (non_success k r f runs) n m h = refl
moved-main (skipped r) n m h = refl

module _ (r : Report) {s : TestSuite} {c : TestCase} (e : last_in r.suites ≡ some s) (d : last_in s.cases ≡ some c) (q : is_empty (runs_in c.status) ≡ true) where
  case-marks : (f : TestCase → TestCase) → c.status ≡ (f c).status → length (f c).extra + length (f c).properties ≡ length c.extra + length c.properties + 1
      → {b b' : Builder} → Marked b r → b'.report ≡ b.report → b'.suite ≡ b.suite → b'.case ≡ b.case
      → b'.main ≡ moved (status_rows c.status) (length (up_to_status r s c) + 1) b.main → Marked b' (on_case f r)
  case-marks f t l {b} {b'} m x y z w = go (has_main c.status) refl
    where
      go : (u : Bool) → has_main c.status ≡ u → Marked b' (on_case f r)
      go false h =
          same-marks (marked-no-main r e d f h (sym (ap has_main t) ∙ h) m) x y z (w ∙ moved_none c.status (length (up_to_status r s c) + 1) b.main q h)
      go true h =
          marked-main-next r e d f (sym (ap has_main t) ∙ h) l m x y z
          (w ∙ moved-main c.status (length (up_to_status r s c) + 1) b.main h ∙ ap (λ (k : ℕ). k + 1) (length-up_to-status r s c))

  case-new-property : (p : Pair) → New kind.case_property p r (add_property holder.Case p r)
  case-new-property p =
      let l : length (c.properties ++ (p ∷ [])) ≡ length c.properties + 1 = length-append c.properties (p ∷ []) in
      record {
        before = up_to_status r s c;
        back = status_rows c.status;
        cut = cut-case r e d q;
        there = rows-case-property r e d p;
        marks = λ m x y z w. case-marks (λ t. case_pairs t.extra (t.properties ++ (p ∷ [])) t) refl (omega arith) m x y z w;
      }

  case-new-extra : (p : Pair) → has_key p.key c.extra ≡ false → c.properties ≡ [] → New kind.case_extra p r (add_extra holder.Case p r)
  case-new-extra p k g =
      let l : length (insert p c.extra) ≡ length c.extra + 1 = ap length (new-key p c.extra k) ∙ length-append c.extra (p ∷ []) in
      record {
        before = up_to_status r s c;
        back = status_rows c.status;
        cut = cut-case r e d q;
        there = rows-case-extra r e d p k g;
        marks = λ m x y z w. case-marks (λ t. case_pairs (insert p t.extra) t.properties t) refl (omega arith) m x y z w;
      }

-- ---- a property of what takes one
pub new-property : (h : Holder) (r : Report) (p : Pair) → takes_property h r ≡ true → New (property_kind h) p r (add_property h p r)
new-property holder.Suite r p t = go (last_in r.suites) refl
  where
    go : (o : Option TestSuite) → last_in r.suites ≡ o → New kind.suite_property p r (add_property holder.Suite p r)
    go none e = absurd (false≢true (sym (ap (of_suite (λ s. is_empty s.cases)) e) ∙ t))
    go (some s) e = suite-new-property r e (empty-list s.cases (sym (property-in r e holder.Suite) ∙ t)) p
new-property holder.Case r p t = go (last_in r.suites) refl
  where
    in-suite : {s : TestSuite} → last_in r.suites ≡ some s → (o : Option TestCase) → last_in s.cases ≡ o → New kind.case_property p r (add_property holder.Case p r)
    in-suite e none d = absurd (false≢true (sym (property-in r e holder.Case ∙ ap (of_case (λ c. is_empty (runs_in c.status))) d) ∙ t))
    in-suite e (some c) d = case-new-property r e d (sym (property-in r e holder.Case ∙ ap (of_case (λ c. is_empty (runs_in c.status))) d) ∙ t) p

    go : (o : Option TestSuite) → last_in r.suites ≡ o → New kind.case_property p r (add_property holder.Case p r)
    go none e = absurd (false≢true (sym (ap (λ (o : Option TestSuite). of_case (λ c. is_empty (runs_in c.status)) (open_case o)) e) ∙ t))
    go (some s) e = in-suite e (last_in s.cases) refl

-- ---- the extras of what takes one more: where they stand, and what a pair with an old key and one with a new key make of them
pub record Extras (h : Holder) (r : Report) : Type 0 where
  pub front : List Row
  pub before : List Row
  pub back : List Row
  pub cut : Cut (rows_of r) before back
  pub is : before ≡ front ++ map (pair_row_of (extra_kind h)) (extras_in h r)
  pub mark : {b : Builder} → Marked b r → holder_of (extra_kind h) b + 1 ≡ length front
  pub old : (p : Pair) → has_key p.key (extras_in h r) ≡ true → Old (extra_kind h) p (length front + key_index p.key (extras_in h r)) r (add_extra h p r)
  pub new : (p : Pair) → has_key p.key (extras_in h r) ≡ false → New (extra_kind h) p r (add_extra h p r)

module _ (r : Report) {s : TestSuite} (e : last_in r.suites ≡ some s) (n : s.cases ≡ []) (g : s.properties ≡ []) where
  suite-front : length (before_suite r ++ (suite_row s ∷ [])) ≡ suite_mark r + 1
  suite-front = length-append (before_suite r) (suite_row s ∷ []) ∙ ap (λ (k : ℕ). k + 1) (length-before-suite r)

  suite-extras_are : extras_in holder.Suite r ≡ s.extra
  suite-extras_are = ap suite_extras e

  suite-extras : Extras holder.Suite r
  suite-extras =
      let x : List Row = map (pair_row_of kind.suite_extra) s.extra in
      let a = suite-extras_are in
      let f = suite-front in
      record {
        front = before_suite r ++ (suite_row s ∷ []);
        before = rows_of r;
        back = [];
        cut = cut-suite r e (ap last_in n);
        is = suite-rows r e (ap last_in n)
            ∙ ap (λ (ps : List Pair). before_suite r ++ (suite_row s ∷ (x ++ map (pair_row_of kind.suite_property) ps))) g
            ∙ ap (λ (l : List Row). before_suite r ++ (suite_row s ∷ l)) (append-nil x)
            ∙ sym (append_assoc (before_suite r) (suite_row s ∷ []) x)
            ∙ ap (λ (ps : List Pair). (before_suite r ++ (suite_row s ∷ [])) ++ map (pair_row_of kind.suite_extra) ps) (sym a);
        mark = λ m. ap (λ (k : ℕ). k + 1) (suite-marked r e m) ∙ sym f;
        old = λ p k.
            let o : OldKey p s.extra = old-key p s.extra (sym (ap (has_key p.key) a) ∙ k) in
            record {
              old = o.old;
              spot = subst (λ (i : ℕ). Spot r i (pair_row_of kind.suite_extra o.old) (add_extra holder.Suite p r) (pair_row_of kind.suite_extra (renewed p o.old)))
                  (λ j. sym f j + key_index p.key (sym a j)) (spot_suite-extra r e p o);
              marks = marked-suite_old r e p o;
            };
        new = λ p k. suite-new-extra r e n p (sym (ap (has_key p.key) a) ∙ k) g;
      }

module _ (r : Report) {s : TestSuite} {c : TestCase} (e : last_in r.suites ≡ some s) (d : last_in s.cases ≡ some c) (q : is_empty (runs_in c.status) ≡ true) (g : c.properties ≡ []) where
  case-front : length (up_to_case r s ++ (case_row c ∷ [])) ≡ case_mark (suite_mark r) s + 1
  case-front = length-append (up_to_case r s) (case_row c ∷ []) ∙ ap (λ (k : ℕ). k + 1) (length-up_to-case r s)

  case-extras_are : extras_in holder.Case r ≡ c.extra
  case-extras_are = ap (λ (o : Option TestSuite). case_extras (open_case o)) e ∙ ap case_extras d

  case-extras : Extras holder.Case r
  case-extras =
      let x : List Row = map (pair_row_of kind.case_extra) c.extra in
      let a = case-extras_are in
      let f = case-front in
      record {
        front = up_to_case r s ++ (case_row c ∷ []);
        before = up_to_status r s c;
        back = status_rows c.status;
        cut = cut-case r e d q;
        is = ap (λ (ps : List Pair). up_to_case r s ++ (case_row c ∷ (x ++ map (pair_row_of kind.case_property) ps))) g
            ∙ ap (λ (l : List Row). up_to_case r s ++ (case_row c ∷ l)) (append-nil x)
            ∙ sym (append_assoc (up_to_case r s) (case_row c ∷ []) x)
            ∙ ap (λ (ps : List Pair). (up_to_case r s ++ (case_row c ∷ [])) ++ map (pair_row_of kind.case_extra) ps) (sym a);
        mark = λ m. ap (λ (k : ℕ). k + 1) (case-marked r e d m) ∙ sym f;
        old = λ p k.
            let o : OldKey p c.extra = old-key p c.extra (sym (ap (has_key p.key) a) ∙ k) in
            record {
              old = o.old;
              spot = subst (λ (i : ℕ). Spot r i (pair_row_of kind.case_extra o.old) (add_extra holder.Case p r) (pair_row_of kind.case_extra (renewed p o.old)))
                  (λ j. sym f j + key_index p.key (sym a j)) (spot_case-extra r e d p o);
              marks = marked-case_old r e d p o;
            };
        new = λ p k. case-new-extra r e d q p (sym (ap (has_key p.key) a) ∙ k) g;
      }

pub extras : (h : Holder) (r : Report) → takes_extra h r ≡ true → Extras h r
extras holder.Suite r t = go (last_in r.suites) refl
  where
    go : (o : Option TestSuite) → last_in r.suites ≡ o → Extras holder.Suite r
    go none e = absurd (false≢true (sym (ap (of_suite (λ s. is_empty s.properties && is_empty s.cases)) e) ∙ t))
    go (some s) e =
        let u : is_empty s.properties && is_empty s.cases ≡ true = sym (extra-in r e holder.Suite) ∙ t in
        suite-extras r e (empty-list s.cases (and_right (is_empty s.properties) (is_empty s.cases) u)) (empty-list s.properties (and_left (is_empty s.properties) (is_empty s.cases) u))
extras holder.Case r t = go (last_in r.suites) refl
  where
    in-suite : {s : TestSuite} → last_in r.suites ≡ some s → (o : Option TestCase) → last_in s.cases ≡ o → Extras holder.Case r
    in-suite e none d = absurd (false≢true (sym (extra-in r e holder.Case ∙ ap (of_case (λ c. is_empty c.properties && is_empty (runs_in c.status))) d) ∙ t))
    in-suite e (some c) d =
        let u : is_empty c.properties && is_empty (runs_in c.status) ≡ true = sym (extra-in r e holder.Case ∙ ap (of_case (λ c. is_empty c.properties && is_empty (runs_in c.status))) d) ∙ t in
        case-extras r e d (and_right (is_empty c.properties) (is_empty (runs_in c.status)) u) (empty-list c.properties (and_left (is_empty c.properties) (is_empty (runs_in c.status)) u))

    go : (o : Option TestSuite) → last_in r.suites ≡ o → Extras holder.Case r
    go none e = absurd (false≢true (sym (ap (λ (o : Option TestSuite). of_case (λ c. is_empty c.properties && is_empty (runs_in c.status)) (open_case o)) e) ∙ t))
    go (some s) e = in-suite e (last_in s.cases) refl
