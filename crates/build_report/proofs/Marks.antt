-- The marks that are right, by what is open, and changes that keep them. Assumes nothing.
use Prim.Native.Nat.{ℕ, ◌+◌}
use mathlib.Core.Bool.{cond}
use mathlib.Core.List.{List}
use mathlib.Core.Option.{Option, none, some}
use mathlib.Core.Path.{◌≡◌, refl, sym, ap, ◌∙◌}
use lib.ListN.{length}
use Rattle.tree_placed.specs.of_refusal.Refusal.{nowhere}
use Rattle.tree_placed.specs.of_tree_report.Report.{TestCaseStatus, success, non_success, skipped, TestCase, TestSuite, Report, Reason, TestRerun, FlakyOrRerun}
use Rattle.tree_placed.specs.of_tree_report.inside.Cells.{rows_of_each, case_rows, suite_rows}
use Rattle.build_draft.specs.declared.Builder.{Builder}
use Rattle.build_report.specs.Operations.{on_last, last_in, open_case, has_main, with_cases, with_status, on_suite, on_case, on_status, on_reason, on_run, with_run, with_family}
use Rattle.build_report.specs.Stands.{all_but_last, suite_mark, case_mark, main_mark, suite_mark_of, case_mark_of, main_mark_of, Marked}
use Rattle.build_report.proofs.Lasts.{last_on, others-on}

-- ---- nothing open
module _ {b : Builder} (r : Report) (e : last_in r.suites ≡ none) where
  pub no-suite : Marked b r → (b.suite ≡ nowhere) × (b.case ≡ nowhere) × (b.main ≡ nowhere)
  no-suite m =
      (m.suite ∙ ap (suite_mark_of r) e, m.case ∙ ap (λ (o : Option TestSuite). case_mark_of r o (open_case o)) e, m.main ∙ ap (λ (o : Option TestSuite). main_mark_of r o (open_case o)) e)

  pub marked-none : b.report ≡ 0 → b.suite ≡ nowhere → b.case ≡ nowhere → b.main ≡ nowhere → Marked b r
  marked-none h s c n = record {
    report = h;
    suite = s ∙ sym (ap (suite_mark_of r) e);
    case = c ∙ sym (ap (λ (o : Option TestSuite). case_mark_of r o (open_case o)) e);
    main = n ∙ sym (ap (λ (o : Option TestSuite). main_mark_of r o (open_case o)) e);
  }

-- ---- an open suite
module _ {b : Builder} (r : Report) {s : TestSuite} (e : last_in r.suites ≡ some s) where
  pub suite-marked : Marked b r → b.suite ≡ suite_mark r
  suite-marked m = m.suite ∙ ap (suite_mark_of r) e

  pub case-of : Marked b r → b.case ≡ case_mark_of r (some s) (last_in s.cases)
  case-of m = m.case ∙ ap (λ (o : Option TestSuite). case_mark_of r o (open_case o)) e

  pub main-of : Marked b r → b.main ≡ main_mark_of r (some s) (last_in s.cases)
  main-of m = m.main ∙ ap (λ (o : Option TestSuite). main_mark_of r o (open_case o)) e

  pub marked-of : b.report ≡ 0 → b.suite ≡ suite_mark r → b.case ≡ case_mark_of r (some s) (last_in s.cases) → b.main ≡ main_mark_of r (some s) (last_in s.cases) → Marked b r
  marked-of h a c n = record {
    report = h;
    suite = a ∙ sym (ap (suite_mark_of r) e);
    case = c ∙ sym (ap (λ (o : Option TestSuite). case_mark_of r o (open_case o)) e);
    main = n ∙ sym (ap (λ (o : Option TestSuite). main_mark_of r o (open_case o)) e);
  }

  -- without a case
  module _ (d : last_in s.cases ≡ none) where
    pub no-case : Marked b r → (b.case ≡ nowhere) × (b.main ≡ nowhere)
    no-case m = (case-of m ∙ ap (case_mark_of r (some s)) d, main-of m ∙ ap (main_mark_of r (some s)) d)

    pub marked-suite-alone : b.report ≡ 0 → b.suite ≡ suite_mark r → b.case ≡ nowhere → b.main ≡ nowhere → Marked b r
    marked-suite-alone h a c n = marked-of h a (c ∙ sym (ap (case_mark_of r (some s)) d)) (n ∙ sym (ap (main_mark_of r (some s)) d))

  -- with an open case
  module _ {c : TestCase} (d : last_in s.cases ≡ some c) where
    pub case-marked : Marked b r → b.case ≡ case_mark (suite_mark r) s
    case-marked m = case-of m ∙ ap (case_mark_of r (some s)) d

    pub main-marked : Marked b r → b.main ≡ cond (has_main c.status) (main_mark (case_mark (suite_mark r) s) c) nowhere
    main-marked m = main-of m ∙ ap (main_mark_of r (some s)) d

    pub marked-open : b.report ≡ 0 → b.suite ≡ suite_mark r → b.case ≡ case_mark (suite_mark r) s
        → b.main ≡ cond (has_main c.status) (main_mark (case_mark (suite_mark r) s) c) nowhere → Marked b r
    marked-open h a k n = marked-of h a (k ∙ sym (ap (case_mark_of r (some s)) d)) (n ∙ sym (ap (main_mark_of r (some s)) d))

-- ---- the same suites
same-suite : (r r' : Report) (o : Option TestSuite) → suite_mark r ≡ suite_mark r' → suite_mark_of r o ≡ suite_mark_of r' o
same-suite r r' none n = refl
same-suite r r' (some s) n = n

same_case : (r r' : Report) (o : Option TestSuite) (c : Option TestCase) → suite_mark r ≡ suite_mark r' → case_mark_of r o c ≡ case_mark_of r' o c
same_case r r' none c n = refl
same_case r r' (some s) none n = refl
same_case r r' (some s) (some c) n = ap (λ (k : ℕ). case_mark k s) n

same-main : (r r' : Report) (o : Option TestSuite) (c : Option TestCase) → suite_mark r ≡ suite_mark r' → main_mark_of r o c ≡ main_mark_of r' o c
same-main r r' none c n = refl
same-main r r' (some s) none n = refl
same-main r r' (some s) (some c) n = ap (λ (k : ℕ). cond (has_main c.status) (main_mark (case_mark k s) c) nowhere) n

pub marked-suites : {b : Builder} (r r' : Report) → r.suites ≡ r'.suites → Marked b r → Marked b r'
marked-suites r r' e m =
    let n : suite_mark r ≡ suite_mark r' = λ i. 1 + length (rows_of_each suite_rows (all_but_last (e i))) in
    let o : Option TestSuite = last_in r'.suites in
    record {
      report = m.report;
      suite = m.suite ∙ ap (λ (ss : List TestSuite). suite_mark_of r (last_in ss)) e ∙ same-suite r r' o n;
      case = m.case ∙ ap (λ (ss : List TestSuite). case_mark_of r (last_in ss) (open_case (last_in ss))) e ∙ same_case r r' o (open_case o) n;
      main = m.main ∙ ap (λ (ss : List TestSuite). main_mark_of r (last_in ss) (open_case (last_in ss))) e ∙ same-main r r' o (open_case o) n;
    }

-- ---- the open suite changed
pub suite-mark_on : (f : TestSuite → TestSuite) (r : Report) {s : TestSuite} → last_in r.suites ≡ some s → suite_mark (on_suite f r) ≡ suite_mark r
suite-mark_on f r e = ap (λ (ss : List TestSuite). 1 + length (rows_of_each suite_rows ss)) (others-on f r.suites e)

-- by the number of a suite, of its extras and properties, and its cases
abbrev case_for : ℕ → ℕ → ℕ → List TestCase → Option TestCase → ℕ
case_for n x p cs none = nowhere
case_for n x p cs (some c) = n + 1 + x + p + length (rows_of_each case_rows (all_but_last cs))

abbrev main_for : ℕ → ℕ → ℕ → List TestCase → Option TestCase → ℕ
main_for n x p cs none = nowhere
main_for n x p cs (some c) = cond (has_main c.status) (main_mark (n + 1 + x + p + length (rows_of_each case_rows (all_but_last cs))) c) nowhere

case-for : (r : Report) (s : TestSuite) (o : Option TestCase) → case_mark_of r (some s) o ≡ case_for (suite_mark r) (length s.extra) (length s.properties) s.cases o
case-for r s none = refl
case-for r s (some c) = refl

main-for : (r : Report) (s : TestSuite) (o : Option TestCase) → main_mark_of r (some s) o ≡ main_for (suite_mark r) (length s.extra) (length s.properties) s.cases o
main-for r s none = refl
main-for r s (some c) = refl

-- the marks stay where as many extras and properties, and the cases, stay
pub marked-suite : {b : Builder} (f : TestSuite → TestSuite) (r : Report) {s : TestSuite} → last_in r.suites ≡ some s
    → length s.extra ≡ length (f s).extra → length s.properties ≡ length (f s).properties → s.cases ≡ (f s).cases → Marked b r → Marked b (on_suite f r)
marked-suite {b} f r {s} e x p cs m =
    let q : Report = on_suite f r in
    let n : suite_mark r ≡ suite_mark q = sym (suite-mark_on f r e) in
    marked-of q (last_on f r.suites e) m.report (suite-marked r e m ∙ n)
    (case-of r e m ∙ case-for r s (last_in s.cases) ∙ (λ i. case_for (n i) (x i) (p i) (cs i) (last_in (cs i))) ∙ sym (case-for q (f s) (last_in (f s).cases)))
    (main-of r e m ∙ main-for r s (last_in s.cases) ∙ (λ i. main_for (n i) (x i) (p i) (cs i) (last_in (cs i))) ∙ sym (main-for q (f s) (last_in (f s).cases)))

-- ---- the open case changed
module _ (f : TestCase → TestCase) (r : Report) {s : TestSuite} {c : TestCase} (e : last_in r.suites ≡ some s) (d : last_in s.cases ≡ some c) where
  abbrev pub changed : TestSuite → TestSuite
  changed t = with_cases t t.counts (on_last f t.cases)

  pub suite-on-case : last_in (on_case f r).suites ≡ some (changed s)
  suite-on-case = last_on changed r.suites e

  pub open_on-case : last_in (changed s).cases ≡ some (f c)
  open_on-case = last_on f s.cases d

  pub suite-mark-case : suite_mark (on_case f r) ≡ suite_mark r
  suite-mark-case = suite-mark_on changed r e

  pub case-mark_on : case_mark (suite_mark (on_case f r)) (changed s) ≡ case_mark (suite_mark r) s
  case-mark_on =
      let n : suite_mark (on_case f r) ≡ suite_mark r = suite-mark-case in
      let k : all_but_last (on_last f s.cases) ≡ all_but_last s.cases = others-on f s.cases d in
      λ i. n i + 1 + length s.extra + length s.properties + length (rows_of_each case_rows (k i))

  -- the marks stay where the case has a main as before, with as many rows before it
  pub marked-case : {b : Builder} → length c.extra ≡ length (f c).extra → length c.properties ≡ length (f c).properties
      → has_main c.status ≡ has_main (f c).status → Marked b r → Marked b (on_case f r)
  marked-case x p h m =
      let n = case-mark_on in
      marked-open (on_case f r) suite-on-case open_on-case m.report (suite-marked r e m ∙ sym suite-mark-case) (case-marked r e d m ∙ sym n)
      (main-marked r e d m ∙ (λ i. cond (h i) (sym n i + 1 + x i + p i) nowhere))

-- ---- its status changed
pub main-reason : (f : Reason → Reason) (t : TestCaseStatus) → has_main t ≡ has_main (on_reason f t)
main-reason f (success runs) = refl
main-reason f (non_success k m g runs) = refl
main-reason f (skipped m) = refl

pub main-run : (f : TestRerun → TestRerun) (t : TestCaseStatus) → has_main t ≡ has_main (on_run f t)
main-run f (success runs) = refl
main-run f (non_success k m g runs) = refl
main-run f (skipped m) = refl

pub main-more : (e : TestRerun) (t : TestCaseStatus) → has_main t ≡ has_main (with_run e t)
main-more e (success runs) = refl
main-more e (non_success k m g runs) = refl
main-more e (skipped m) = refl

pub main-family : (f : FlakyOrRerun) (t : TestCaseStatus) → has_main t ≡ has_main (with_family f t)
main-family f (success runs) = refl
main-family f (non_success k m g runs) = refl
main-family f (skipped m) = refl

pub marked-status : {b : Builder} (f : TestCaseStatus → TestCaseStatus) (r : Report) {s : TestSuite} {c : TestCase} → last_in r.suites ≡ some s → last_in s.cases ≡ some c
    → has_main c.status ≡ has_main (f c.status) → Marked b r → Marked b (on_status f r)
marked-status f r e d h m = marked-case (λ c. with_status c (f c.status)) r e d refl refl h m
