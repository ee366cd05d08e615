-- Behind which row a property or extra may stand: the last one, or the last before a case's main. Assumes nothing.
use Prim.Native.Nat.{ℕ, ◌+◌, ◌≤◌}
use mathlib.Core.Bool.{Bool, true, false, cond, ◌&&◌}
use mathlib.Core.List.{List, [], ◌∷◌, ◌++◌, map, append-nil}
use mathlib.Core.Option.{Option, none, some}
use mathlib.Core.Path.{◌≡◌, refl, sym, ap, subst, ◌∙◌}
use native.Mathlib.Omega.{arith}
use lib.ListN.{length, length-append}
use Rattle.tree_placed.specs.of_tree_record.Kinds as kind
use Rattle.tree_placed.specs.of_tree_report.Report.{Pair, NonSuccessKind, failure, error, FlakyOrRerun, flaky, rerun, TestRerun, TestCaseStatus, success, non_success, skipped, TestCase, TestSuite, Report}
use Rattle.tree_placed.specs.of_tree_report.inside.Cells.{Row, pair_row_of, main_row, kind_of_main, run_row, kind_of_run, is_flaky_alone, status_rows, case_row, case_rows, rows_of_each, suite_row, suite_rows, report_row, rows_of}
use Rattle.build_draft.specs.declared.Holder.{Holder}
use Rattle.build_draft.specs.declared.Holder.TheVariants as holder
use Rattle.build_draft.specs.Parts.{is_main_kind, may_stand_behind}
use Rattle.build_draft.specs.Calls.{property_kind, extra_kind}
use Rattle.build_report.specs.Operations.{last_in, open_case, runs_in, is_empty}
use Rattle.build_report.specs.Builders.{of_case, of_suite, takes_property, takes_extra}
use Rattle.build_report.proofs.Lasts.{last_none}
use Rattle.build_report.proofs.Openings.{before_suite, up_to_case, up_to_status, rows-suite, rows-status}

-- ---- the rows that stand behind an element's extras and properties where it takes one more: none, or a case's main
pub data Tail : List Row → Type 0 where
  no_main : Tail []
  one-main : {m : Row} → is_main_kind m.kind ≡ true → Tail (m ∷ [])

-- the kind of the last row
abbrev pub last_kind : List Row → ℕ
last_kind [] = 0
last_kind (x ∷ []) = x.kind
last_kind (x ∷ (y ∷ ys)) = last_kind (y ∷ ys)

pub last-behind : (xs : List Row) (y : Row) (ys : List Row) → last_kind (xs ++ (y ∷ ys)) ≡ last_kind (y ∷ ys)
last-behind [] y ys = refl
last-behind (x ∷ []) y ys = refl
last-behind (x ∷ (z ∷ zs)) y ys = last-behind (z ∷ zs) y ys

-- of an element, its extras and its properties
abbrev pub pair_kind : ℕ → ℕ → ℕ → Bool → Bool → ℕ
pair_kind κ x p no_extras no_properties = cond no_properties (cond no_extras κ x) p

last-pairs : (p : ℕ) (head : Row) (ps : List Pair) → last_kind (head ∷ map (pair_row_of p) ps) ≡ cond (is_empty ps) head.kind p
last-pairs p head [] = refl
last-pairs p head (a ∷ []) = refl
last-pairs p head (a ∷ (b ∷ ps)) = last-pairs p (pair_row_of p a) (b ∷ ps)

pub last-element : (x p : ℕ) (head : Row) (xs ps : List Pair) → last_kind (head ∷ (map (pair_row_of x) xs ++ map (pair_row_of p) ps)) ≡ pair_kind head.kind x p (is_empty xs) (is_empty ps)
last-element x p head [] ps = last-pairs p head ps
last-element x p head (a ∷ []) ps = last-pairs p (pair_row_of x a) ps
last-element x p head (a ∷ (b ∷ xs)) ps = last-element x p (pair_row_of x a) (b ∷ xs) ps

-- ---- which kinds take one behind them
abbrev is_suite : Holder → Bool
is_suite holder.Suite = true
is_suite holder.Case = false

abbrev is_case : Holder → Bool
is_case holder.Suite = false
is_case holder.Case = true

suite-property : (h : Holder) (a b : Bool) → may_stand_behind (property_kind h) (pair_kind 2 13 4 a b) ≡ is_suite h
suite-property holder.Suite true true = refl
suite-property holder.Suite true false = refl
suite-property holder.Suite false true = refl
suite-property holder.Suite false false = refl
suite-property holder.Case true true = refl
suite-property holder.Case true false = refl
suite-property holder.Case false true = refl
suite-property holder.Case false false = refl

suite-extra : (h : Holder) (a b : Bool) → may_stand_behind (extra_kind h) (pair_kind 2 13 4 a b) ≡ is_suite h && b
suite-extra holder.Suite true true = refl
suite-extra holder.Suite true false = refl
suite-extra holder.Suite false true = refl
suite-extra holder.Suite false false = refl
suite-extra holder.Case true true = refl
suite-extra holder.Case true false = refl
suite-extra holder.Case false true = refl
suite-extra holder.Case false false = refl

case-property : (h : Holder) (a b : Bool) → may_stand_behind (property_kind h) (pair_kind 3 14 5 a b) ≡ is_case h
case-property holder.Suite true true = refl
case-property holder.Suite true false = refl
case-property holder.Suite false true = refl
case-property holder.Suite false false = refl
case-property holder.Case true true = refl
case-property holder.Case true false = refl
case-property holder.Case false true = refl
case-property holder.Case false false = refl

case-extra : (h : Holder) (a b : Bool) → may_stand_behind (extra_kind h) (pair_kind 3 14 5 a b) ≡ is_case h && b
case-extra holder.Suite true true = refl
case-extra holder.Suite true false = refl
case-extra holder.Suite false true = refl
case-extra holder.Suite false false = refl
case-extra holder.Case true true = refl
case-extra holder.Case true false = refl
case-extra holder.Case false true = refl
case-extra holder.Case false false = refl

suite-no-main : (a b : Bool) → is_main_kind (pair_kind 2 13 4 a b) ≡ false
suite-no-main true true = refl
suite-no-main true false = refl
suite-no-main false true = refl
suite-no-main false false = refl

case-no-main : (a b : Bool) → is_main_kind (pair_kind 3 14 5 a b) ≡ false
case-no-main true true = refl
case-no-main true false = refl
case-no-main false true = refl
case-no-main false false = refl

-- nothing stands behind a report or a run
pub record Closed (k : ℕ) : Type 0 where
  pub property : (h : Holder) → may_stand_behind (property_kind h) k ≡ false
  pub extra : (h : Holder) → may_stand_behind (extra_kind h) k ≡ false
  pub not-main : is_main_kind k ≡ false

closed-report : Closed 1
closed-report = record { property = go; extra = and; not-main = refl }
  where
    go : (h : Holder) → may_stand_behind (property_kind h) 1 ≡ false
    go holder.Suite = refl
    go holder.Case = refl

    and : (h : Holder) → may_stand_behind (extra_kind h) 1 ≡ false
    and holder.Suite = refl
    and holder.Case = refl

run-property : (f : FlakyOrRerun) (k : NonSuccessKind) (h : Holder) → may_stand_behind (property_kind h) (kind_of_run f k) ≡ false
run-property flaky failure holder.Suite = refl
run-property flaky failure holder.Case = refl
run-property flaky error holder.Suite = refl
run-property flaky error holder.Case = refl
run-property rerun failure holder.Suite = refl
run-property rerun failure holder.Case = refl
run-property rerun error holder.Suite = refl
run-property rerun error holder.Case = refl

run-extra : (f : FlakyOrRerun) (k : NonSuccessKind) (h : Holder) → may_stand_behind (extra_kind h) (kind_of_run f k) ≡ false
run-extra flaky failure holder.Suite = refl
run-extra flaky failure holder.Case = refl
run-extra flaky error holder.Suite = refl
run-extra flaky error holder.Case = refl
run-extra rerun failure holder.Suite = refl
run-extra rerun failure holder.Case = refl
run-extra rerun error holder.Suite = refl
run-extra rerun error holder.Case = refl

run-no-main : (f : FlakyOrRerun) (k : NonSuccessKind) → is_main_kind (kind_of_run f k) ≡ false
run-no-main flaky failure = refl
run-no-main flaky error = refl
run-no-main rerun failure = refl
run-no-main rerun error = refl

closed-runs : (f : FlakyOrRerun) (e : TestRerun) (es : List TestRerun) → Closed (last_kind (map (run_row f) (e ∷ es)))
closed-runs f e [] = record { property = run-property f e.kind; extra = run-extra f e.kind; not-main = run-no-main f e.kind }
closed-runs f e (d ∷ es) = closed-runs f d es

-- ---- the rows of a report, cut where a new one would stand
pub record Cut (rows before back : List Row) : Type 0 where
  pub is : rows ≡ before ++ back
  pub tail : Tail back
  pub any : 1 ≤ length before
  pub not-main : is_main_kind (last_kind before) ≡ false

-- what may stand there
pub record Ends (r : Report) : Type 0 where
  pub before : List Row
  pub back : List Row
  pub cut : Cut (rows_of r) before back
  pub property : (h : Holder) → may_stand_behind (property_kind h) (last_kind before) ≡ takes_property h r
  pub extra : (h : Holder) → may_stand_behind (extra_kind h) (last_kind before) ≡ takes_extra h r

-- ---- every report has such a place
not-empty : {A : Type 0} (xs : List A) {x : A} → last_in xs ≡ some x → is_empty xs ≡ false
not-empty [] e = let z : ◌≡◌ {A = ℕ} 0 1 = cc in absurd (omega arith)
not-empty (y ∷ ys) e = refl

any-rows : (xs : List Row) (y : Row) (ys : List Row) → 1 ≤ length (xs ++ (y ∷ ys))
any-rows xs y ys = let n = length-append xs (y ∷ ys) in omega arith

-- without a suite
ends-report : (r : Report) → last_in r.suites ≡ none → Ends r
ends-report r e = record {
  before = report_row r ∷ [];
  back = [];
  cut = record { is = ap (λ (ss : List TestSuite). report_row r ∷ rows_of_each suite_rows ss) (last_none r.suites e); tail = no_main; any = omega arith; not-main = refl };
  property = λ h. closed-report.property h ∙ go h;
  extra = λ h. closed-report.extra h ∙ and h;
}
  where
    go : (h : Holder) → false ≡ takes_property h r
    go holder.Suite = sym (ap (λ (o : Option TestSuite). of_suite (λ s. is_empty s.cases) o) e)
    go holder.Case = sym (ap (λ (o : Option TestSuite). of_case (λ c. is_empty (runs_in c.status)) (open_case o)) e)

    and : (h : Holder) → false ≡ takes_extra h r
    and holder.Suite = sym (ap (λ (o : Option TestSuite). of_suite (λ s. is_empty s.properties && is_empty s.cases) o) e)
    and holder.Case = sym (ap (λ (o : Option TestSuite). of_case (λ c. is_empty c.properties && is_empty (runs_in c.status)) (open_case o)) e)

-- what a report with an open suite takes
abbrev property_in : Holder → TestSuite → Option TestCase → Bool
property_in holder.Suite s o = is_empty s.cases
property_in holder.Case s o = of_case (λ c. is_empty (runs_in c.status)) o

abbrev extra_in : Holder → TestSuite → Option TestCase → Bool
extra_in holder.Suite s o = is_empty s.properties && is_empty s.cases
extra_in holder.Case s o = of_case (λ c. is_empty c.properties && is_empty (runs_in c.status)) o

module _ (r : Report) {s : TestSuite} (e : last_in r.suites ≡ some s) where
  pub property-in : (h : Holder) → takes_property h r ≡ property_in h s (last_in s.cases)
  property-in holder.Suite = ap (λ (o : Option TestSuite). of_suite (λ s. is_empty s.cases) o) e
  property-in holder.Case = ap (λ (o : Option TestSuite). of_case (λ c. is_empty (runs_in c.status)) (open_case o)) e

  pub extra-in : (h : Holder) → takes_extra h r ≡ extra_in h s (last_in s.cases)
  extra-in holder.Suite = ap (λ (o : Option TestSuite). of_suite (λ s. is_empty s.properties && is_empty s.cases) o) e
  extra-in holder.Case = ap (λ (o : Option TestSuite). of_case (λ c. is_empty c.properties && is_empty (runs_in c.status)) (open_case o)) e

-- without a case
and-true : (a : Bool) → a && true ≡ a
and-true true = refl
and-true false = refl

and-false : (a : Bool) → a && false ≡ false
and-false true = refl
and-false false = refl

module _ (r : Report) {s : TestSuite} (e : last_in r.suites ≡ some s) (d : last_in s.cases ≡ none) where
  suite-takes-property : (h : Holder) → takes_property h r ≡ is_suite h
  suite-takes-property holder.Suite = property-in r e holder.Suite ∙ ap (λ (cs : List TestCase). is_empty cs) (last_none s.cases d)
  suite-takes-property holder.Case = property-in r e holder.Case ∙ ap (of_case (λ c. is_empty (runs_in c.status))) d

  suite-takes-extra : (h : Holder) → takes_extra h r ≡ is_suite h && is_empty s.properties
  suite-takes-extra holder.Suite =
      extra-in r e holder.Suite ∙ ap (λ (cs : List TestCase). is_empty s.properties && is_empty cs) (last_none s.cases d) ∙ and-true (is_empty s.properties)
  suite-takes-extra holder.Case = extra-in r e holder.Case ∙ ap (of_case (λ c. is_empty c.properties && is_empty (runs_in c.status))) d

  pub suite-rows : rows_of r ≡ before_suite r ++ (suite_row s ∷ (map (pair_row_of kind.suite_extra) s.extra ++ map (pair_row_of kind.suite_property) s.properties))
  suite-rows =
      let x : List Row = map (pair_row_of kind.suite_extra) s.extra in
      let p : List Row = map (pair_row_of kind.suite_property) s.properties in
      rows-suite r e
      ∙ ap (λ (cs : List TestCase). before_suite r ++ (suite_row s ∷ (x ++ (p ++ rows_of_each case_rows cs)))) (last_none s.cases d)
      ∙ ap (λ (l : List Row). before_suite r ++ (suite_row s ∷ (x ++ l))) (append-nil p)

  suite-kind : last_kind (rows_of r) ≡ pair_kind 2 13 4 (is_empty s.extra) (is_empty s.properties)
  suite-kind =
      ap last_kind suite-rows
      ∙ last-behind (before_suite r) (suite_row s) (map (pair_row_of kind.suite_extra) s.extra ++ map (pair_row_of kind.suite_property) s.properties)
      ∙ last-element 13 4 (suite_row s) s.extra s.properties

  pub cut-suite : Cut (rows_of r) (rows_of r) []
  cut-suite = record {
    is = sym (append-nil (rows_of r));
    tail = no_main;
    any = omega arith;
    not-main = ap is_main_kind suite-kind ∙ suite-no-main (is_empty s.extra) (is_empty s.properties);
  }

  ends-suite : Ends r
  ends-suite = record {
    before = rows_of r;
    back = [];
    cut = cut-suite;
    property = λ h. ap (may_stand_behind (property_kind h)) suite-kind ∙ suite-property h (is_empty s.extra) (is_empty s.properties) ∙ sym (suite-takes-property h);
    extra = λ h. ap (may_stand_behind (extra_kind h)) suite-kind ∙ suite-extra h (is_empty s.extra) (is_empty s.properties) ∙ sym (suite-takes-extra h);
  }

-- with a case
pub status-tail : (t : TestCaseStatus) → is_empty (runs_in t) ≡ true → Tail (status_rows t)
status-tail (success []) e = no_main
status-tail (success (x ∷ xs)) e = let z : ◌≡◌ {A = ℕ} 0 1 = cc in absurd (omega arith)
status-tail (non_success failure m f []) e = one-main refl
status-tail (non_success error m f []) e = one-main refl
status-tail (non_success k m f (x ∷ xs)) e = let z : ◌≡◌ {A = ℕ} 0 1 = cc in absurd (omega arith)
status-tail (skipped m) e = one-main refl

-- the last of its rows where it has runs
status-closed : (xs : List Row) (t : TestCaseStatus) → is_empty (runs_in t) ≡ false → Closed (last_kind (xs ++ status_rows t))
status-closed xs (success []) e = let z : ◌≡◌ {A = ℕ} 0 1 = cc in absurd (omega arith)
status-closed xs (success (d ∷ es)) e = subst Closed (sym (last-behind xs (run_row flaky d) (map (run_row flaky) es))) (closed-runs flaky d es)
status-closed xs (non_success k m f []) e = let z : ◌≡◌ {A = ℕ} 0 1 = cc in absurd (omega arith)
status-closed xs (non_success k m f (d ∷ es)) e =
    subst Closed (sym (last-behind xs (main_row (kind_of_main k) (is_flaky_alone f (d ∷ es)) m) (map (run_row f) (d ∷ es)))) (closed-runs f d es)
status-closed xs (skipped m) e = let z : ◌≡◌ {A = ℕ} 0 1 = cc in absurd (omega arith)

module _ (r : Report) {s : TestSuite} {c : TestCase} (e : last_in r.suites ≡ some s) (d : last_in s.cases ≡ some c) where
  case-takes-property : (t : Bool) → is_empty (runs_in c.status) ≡ t → (h : Holder) → takes_property h r ≡ is_case h && t
  case-takes-property t q holder.Suite = property-in r e holder.Suite ∙ not-empty s.cases d
  case-takes-property t q holder.Case = property-in r e holder.Case ∙ ap (of_case (λ c. is_empty (runs_in c.status))) d ∙ q

  case-takes-extra : (t : Bool) → is_empty (runs_in c.status) ≡ t → (h : Holder) → takes_extra h r ≡ is_case h && (is_empty c.properties && t)
  case-takes-extra t q holder.Suite =
      extra-in r e holder.Suite ∙ ap (λ (b : Bool). is_empty s.properties && b) (not-empty s.cases d) ∙ and-false (is_empty s.properties)
  case-takes-extra t q holder.Case =
      extra-in r e holder.Case ∙ ap (of_case (λ c. is_empty c.properties && is_empty (runs_in c.status))) d ∙ ap (λ (b : Bool). is_empty c.properties && b) q

  case-kind : last_kind (up_to_status r s c) ≡ pair_kind 3 14 5 (is_empty c.extra) (is_empty c.properties)
  case-kind =
      last-behind (up_to_case r s) (case_row c) (map (pair_row_of kind.case_extra) c.extra ++ map (pair_row_of kind.case_property) c.properties)
      ∙ last-element 14 5 (case_row c) c.extra c.properties

  pub cut-case : is_empty (runs_in c.status) ≡ true → Cut (rows_of r) (up_to_status r s c) (status_rows c.status)
  cut-case q = record {
    is = rows-status r e d;
    tail = status-tail c.status q;
    any = any-rows (up_to_case r s) (case_row c) (map (pair_row_of kind.case_extra) c.extra ++ map (pair_row_of kind.case_property) c.properties);
    not-main = ap is_main_kind case-kind ∙ case-no-main (is_empty c.extra) (is_empty c.properties);
  }

  ends-case : is_empty (runs_in c.status) ≡ true → Ends r
  ends-case q =
      let a : Bool = is_empty c.extra in
      let b : Bool = is_empty c.properties in
      record {
        before = up_to_status r s c;
        back = status_rows c.status;
        cut = cut-case q;
        property = λ h. ap (may_stand_behind (property_kind h)) case-kind ∙ case-property h a b ∙ sym (and-true (is_case h)) ∙ sym (case-takes-property true q h);
        extra = λ h. ap (may_stand_behind (extra_kind h)) case-kind ∙ case-extra h a b ∙ sym (ap (λ (t : Bool). is_case h && t) (and-true b)) ∙ sym (case-takes-extra true q h);
      }

  ends-runs : is_empty (runs_in c.status) ≡ false → Ends r
  ends-runs q =
      let rows : List Row = up_to_status r s c ++ status_rows c.status in
      let n : Closed (last_kind rows) = status-closed (up_to_status r s c) c.status q in
      let l = length-append (up_to_status r s c) (status_rows c.status) in
      let m = any-rows (up_to_case r s) (case_row c) (map (pair_row_of kind.case_extra) c.extra ++ map (pair_row_of kind.case_property) c.properties) in
      record {
        before = rows;
        back = [];
        cut = record { is = rows-status r e d ∙ sym (append-nil rows); tail = no_main; any = omega arith; not-main = n.not-main };
        property = λ h. n.property h ∙ sym (and-false (is_case h)) ∙ sym (case-takes-property false q h);
        extra = λ h. n.extra h ∙ sym (and-false (is_case h)) ∙ sym (ap (λ (t : Bool). is_case h && t) (and-false (is_empty c.properties))) ∙ sym (case-takes-extra false q h);
      }

  ends_open : (t : Bool) → is_empty (runs_in c.status) ≡ t → Ends r
  ends_open true q = ends-case q
  ends_open false q = ends-runs q

ends-in : (r : Report) {s : TestSuite} → last_in r.suites ≡ some s → (o : Option TestCase) → last_in s.cases ≡ o → Ends r
ends-in r e none d = ends-suite r e d
ends-in r e (some c) d = ends_open r e d (is_empty (runs_in c.status)) refl

ends_by : (r : Report) (o : Option TestSuite) → last_in r.suites ≡ o → Ends r
ends_by r none e = ends-report r e
ends_by r (some s) e = ends-in r e (last_in s.cases) refl

pub ends : (r : Report) → Ends r
ends r = ends_by r (last_in r.suites) refl
