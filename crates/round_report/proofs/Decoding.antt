-- The records of cases, of a suite and of suites are read as what they show. Assumes nothing.
use Prim.Native.Nat.{ℕ, ◌≤◌}
use mathlib.Core.Bool.{Bool, true, false}
use mathlib.Core.List.{List, ◌∷◌, ◌++◌, map}
use mathlib.Core.Path.{◌≡◌, refl, sym, ap, ap₂, subst, ◌∙◌}
use native.Mathlib.Omega.{arith}
use borrow.Author.Tests.{lt-ltb, eq-eqb, ne_eqb}
use lib.Dec.{eqb}
use Rattle.round_rooms.specs.of_tree_report.Report.{TestCase, TestSuite}
use Rattle.round_rooms.specs.of_tree_report.Fields.{kind_of, live, is_suite, is_case, is_suite_property, is_suite_extra}
use Rattle.round_rooms.specs.of_tree_report.ReportOf.{only, Branch, branches, pair_of, case_of, suite_of}
use Rattle.round_rooms.proofs.of_tree_report.EncodeLists.{Each, done, more, each_append, each_on, only-front, only-behind, branches-behind, Starts, until-next}
use Rattle.round_case.specs.of_round_elements.inside.Opened.{PairsShown}
use Rattle.round_case.specs.of_round_elements.inside.Read.{BelowCase, none as nothing, more as own, extra, CaseRecords}
use Rattle.round_case.specs.of_round_elements.inside.Held.{SuiteHeld}
use Rattle.round_case.proofs.CaseRows.{pairs-kind, pairs-back}
use Rattle.round_report.proofs.Shown.{CasesShown, no-case, a_case, Lower, SuiteRecords, SuitesShown, no-suite, a-suite}

-- ---- a branch for each
branch-first : {A : Type 0} (p : List ℕ → Bool) (read : Branch → A) (head : List ℕ) {below : List (List ℕ)} (rest : List (List ℕ)) (a : A) (l : List A)
    → p head ≡ true → Each (λ r. p r ≡ false) below → Starts p rest → read (record { head = head; below = below }) ≡ a → map read (branches p rest) ≡ l
    → map read (branches p (head ∷ (below ++ rest))) ≡ a ∷ l
branch-first p read head {below} rest a l h b n e f =
    rw (h, until-next p rest b n, branches-behind p rest b) (ap₂ (λ x xs. x ∷ xs) e f)

-- ---- records of one kind
kind-test : (κ k : ℕ) (b : Bool) → eqb κ k ≡ b → {rs : List (List ℕ)} → Each (λ r. kind_of r ≡ κ) rs → Each (λ r. eqb (kind_of r) k ≡ b) rs
kind-test κ k b e h = each_on (λ r q. ap (λ (n : ℕ). eqb n k) q ∙ e) h

-- ---- kinds below a case
record Inner (r : List ℕ) : Type 0 where
  pub least : 3 ≤ kind_of r
  pub most : kind_of r ≤ 14
  pub property : kind_of r ≡ 4 → ⊥
  pub extra : kind_of r ≡ 13 → ⊥

record Under (r : List ℕ) : Type 0 where
  pub inner : Inner r
  pub case : kind_of r ≡ 3 → ⊥

under-own : (r : List ℕ) → 5 ≤ kind_of r → kind_of r ≤ 12 → Under r
under-own r a b = record { inner = record { least = omega arith; most = omega arith; property = λ e. omega arith; extra = λ e. omega arith }; case = λ e. omega arith }

under-extra : (r : List ℕ) → kind_of r ≡ 14 → Under r
under-extra r e = record { inner = record { least = omega arith; most = omega arith; property = λ q. omega arith; extra = λ q. omega arith }; case = λ q. omega arith }

head-inner : (r : List ℕ) → kind_of r ≡ 3 → Inner r
head-inner r e = record { least = omega arith; most = omega arith; property = λ q. omega arith; extra = λ q. omega arith }

below-under : {rs : List (List ℕ)} → BelowCase rs → Each Under rs
below-under nothing = done
below-under (own {r = r} h hs) = more (under-own r h.0 h.1) (below-under hs)
below-under (extra {r = r} h hs) = more (under-extra r h) (below-under hs)

case-inner : {texts : List ℕ} {rs : List (List ℕ)} {c : TestCase} → CaseRecords texts rs c → Each Inner rs
case-inner h = subst (Each Inner) (sym h.whole) (more (head-inner h.head h.kind) (each_on (λ r u. u.inner) (below-under h.others)))

cases-inner : {texts : List ℕ} {rs : List (List ℕ)} {cs : List TestCase} → CasesShown texts rs cs → Each Inner rs
cases-inner no-case = done
cases-inner (a_case h hs) = each_append (case-inner h) (cases-inner hs)

-- ---- cases
cases-start : {texts : List ℕ} {rs : List (List ℕ)} {cs : List TestCase} → CasesShown texts rs cs → Starts is_case rs
cases-start no-case = tt
cases-start (a_case {qs = qs} h hs) = subst (λ (l : List (List ℕ)). Starts is_case (l ++ qs)) (sym h.whole) (eq-eqb (kind_of h.head) 3 h.kind)

cases-read : {texts : List ℕ} {rs : List (List ℕ)} {cs : List TestCase} (z : List ℕ) → CasesShown texts rs cs → map (case_of (texts ++ z)) (branches is_case rs) ≡ cs
cases-read z no-case = refl
cases-read {texts} z (a_case {qs = qs} {c = c} {cs = cs} h hs) =
    ap (λ (l : List (List ℕ)). map (case_of (texts ++ z)) (branches is_case (l ++ qs))) h.whole
    ∙ branch-first is_case (case_of (texts ++ z)) h.head qs c cs (eq-eqb (kind_of h.head) 3 h.kind)
    (each_on (λ r u. ne_eqb (kind_of r) 3 u.case) (below-under h.others)) (cases-start hs) (h.case z) (cases-read z hs)

-- ---- a suite
module _ {texts main : List ℕ} {extras properties rows : List (List ℕ)} (s : TestSuite)
    (h : SuiteHeld s s.system_out s.system_err texts main) (x : PairsShown 13 texts extras s.extra)
    (p : PairsShown 4 texts properties s.properties) (c : CasesShown texts rows s.cases) where
  abbrev below : List (List ℕ)
  below = extras ++ (properties ++ rows)

  only-extras : only is_suite_extra below ≡ extras
  only-extras =
      only-front is_suite_extra (kind-test 13 13 true refl (pairs-kind x))
      (each_append (kind-test 4 13 false refl (pairs-kind p)) (each_on (λ r i. ne_eqb (kind_of r) 13 i.extra) (cases-inner c)))

  only-properties : only is_suite_property below ≡ properties
  only-properties =
      only-behind is_suite_property (properties ++ rows) (kind-test 13 4 false refl (pairs-kind x))
      ∙ only-front is_suite_property (kind-test 4 4 true refl (pairs-kind p)) (each_on (λ r i. ne_eqb (kind_of r) 4 i.property) (cases-inner c))

  only-cases : branches is_case below ≡ branches is_case rows
  only-cases =
      branches-behind is_case (properties ++ rows) (kind-test 13 3 false refl (pairs-kind x))
      ∙ branches-behind is_case rows (kind-test 4 3 false refl (pairs-kind p))

  pair-lower : (κ : ℕ) → 3 ≤ κ → κ ≤ 14 → {rs : List (List ℕ)} → Each (λ r. kind_of r ≡ κ) rs → Each Lower rs
  pair-lower κ a b k = each_on (λ r e. record { least = omega arith; most = omega arith }) k

  lower : Each Lower below
  lower =
      each_append (pair-lower 13 (omega arith) (omega arith) (pairs-kind x))
      (each_append (pair-lower 4 (omega arith) (omega arith) (pairs-kind p)) (each_on (λ r i. record { least = i.least; most = i.most }) (cases-inner c)))

  pub suite-records : SuiteRecords texts (main ∷ below) s
  suite-records =
      record {
        head = main;
        below = below;
        whole = refl;
        kind = h.blank.kind;
        others = lower;
        suite = λ z. (
            let name = h.name z in
            let out = h.out z in
            let err = h.err z in
            let counts = h.counts in
            let timestamp = h.timestamp in
            let time = h.time in
            let hostname = h.hostname z in
            let extra = ap (map (pair_of (texts ++ z))) only-extras ∙ pairs-back z x in
            let properties = ap (map (pair_of (texts ++ z))) only-properties ∙ pairs-back z p in
            let cases = ap (map (case_of (texts ++ z))) only-cases ∙ cases-read z c in
            λ i. record {
              name = name i;
              counts = counts i;
              timestamp = timestamp i;
              time = time i;
              hostname = hostname i;
              cases = cases i;
              properties = properties i;
              system_out = out i;
              system_err = err i;
              extra = extra i;
            });
        parts = record { extras = extras; properties = properties; rows = rows; whole = refl; extra = x; pairs = p; cases = c };
      }

-- ---- suites
lower-live : (r : List ℕ) → Lower r → live r ≡ true
lower-live r l = let m = l.most in lt-ltb (kind_of r) 16 (omega arith)

suite-live : {texts : List ℕ} {rs : List (List ℕ)} {s : TestSuite} → SuiteRecords texts rs s → Each (λ r. live r ≡ true) rs
suite-live h =
    let k = h.kind in
    subst (Each (λ r. live r ≡ true)) (sym h.whole) (more (lt-ltb (kind_of h.head) 16 (omega arith)) (each_on lower-live h.others))

pub suites-live : {texts : List ℕ} {rs : List (List ℕ)} {ss : List TestSuite} → SuitesShown texts rs ss → Each (λ r. live r ≡ true) rs
suites-live no-suite = done
suites-live (a-suite h hs) = each_append (suite-live h) (suites-live hs)

suites-start : {texts : List ℕ} {rs : List (List ℕ)} {ss : List TestSuite} → SuitesShown texts rs ss → Starts is_suite rs
suites-start no-suite = tt
suites-start (a-suite {qs = qs} h hs) = subst (λ (l : List (List ℕ)). Starts is_suite (l ++ qs)) (sym h.whole) (eq-eqb (kind_of h.head) 2 h.kind)

pub suites-read : {texts : List ℕ} {rs : List (List ℕ)} {ss : List TestSuite} (z : List ℕ) → SuitesShown texts rs ss → map (suite_of (texts ++ z)) (branches is_suite rs) ≡ ss
suites-read z no-suite = refl
suites-read {texts} z (a-suite {qs = qs} {s = s} {ss = ss} h hs) =
    ap (λ (l : List (List ℕ)). map (suite_of (texts ++ z)) (branches is_suite (l ++ qs))) h.whole
    ∙ branch-first is_suite (suite_of (texts ++ z)) h.head qs s ss (eq-eqb (kind_of h.head) 2 h.kind)
    (each_on (λ r l. ne_eqb (kind_of r) 2 (λ e. let m = l.least in omega arith)) h.others) (suites-start hs) (h.suite z) (suites-read z hs)
