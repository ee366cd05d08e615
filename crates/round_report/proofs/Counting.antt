-- A report's rows and the records that it is read from are equally many. Assumes nothing.
use Prim.Native.Nat.{ℕ, suc, ◌+◌, ◌≤◌}
use mathlib.Core.Bool.{Bool, true, false, cond}
use mathlib.Core.List.{List, [], ◌∷◌, ◌++◌, map, append_assoc}
use mathlib.Core.Path.{◌≡◌, refl, sym, ap, subst, ◌∙◌}
use native.Mathlib.Omega.{arith}
use borrow.Author.Tests.{eqb-true}
use lib.Dec.{eqb}
use lib.ListN.{length, length-append, length-map}
use Rattle.round_rooms.specs.of_tree_status.declared.Tally.{Tally}
use Rattle.round_rooms.specs.of_tree_status.Status.{no_status, ruled}
use Rattle.round_rooms.specs.of_tree_report.Report.{Pair, failure, error, FlakyOrRerun, flaky, non_success, skipped, TestCase, TestSuite}
use Rattle.round_rooms.specs.of_tree_report.Fields.{kind_of, is_main, is_run, is_case_extra, is_case_property}
use Rattle.round_rooms.specs.of_tree_report.Encode.{Row, rows_of_each, pair_row_of, run_row, status_rows, case_rows, suite_rows}
use Rattle.round_rooms.specs.of_tree_report.Layout.{Open, may_end, following}
use Rattle.round_rooms.specs.of_tree_report.ReportOf.{only, pair_of, reason_of, run_of, kind_of_runs, status_of, case_of}
use Rattle.round_rooms.proofs.of_tree_report.EncodeLists.{and_left}
use Rattle.round_rooms.proofs.of_read_machine.TreeOrder.{kinds, kinds-append, only-kind, Path}
use Rattle.round_case.specs.of_round_elements.inside.Opened.{PairsShown, none, more as pair}
use Rattle.round_case.specs.of_round_elements.inside.Read.{CaseRecords}
use Rattle.round_report.proofs.Shown.{CasesShown, no-case, a_case, SuiteRecords, SuitesShown, no-suite, a-suite}
use Rattle.round_report.proofs.Order.{path-first, High, over, a-suite as suite-next, a_case as case-next, ends_there, sorted, sorts-count}
use Rattle.round_report.proofs.Walked.{Told, Below, walk-below, ruled-so}

-- ---- rows by their number
rows_append : (a b : List Row) → length (a ++ b) ≡ length a + length b
rows_append a b = length-append a b

runs-many : (text : List ℕ) (family : FlakyOrRerun) (rs : List (List ℕ)) → length (map (run_row family) (map (run_of text) rs)) ≡ length rs
runs-many text family rs = length-map (map (run_of text) rs) (run_row family) ∙ length-map rs (run_of text)

-- a status with one main at most, and with no runs where it is skipped
status-many : (text : List ℕ) (ms rs : List (List ℕ)) → length ms ≤ 1 → ((m : List ℕ) → ms ≡ m ∷ [] → kind_of m ≡ 8 → length rs ≡ 0) → length (status_rows (status_of text ms rs)) ≡ length ms + length rs
status-many text [] rs h k = let e = runs-many text flaky rs in omega arith
status-many text (m ∷ []) rs h k = go (eqb (kind_of m) 8) refl
  where
    go : (b : Bool) → eqb (kind_of m) 8 ≡ b
        → length (status_rows (cond b (skipped (reason_of text m)) (non_success (cond (eqb (kind_of m) 6) failure error) (reason_of text m) (kind_of_runs text m rs) (map (run_of text) rs)))) ≡ 1 + length rs
    go true e = let z = k m refl (eqb-true (kind_of m) 8 e) in omega arith
    go false e = let z = runs-many text (kind_of_runs text m rs) rs in omega arith
status-many text (m ∷ n ∷ ms) rs h k = absurd (omega arith)

-- ---- where a path goes on
record On (ks : List ℕ) (p : Open) : Type 0 where
  pub from : Open
  pub path : Path from ks p

pub cases-high : {texts : List ℕ} {rs : List (List ℕ)} {cs : List TestCase} (qs : List (List ℕ)) → CasesShown texts rs cs → High (kinds qs) → High (kinds (rs ++ qs))
cases-high qs no-case h = h
cases-high qs (a_case {rs = rs} {qs = rest} c cs) h =
    subst (λ (l : List (List ℕ)). High (kinds ((l ++ rest) ++ qs))) (sym c.whole) (subst (λ (k : ℕ). High (k ∷ kinds ((c.below ++ rest) ++ qs))) (sym c.kind) case-next)

suites-high : {texts : List ℕ} {rs : List (List ℕ)} {ss : List TestSuite} → SuitesShown texts rs ss → High (kinds rs)
suites-high no-suite = over
suites-high (a-suite {rs = rs} {qs = rest} s ss) =
    subst (λ (l : List (List ℕ)). High (kinds (l ++ rest))) (sym s.whole) (subst (λ (k : ℕ). High (k ∷ kinds (s.below ++ rest))) (sym s.kind) suite-next)

-- ---- a case
module _ {texts : List ℕ} {rs : List (List ℕ)} {c : TestCase} (h : CaseRecords texts rs c) (o p : Open) (ks : List ℕ) (high : High ks) (e : may_end p ≡ true) (w : Path o (kinds rs ++ ks) p) where
  opening : Path o (kind_of h.head ∷ (kinds h.below ++ ks)) p
  opening = subst (λ (l : List (List ℕ)). Path o (kinds l ++ ks) p) h.whole w

  inside : Path (following o (only-kind 3)) (kinds h.below ++ ks) p
  inside = (path-first (omega arith) (subst (λ (k : ℕ). Path o (k ∷ (kinds h.below ++ ks)) p) h.kind opening)).1

  walked : Below (following o (only-kind 3)) h.below ks p
  walked = walk-below (following o (only-kind 3)) ks p (sorted h.others) inside

  begun : (following o (only-kind 3)).tally ≡ no_status
  unfolding following
  begun = refl

  told : Told no_status h.below walked.to.tally
  told = subst (λ (t : Tally). Told t h.below walked.to.tally) begun walked.told

  rule : ruled walked.to.tally ≡ true
  unfolding may_end
  rule = and_left (ruled walked.to.tally) _ (ends_there high walked.path e)

  mains-one : length (only is_main h.below) ≤ 1
  mains-one = let q = (ruled-so walked.to.tally rule).0 in let m = told.mains in omega arith

  skipped-alone : (m : List ℕ) → only is_main h.below ≡ m ∷ [] → kind_of m ≡ 8 → length (only is_run h.below) ≡ 0
  skipped-alone m x y =
      let z = (ruled-so walked.to.tally rule).1 (told.one m x ∙ y) in
      let n = told.runs in
      omega arith

  abbrev shown : TestCase
  shown = case_of (texts ++ []) (record { head = h.head; below = h.below })

  same : shown ≡ c
  same = h.case []

  case-many : length rs ≡ length (case_rows c)
  case-many =
      let below = h.below in
      let a : length c.extra ≡ length (only is_case_extra below) = sym (ap (λ (x : TestCase). length x.extra) same) ∙ length-map (only is_case_extra below) (pair_of (texts ++ [])) in
      let b : length c.properties ≡ length (only is_case_property below) = sym (ap (λ (x : TestCase). length x.properties) same) ∙ length-map (only is_case_property below) (pair_of (texts ++ [])) in
      let d : length (status_rows c.status) ≡ length (only is_main below) + length (only is_run below) =
      sym (ap (λ (x : TestCase). length (status_rows x.status)) same) ∙ status-many (texts ++ []) (only is_main below) (only is_run below) mains-one skipped-alone in
      let n = sorts-count (sorted h.others) in
      let x = map (pair_row_of 14) c.extra in
      let y = map (pair_row_of 5) c.properties in
      let lx : length x ≡ length c.extra = length-map c.extra (pair_row_of 14) in
      let ly : length y ≡ length c.properties = length-map c.properties (pair_row_of 5) in
      let u : length (x ++ (y ++ status_rows c.status)) ≡ length x + length (y ++ status_rows c.status) = rows_append x (y ++ status_rows c.status) in
      let v : length (y ++ status_rows c.status) ≡ length y + length (status_rows c.status) = rows_append y (status_rows c.status) in
      ap length h.whole ∙ omega arith

  case-on : On ks p
  case-on = record { from = walked.to; path = walked.path }

-- ---- cases
record Counted (n m : ℕ) (ks : List ℕ) (p : Open) : Type 0 where
  pub many : n ≡ m
  pub on : On ks p

cases-count : {texts : List ℕ} {rs : List (List ℕ)} {cs : List TestCase} → CasesShown texts rs cs → (qs : List (List ℕ)) (o p : Open) → High (kinds qs) → may_end p ≡ true → Path o (kinds (rs ++ qs)) p
    → Counted (length rs) (length (rows_of_each case_rows cs)) (kinds qs) p
cases-count no-case qs o p g e w = record { many = refl; on = record { from = o; path = w } }
cases-count (a_case {rs = rs} {qs = rest} {c = c} {cs = cs} h hs) qs o p g e w =
    let v : Path o (kinds rs ++ kinds (rest ++ qs)) p = subst (λ (l : List ℕ). Path o l p) (ap kinds (append_assoc rs rest qs) ∙ kinds-append rs (rest ++ qs)) w in
    let top = cases-high qs hs g in
    let a = case-many h o p (kinds (rest ++ qs)) top e v in
    let b = case-on h o p (kinds (rest ++ qs)) top e v in
    let d = cases-count hs qs b.from p g e b.path in
    let l : length (rs ++ rest) ≡ length rs + length rest = length-append rs rest in
    let k : length (case_rows c ++ rows_of_each case_rows cs) ≡ length (case_rows c) + length (rows_of_each case_rows cs) = rows_append (case_rows c) (rows_of_each case_rows cs) in
    let m = d.many in
    record { many = omega arith; on = d.on }

-- ---- suites
pairs-many : {κ : ℕ} {texts : List ℕ} {rs : List (List ℕ)} {ps : List Pair} → PairsShown κ texts rs ps → length rs ≡ length ps
pairs-many none = refl
pairs-many (pair h hs) = ap suc (pairs-many hs)

pairs-past : {κ : ℕ} {texts : List ℕ} {rs : List (List ℕ)} {ps : List Pair} → κ ≤ 14 → PairsShown κ texts rs ps → (ks : List ℕ) (o p : Open) → Path o (kinds rs ++ ks) p → On ks p
pairs-past l none ks o p w = record { from = o; path = w }
pairs-past l (pair {r = r} h hs) ks o p w =
    let k = h.blank.kind in
    pairs-past l hs ks (following o (only-kind (kind_of r))) p (path-first (omega arith) w).1

module _ {texts : List ℕ} {rs : List (List ℕ)} {s : TestSuite} (h : SuiteRecords texts rs s) (qs : List (List ℕ))
    (o p : Open) (g : High (kinds qs)) (e : may_end p ≡ true) (w : Path o (kinds (rs ++ qs)) p) where
  abbrev extras : List (List ℕ)
  extras = h.parts.extras

  abbrev properties : List (List ℕ)
  properties = h.parts.properties

  abbrev rows : List (List ℕ)
  rows = h.parts.rows

  order_of_it : kinds (rs ++ qs) ≡ kind_of h.head ∷ (kinds extras ++ (kinds properties ++ kinds (rows ++ qs)))
  order_of_it =
      ap (λ (l : List (List ℕ)). kinds (l ++ qs)) (h.whole ∙ ap (λ (l : List (List ℕ)). h.head ∷ l) h.parts.whole)
      ∙ ap (λ (l : List ℕ). kind_of h.head ∷ l)
      (ap kinds (append_assoc extras (properties ++ rows) qs ∙ ap (λ (l : List (List ℕ)). extras ++ l) (append_assoc properties rows qs))
      ∙ kinds-append extras (properties ++ (rows ++ qs)) ∙ ap (λ (l : List ℕ). kinds extras ++ l) (kinds-append properties (rows ++ qs)))

  suite-count : Counted (length rs) (length (suite_rows s)) (kinds qs) p
  suite-count =
      let k = h.kind in
      let a = (path-first (omega arith) (subst (λ (l : List ℕ). Path o l p) order_of_it w)).1 in
      let b = pairs-past (omega arith) h.parts.extra (kinds properties ++ kinds (rows ++ qs)) (following o (only-kind (kind_of h.head))) p a in
      let d = pairs-past (omega arith) h.parts.pairs (kinds (rows ++ qs)) b.from p b.path in
      let f = cases-count h.parts.cases qs d.from p g e d.path in
      let x = map (pair_row_of 13) s.extra in
      let y = map (pair_row_of 4) s.properties in
      let z = rows_of_each case_rows s.cases in
      let lx : length x ≡ length s.extra = length-map s.extra (pair_row_of 13) in
      let ly : length y ≡ length s.properties = length-map s.properties (pair_row_of 4) in
      let mx = pairs-many h.parts.extra in
      let my = pairs-many h.parts.pairs in
      let mz = f.many in
      let u : length (x ++ (y ++ z)) ≡ length x + length (y ++ z) = rows_append x (y ++ z) in
      let v : length (y ++ z) ≡ length y + length z = rows_append y z in
      let t : length (extras ++ (properties ++ rows)) ≡ length extras + length (properties ++ rows) = length-append extras (properties ++ rows) in
      let q : length (properties ++ rows) ≡ length properties + length rows = length-append properties rows in
      record { many = ap length (h.whole ∙ ap (λ (l : List (List ℕ)). h.head ∷ l) h.parts.whole) ∙ omega arith; on = f.on }

pub suites-count : {texts : List ℕ} {rs : List (List ℕ)} {ss : List TestSuite} → SuitesShown texts rs ss
    → (o p : Open) → may_end p ≡ true → Path o (kinds rs) p → length rs ≡ length (rows_of_each suite_rows ss)
suites-count no-suite o p e w = refl
suites-count (a-suite {rs = rs} {qs = rest} {s = s} {ss = ss} h hs) o p e w =
    let a = suite-count h rest o p (suites-high hs) e w in
    let b = suites-count hs a.on.from p e a.on.path in
    let l : length (rs ++ rest) ≡ length rs + length rest = length-append rs rest in
    let k : length (suite_rows s ++ rows_of_each suite_rows ss) ≡ length (suite_rows s) + length (rows_of_each suite_rows ss) = rows_append (suite_rows s) (rows_of_each suite_rows ss) in
    let m = a.many in
    omega arith
