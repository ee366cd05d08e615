-- The records of a report stand in the order of a layout. Assumes nothing.
use Prim.Native.Nat.{ℕ, ◌+◌, ◌/◌, ◌%◌, ◌≤◌}
use mathlib.Core.Bool.{Bool, true, false, cond, not, ◌&&◌, ◌||◌, or-true}
use mathlib.Core.List.{List, [], ◌∷◌, ◌++◌, map, append_assoc, append-nil}
use mathlib.Core.Path.{◌≡◌, refl, sym, ap, ap₂, ◌∙◌}
use native.Mathlib.Omega.{arith}
use borrow.Author.Tests.{le-leb, eq-eqb, ne_eqb, lt-ltb, le-ltb}
use lib.Dec.{leb, ltb, eqb, lit≤}
use Rattle.schema.proofs.Tests.{bit-flag}
use Rattle.schema.specs.Schema as table
use Rattle.schema.specs.Records.{marks_from}
use Rattle.schema.specs.Elements as named
use Rattle.tree_report.specs.Encode.{Row, rows_of_each, pair_row_of, main_row, skipped_row, kind_of_main, kind_of_run, run_row, is_flaky_alone}
use Rattle.tree_report.specs.Encode.{status_rows, case_row, case_rows, suite_row, suite_rows, report_row, rows_of}
use Rattle.tree_report.specs.Fields.{kind_of, live, has_bit}
use Rattle.tree_report.specs.Layout.{Open, nothing, over, may_end, may_follow, following, good_order}
use Rattle.tree_report.specs.Report.{Text, Pair, NonSuccessKind, failure, error, FlakyOrRerun, flaky, rerun, TestRerun, Reason}
use Rattle.tree_report.specs.Report.{TestCaseStatus, success, non_success, skipped, TestCase, TestSuite, Report}
use Rattle.tree_status.specs.declared.Tally.{Tally}
use Rattle.tree_status.specs.Status.{no_status, tallied, ruled}
use Rattle.tree_report.proofs.EncodeKinds.{run-bounds, main-bounds}
use Rattle.tree_report.proofs.EncodeLists.{both, ended, beside, parts}
use Rattle.tree_report.proofs.EncodeShown.{Headed, Heads}
use Rattle.tree_report.proofs.EncodeReading.{main-flag}

-- ---- rows lead from where P is open to where Q is
pub record Leads (P : Open → Type 0) (rows : List Row) (Q : Open → Type 0) : Type 0 where
  pub on : (rs rest : List (List ℕ)) → Heads rows rs → ((o : Open) → Q o → good_order o rest ≡ true) → (o : Open) → P o → good_order o (rs ++ rest) ≡ true

-- one record may stand where o is open, and leaves Q open
pub record Step (o : Open) (r : List ℕ) (Q : Open → Type 0) : Type 0 where
  pub alive : live r ≡ true
  pub allowed : may_follow o r ≡ true
  pub leaves : Q (following o r)

order-step : (o : Open) (r : List ℕ) (rs : List (List ℕ)) → live r ≡ true → may_follow o r ≡ true → good_order (following o r) rs ≡ true → good_order o (r ∷ rs) ≡ true
unfolding good_order
order-step o r rs l m g = ap (λ (b : Bool). cond b (may_follow o r && good_order (following o r) rs) (good_order o rs)) l ∙ both m g

-- a row's record wherever P is open
abbrev Steps : (Open → Type 0) → Row → (Open → Type 0) → Type 0
Steps P row Q = (o : Open) (w : List ℕ) → Headed row w → P o → Step o w Q

leads-none : {P Q : Open → Type 0} → ((o : Open) → P o → Q o) → Leads P [] Q
leads-none {P} {Q} f = record { on = go }
  where
    go : (rs rest : List (List ℕ)) → Heads [] rs → ((o : Open) → Q o → good_order o rest ≡ true) → (o : Open) → P o → good_order o (rs ++ rest) ≡ true
    go (_ ∷ _) rest x5 k o p = elim x5 [ ]
    go [] rest ended k o p = k o (f o p)

leads-from : {P Q R : Open → Type 0} {rows : List Row} → ((o : Open) → P o → Q o) → Leads Q rows R → Leads P rows R
leads-from f l = record { on = λ rs rest h k o p. l.on rs rest h k o (f o p) }

leads-row : {P Q R : Open → Type 0} {row : Row} {rows : List Row} → Steps P row Q → Leads Q rows R → Leads P (row ∷ rows) R
leads-row {P} {Q} {R} {row} {rows} s l = record { on = go }
  where
    go : (rs rest : List (List ℕ)) → Heads (row ∷ rows) rs → ((o : Open) → R o → good_order o rest ≡ true) → (o : Open) → P o → good_order o (rs ++ rest) ≡ true
    go [] rest x3 k o p = elim x3 [ ]
    go (w ∷ rs) rest (beside h hs) k o p =
        let q = s o w h p in
        order-step o w (rs ++ rest) q.alive q.allowed (l.on rs rest hs k (following o w) q.leaves)

leads-append : {P Q R : Open → Type 0} {a b : List Row} → Leads P a Q → Leads Q b R → Leads P (a ++ b) R
leads-append {a = a} {b = b} l m = record {
  on = λ rs rest h k o p.
      let q = parts a b h in
      ap (λ (x : List (List ℕ)). good_order o (x ++ rest)) q.whole ∙ ap (good_order o) (append_assoc q.front q.back rest)
      ∙ l.on q.front (q.back ++ rest) q.first (λ u v. m.on q.back rest q.second k u v) o p;
}

module _ {A : Type 0} {Q : Open → Type 0} where
  leads-map : (f : A → Row) → ((x : A) → Steps Q (f x) Q) → (xs : List A) → Leads Q (map f xs) Q
  leads-map f s [] = leads-none (λ o q. q)
  leads-map f s (x ∷ xs) = leads-row (s x) (leads-map f s xs)

  leads-each : (f : A → List Row) → ((x : A) → Leads Q (f x) Q) → (xs : List A) → Leads Q (rows_of_each f xs) Q
  leads-each f s [] = leads-none (λ o q. q)
  leads-each f s (x ∷ xs) = leads-append (s x) (leads-each f s xs)

-- ---- what is open
-- an element of this level may follow
record Ready (n : ℕ) (o : Open) : Type 0 where
  level : n ≤ o.level
  ends : may_end o ≡ true

record InSuite (o : Open) : Type 0 where
  level : o.level ≡ 2
  list : leb o.suite_list_of 1 ≡ true
  ends : may_end o ≡ true

record AtSuite (o : Open) : Type 0 where
  inside : InSuite o
  extras : o.extras ≡ true

record InCase (o : Open) : Type 0 where
  level : o.level ≡ 3
  list : leb o.case_list 1 ≡ true
  tally : o.tally ≡ no_status
  flagged : o.flagged ≡ false

record AtCase (o : Open) : Type 0 where
  inside : InCase o
  extras : o.extras ≡ true

-- behind a main
abbrev one_main : ℕ → Tally
one_main kind = record { mains = 1; main = kind; flaky = 0; reruns = 0 }

record Behind (kind : ℕ) (is_flaky : Bool) (o : Open) : Type 0 where
  level : o.level ≡ 3
  tally : o.tally ≡ one_main kind
  flagged : o.flagged ≡ is_flaky

-- among runs of a family
abbrev Counted : FlakyOrRerun → Tally → Type 0
Counted flaky t = (t.mains ≤ 1) × (eqb t.main 8 ≡ false) × (t.reruns ≡ 0)
Counted rerun t = (t.mains ≡ 1) × (eqb t.main 8 ≡ false) × (t.flaky ≡ 0)

record Running (family : FlakyOrRerun) (o : Open) : Type 0 where
  level : o.level ≡ 3
  counted : Counted family o.tally
  flagged : o.flagged ≡ false

-- ---- one status element
abbrev behind_status : Open → List ℕ → Open
behind_status o r = record {
  level = 3;
  extras = false;
  suite_list_of = o.suite_list_of;
  case_list = over o.case_list;
  tally = tallied o.tally (kind_of r);
  flagged = o.flagged || has_bit 9 r;
}

status-step : (o : Open) (r : List ℕ) (Q : Open → Type 0) → 6 ≤ kind_of r → kind_of r ≤ 12 → o.level ≡ 3 → Q (behind_status o r) → Step o r Q
unfolding may_follow following
status-step o r Q l h e q =
    let k : ℕ = kind_of r in
    let not1 : eqb k 1 ≡ false = ne_eqb k 1 (λ z. omega arith) in
    let not2 : eqb k 2 ≡ false = ne_eqb k 2 (λ z. omega arith) in
    let not3 : eqb k 3 ≡ false = ne_eqb k 3 (λ z. omega arith) in
    let not4 : eqb k 4 ≡ false = ne_eqb k 4 (λ z. omega arith) in
    let not5 : eqb k 5 ≡ false = ne_eqb k 5 (λ z. omega arith) in
    let not13 : eqb k 13 ≡ false = ne_eqb k 13 (λ z. omega arith) in
    let not14 : eqb k 14 ≡ false = ne_eqb k 14 (λ z. omega arith) in
    record {
      alive = lt-ltb k 16 (omega arith);
      allowed = rw (not1, not2, not3, not13, not14, not4, not5) (eq-eqb o.level 3 e);
      leaves = rw (not1, not2, not3, not13, not14, not4, not5) q;
    }

-- ---- runs
not-and-left : (a b : Bool) → a ≡ false → not (a && b) ≡ true
not-and-left a b e = rw e refl

not-and_right : (a b : Bool) → b ≡ false → not (a && b) ≡ true
not-and_right true b e = rw e refl
not-and_right false b e = refl

counted-ruled : (family : FlakyOrRerun) (t : Tally) → Counted family t → ruled t ≡ true
unfolding ruled
counted-ruled flaky t (m, k, z) =
    let none : ltb 0 t.reruns ≡ false = le-ltb 0 t.reruns (omega arith) in
    both (le-leb t.mains 1 m)
    (both (not-and_right (eqb t.mains 0) (ltb 0 t.reruns) none)
    (both (not-and-left (eqb t.main 8) (ltb 0 (t.flaky + t.reruns)) k) (not-and_right (ltb 0 t.flaky) (ltb 0 t.reruns) none)))
counted-ruled rerun t (m, k, z) =
    both (le-leb t.mains 1 (omega arith))
    (both (not-and-left (eqb t.mains 0) (ltb 0 t.reruns) (ne_eqb t.mains 0 (λ e. omega arith)))
    (both (not-and-left (eqb t.main 8) (ltb 0 (t.flaky + t.reruns)) k) (not-and-left (ltb 0 t.flaky) (ltb 0 t.reruns) (le-ltb 0 t.flaky (omega arith)))))

running_ready : (family : FlakyOrRerun) (o : Open) → Running family o → Ready 2 o
unfolding may_end
running_ready family o r = record {
  level = let e = r.level in omega arith;
  ends = both (counted-ruled family o.tally r.counted) (rw r.flagged refl);
}

counted-on : (family : FlakyOrRerun) (k : NonSuccessKind) (t : Tally) → Counted family t → Counted family (tallied t (kind_of_run family k))
unfolding tallied
counted-on flaky failure t c = c
counted-on flaky error t c = c
counted-on rerun failure t c = c
counted-on rerun error t c = c

run_step : (family : FlakyOrRerun) (e : TestRerun) → Steps (Running family) (run_row family e) (Running family)
run_step family e o w h r =
    let b = run-bounds family e.kind in
    let k : kind_of w ≡ kind_of_run family e.kind = h.kind in
    let unflagged : has_bit 9 w ≡ false = ap (λ (n : ℕ). eqb (n / 512 % 2) 1) h.bits ∙ bit-flag 9 (marks_from Text 0 table.run (named.run_fields e)) in
    status-step o w (Running family) (let l = b.0 in omega (arith, k, l)) (let l = b.1 in omega (arith, k, l)) r.level
    (record { level = refl; counted = rw k (counted-on family e.kind o.tally r.counted); flagged = ap₂ ◌||◌ r.flagged unflagged })

leads-runs : (family : FlakyOrRerun) {P : Open → Type 0} → ((o : Open) → P o → Running family o) → (runs : List TestRerun) → Leads P (map (run_row family) runs) (Ready 2)
leads-runs family f [] = leads-none (λ o p. running_ready family o (f o p))
leads-runs family f (e ∷ runs) = leads-row {Q = Running family} (λ o w h p. run_step family e o w h (f o p)) (leads-runs family (λ o r. r) runs)

-- ---- a case's status elements
main-tally : (kind : ℕ) → kind ≤ 8 → tallied no_status kind ≡ one_main kind
unfolding tallied
main-tally kind h = rw (le-leb kind 8 h) refl

main-step : (kind : ℕ) → 6 ≤ kind → kind ≤ 8 → (is_flaky : Bool) (o : Open) (w : List ℕ) → kind_of w ≡ kind → has_bit 9 w ≡ is_flaky → InCase o → Step o w (Behind kind is_flaky)
main-step kind l h is_flaky o w k f c =
    status-step o w (Behind kind is_flaky) (omega (arith, k, l)) (omega (arith, k, h)) c.level
    (record { level = refl; tally = ap₂ tallied c.tally k ∙ main-tally kind h; flagged = ap₂ ◌||◌ c.flagged f })

non_success-step : (kind : NonSuccessKind) (is_flaky : Bool) (r : Reason) → Steps InCase (main_row kind is_flaky r) (Behind (kind_of_main kind) is_flaky)
non_success-step kind is_flaky r o w h c =
    let b = main-bounds kind in
    main-step (kind_of_main kind) b.0 (let l = b.1 in omega (arith, l)) is_flaky o w h.kind (main-flag kind is_flaky r w h) c

skipped-step : (r : Reason) → Steps InCase (skipped_row r) (Behind 8 false)
skipped-step r o w h c =
    main-step 8 (lit≤ tt) (lit≤ tt) false o w h.kind
    (ap (λ (n : ℕ). eqb (n / 512 % 2) 1) h.bits ∙ bit-flag 9 (marks_from Text 0 table.skipped (named.skipped_fields r))) c

one-ruled : (kind : ℕ) → ruled (one_main kind) ≡ true
unfolding ruled
one-ruled kind = rw (not-and_right (eqb kind 8) false refl) refl

-- a main without runs, flagged or not
ends-behind : (kind : ℕ) (is_flaky : Bool) (o : Open) → Behind kind is_flaky o → Ready 2 o
unfolding may_end
ends-behind kind is_flaky o b = record {
  level = let z = b.level in omega arith;
  ends = rw (b.tally, b.flagged) (both (one-ruled kind) (or-true (not is_flaky)));
}

runs-behind : (kind : NonSuccessKind) (family : FlakyOrRerun) (o : Open) → Behind (kind_of_main kind) false o → Running family o
runs-behind kind family o b = record { level = b.level; counted = rw b.tally (no-runs family); flagged = b.flagged }
  where
    not-skipped : eqb (kind_of_main kind) 8 ≡ false
    not-skipped = let h = (main-bounds kind).1 in ne_eqb (kind_of_main kind) 8 (λ e. omega arith)

    no-runs : (family : FlakyOrRerun) → Counted family (one_main (kind_of_main kind))
    no-runs flaky = (lit≤ tt, not-skipped, refl)
    no-runs rerun = (refl, not-skipped, refl)

in-case-running : (o : Open) → InCase o → Running flaky o
in-case-running o c = record { level = c.level; counted = rw c.tally (lit≤ tt, refl, refl); flagged = c.flagged }

leads-status : (s : TestCaseStatus) → Leads InCase (status_rows s) (Ready 2)
leads-status (success runs) = leads-runs flaky in-case-running runs
leads-status (non_success kind reason flaky []) =
    leads-row (non_success-step kind (is_flaky_alone flaky []) reason) (leads-none (ends-behind (kind_of_main kind) (is_flaky_alone flaky [])))
leads-status (non_success kind reason flaky (r ∷ runs)) =
    leads-row (non_success-step kind (is_flaky_alone flaky (r ∷ runs)) reason) (leads-runs flaky (runs-behind kind flaky) (r ∷ runs))
leads-status (non_success kind reason rerun runs) =
    leads-row (non_success-step kind (is_flaky_alone rerun runs) reason) (leads-runs rerun (runs-behind kind rerun) runs)
leads-status (skipped reason) = leads-row (skipped-step reason) (leads-none (ends-behind 8 false))

-- ---- a case
case-extra-step : (p : Pair) → Steps AtCase (pair_row_of 14 p) AtCase
unfolding may_follow following
case-extra-step p o w h c = record { alive = rw h.kind refl; allowed = rw h.kind (both (eq-eqb o.level 3 c.inside.level) c.extras); leaves = rw h.kind c }

case-property-step : (p : Pair) → Steps InCase (pair_row_of 5 p) InCase
unfolding may_follow following
case-property-step p o w h c = record {
  alive = rw h.kind refl;
  allowed = rw h.kind (both (eq-eqb o.level 3 c.level) c.list);
  leaves = rw h.kind (record { level = refl; list = refl; tally = c.tally; flagged = c.flagged });
}

case_step : (c : TestCase) → Steps (Ready 2) (case_row c) AtCase
unfolding may_follow following
case_step c o w h r = record {
  alive = rw h.kind refl;
  allowed = rw h.kind (both (le-leb 2 o.level r.level) r.ends);
  leaves = rw h.kind (record { inside = record { level = refl; list = refl; tally = refl; flagged = refl }; extras = refl });
}

leads-case : (c : TestCase) → Leads (Ready 2) (case_rows c) (Ready 2)
leads-case c =
    leads-row (case_step c)
    (leads-append (leads-map (pair_row_of 14) case-extra-step c.extra)
    (leads-append {P = AtCase} {Q = InCase} (leads-from (λ o a. a.inside) (leads-map (pair_row_of 5) case-property-step c.properties)) (leads-status c.status)))

-- ---- a suite
suite-extra-step : (p : Pair) → Steps AtSuite (pair_row_of 13 p) AtSuite
unfolding may_follow following
suite-extra-step p o w h s = record { alive = rw h.kind refl; allowed = rw h.kind (both (eq-eqb o.level 2 s.inside.level) s.extras); leaves = rw h.kind s }

suite-property-step : (p : Pair) → Steps InSuite (pair_row_of 4 p) InSuite
unfolding may_follow following may_end ruled
suite-property-step p o w h s = record {
  alive = rw h.kind refl;
  allowed = rw h.kind (both (le-leb 2 o.level (let e = s.level in omega arith)) (both s.ends s.list));
  leaves = rw h.kind (record { level = refl; list = refl; ends = refl });
}

suite-step : (s : TestSuite) → Steps (Ready 1) (suite_row s) AtSuite
unfolding may_follow following may_end ruled
suite-step s o w h r = record {
  alive = rw h.kind refl;
  allowed = rw h.kind (both (le-leb 1 o.level r.level) r.ends);
  leaves = rw h.kind (record { inside = record { level = refl; list = refl; ends = refl }; extras = refl });
}

leads-suite : (s : TestSuite) → Leads (Ready 1) (suite_rows s) (Ready 1)
leads-suite s =
    leads-row (suite-step s)
    (leads-append (leads-map (pair_row_of 13) suite-extra-step s.extra)
    (leads-append {P = AtSuite} {Q = InSuite} (leads-from (λ o a. a.inside) (leads-map (pair_row_of 4) suite-property-step s.properties)) (leads-via (leads-each case_rows leads-case s.cases))))
  where
    leads-via : {rows : List Row} → Leads (Ready 2) rows (Ready 2) → Leads InSuite rows (Ready 1)
    leads-via l = record {
      on = λ rs rest h k o s.
          l.on rs rest h (λ q r. k q (record { level = let e = r.level in omega arith; ends = r.ends })) o (record { level = let e = s.level in omega arith; ends = s.ends });
    }

-- ---- the whole
report-step : (r : Report) (w : List ℕ) → Headed (report_row r) w → Step nothing w (Ready 1)
unfolding may_follow following may_end ruled
report-step r w h = record { alive = rw h.kind refl; allowed = rw h.kind refl; leaves = rw h.kind (record { level = lit≤ tt; ends = refl }) }

-- a report's records pass the layout's test of order, wherever its texts stand
pub order-good : (r : Report) {rs : List (List ℕ)} → Heads (rows_of r) rs → good_order nothing rs ≡ true
unfolding good_order
order-good r (beside {y = w} {ys = rs} h hs) =
    let s = report-step r w h in
    let q = (leads-each suite_rows leads-suite r.suites).on rs [] hs (λ o e. both (le-leb 1 o.level e.level) e.ends) (following nothing w) s.leaves in
    order-step nothing w rs s.alive s.allowed (sym (ap (good_order (following nothing w)) (append-nil rs)) ∙ q)
