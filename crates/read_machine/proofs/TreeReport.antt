-- The report of records does not depend on what stands behind the texts. Assumes nothing.
use Prim.Native.Nat.{ℕ, zero, suc, ◌+◌, ◌≤◌}
use mathlib.Core.Bool.{Bool, true, false, cond, ◌&&◌}
use mathlib.Core.List.{List, [], ◌∷◌, ◌++◌, map}
use mathlib.Core.Option.{some}
use mathlib.Core.Path.{◌≡◌, refl, ap, ap₂, subst}
use native.Mathlib.Omega.{arith}
use borrow.Author.Tests.{leb-true, le-leb, eqb-true, ltb-true}
use lib.Dec.{leb, eqb, lit≤}
use lib.ListN.{length, get_or, take, drop}
use Rattle.text_pieces.specs.of_utf8.Characters.{boundary}
use Rattle.read_path.specs.of_tree_report.inside.Cells.{Cell, is_given, first_word, second_word, flags_of}
use Rattle.read_path.specs.of_tree_report.Fields.{kind_of, live, is_suite, is_case, is_main, is_run, has_bit, given, text_at, first, system_out}
use Rattle.read_path.specs.of_tree_report.Fields.{system_err, second, description, stack_trace, uuid, timestamp, time, counts, assertions}
use Rattle.read_path.specs.of_tree_report.Report.{failure, error, success, non_success, skipped}
use Rattle.read_path.specs.of_tree_report.ReportOf.{only, until, Branch, branches, pair_of, pairs_of_it, reason_of, run_of, kind_of_runs, status_of, case_of, suite_of, report_from}
use Rattle.read_path.proofs.of_tree_report.EncodeLists.{both, and_left, and_right, Each, done, more, each_on}
use Rattle.read_path.proofs.of_tree_report.EncodeCells.{bit-flag}
use Rattle.read_path.proofs.of_read_element.TreeSheet.{Sort, text, name, Fits, textless, placed, named, Middle, outputs, pair, InMiddle, two, full-value, good_at, Sorts, flags, rest, Sheet, sheet}
use Rattle.read_path.proofs.of_read_element.TreeGood.{Final}
use Rattle.read_path.proofs.of_read_element.TreeGood
use Rattle.read_machine.proofs.TreeKept.{Kept, alive, gone, sorts_of, kept_at, Status, status-bounds, status-of, status-first, status-second, status-third, status-outputs}

-- ---- a text that ends within the texts
part_same : (a n : ℕ) (s z : List ℕ) → a + n ≤ length s → take n (drop a (s ++ z)) ≡ take n (drop a s)
part_same zero zero s z h = refl
part_same zero (suc n) [] z h = absurd (omega arith)
part_same zero (suc n) (b ∷ s) z h = ap (λ (l : List ℕ). b ∷ l) (part_same zero n s z (omega arith))
part_same (suc a) n [] z h = absurd (omega arith)
part_same (suc a) n (b ∷ s) z h = part_same a n s z (omega arith)

good-same : (a n : ℕ) (s z : List ℕ) → good_at s a n ≡ true → take n (drop a (s ++ z)) ≡ take n (drop a s)
good-same a n s z g = part_same a n s z (leb-true (a + n) (length s) (and_left (leb (a + n) (length s)) (boundary s a && boundary s (a + n)) g))

module _ (texts z : List ℕ) where
  -- a record's text is the same with anything behind the texts
  abbrev SameText : List ℕ → ℕ → Type 0
  SameText r o = text_at (texts ++ z) r o ≡ text_at texts r o

  abbrev SameGiven : List ℕ → ℕ → ℕ → Type 0
  SameGiven r k o = given (has_bit k r) (text_at (texts ++ z) r o) ≡ given (has_bit k r) (text_at texts r o)

  placed_same : (r : List ℕ) (o : ℕ) (a n : ℕ) → good_at texts a n ≡ true → get_or r o 0 ≡ a → get_or r (o + 1) 0 ≡ n → SameText r o
  placed_same r o a n g p q = rw (p, q) (good-same a n texts z g)

  given-same : {c : Cell} (r : List ℕ) (k o : ℕ) → Fits texts text c → has_bit k r ≡ is_given c → get_or r o 0 ≡ first_word 0 c → get_or r (o + 1) 0 ≡ second_word c → SameGiven r k o
  given-same r k o textless b p q = rw b refl
  given-same r k o (placed {a = a} {n = n} g) b p q = ap (given (has_bit k r)) (placed_same r o a n g p q)

  as-text : {x : Sort} {c : Cell} → x ≡ text → Fits texts x c → Fits texts text c
  as-text {c = c} q p = subst (λ (s : Sort). Fits texts s c) q p

  -- the parts of a record
  first-same : {S : Sorts} {κ : ℕ} {r : List ℕ} → S.first ≡ text → Sheet S texts κ r → SameGiven r 0 2
  first-same {κ = κ} q (sheet a b c m d e f g h i j pa pb pt pe pf pg ph pi pj) =
      given-same (κ ∷ flags_of (flags a b c m d e f g i j) ∷ rest a b c m d e f g h i j) 0 2 (as-text q pa) (bit-flag 0 (flags a b c m d e f g i j)) refl refl

  second-same : {S : Sorts} {κ : ℕ} {r : List ℕ} → S.second ≡ text → Sheet S texts κ r → SameGiven r 5 18
  second-same {κ = κ} q (sheet a b c m d e f g h i j pa pb pt pe pf pg ph pi pj) =
      given-same (κ ∷ flags_of (flags a b c m d e f g i j) ∷ rest a b c m d e f g h i j) 5 18 (as-text q pe) (bit-flag 5 (flags a b c m d e f g i j)) refl refl

  third-same : {S : Sorts} {κ : ℕ} {r : List ℕ} → S.third ≡ text → Sheet S texts κ r → SameGiven r 6 20
  third-same {κ = κ} q (sheet a b c m d e f g h i j pa pb pt pe pf pg ph pi pj) =
      given-same (κ ∷ flags_of (flags a b c m d e f g i j) ∷ rest a b c m d e f g h i j) 6 20 (as-text q pf) (bit-flag 6 (flags a b c m d e f g i j)) refl refl

  fourth-same : {S : Sorts} {κ : ℕ} {r : List ℕ} → S.fourth ≡ text → Sheet S texts κ r → SameGiven r 7 22
  fourth-same {κ = κ} q (sheet a b c m d e f g h i j pa pb pt pe pf pg ph pi pj) =
      given-same (κ ∷ flags_of (flags a b c m d e f g i j) ∷ rest a b c m d e f g h i j) 7 22 (as-text q pg) (bit-flag 7 (flags a b c m d e f g i j)) refl refl

  seventh-same : {S : Sorts} {κ : ℕ} {r : List ℕ} → S.seventh ≡ text → Sheet S texts κ r → SameGiven r 10 28
  seventh-same {κ = κ} q (sheet a b c m d e f g h i j pa pb pt pe pf pg ph pi pj) =
      given-same (κ ∷ flags_of (flags a b c m d e f g i j) ∷ rest a b c m d e f g h i j) 10 28 (as-text q pj) (bit-flag 10 (flags a b c m d e f g i j)) refl refl

  named-same : {S : Sorts} {κ : ℕ} {r : List ℕ} → S.first ≡ name → Sheet S texts κ r → SameText r 2 × SameGiven r 0 2
  named-same {κ = κ} q (sheet a b c m d e f g h i j pa pb pt pe pf pg ph pi pj) =
      go (subst (λ (s : Sort). Fits texts s a) q pa) (κ ∷ flags_of (flags a b c m d e f g i j) ∷ rest a b c m d e f g h i j) refl refl
    where
      go : {x : Cell} → Fits texts name x → (r : List ℕ) → get_or r 2 0 ≡ first_word 0 x → get_or r 3 0 ≡ second_word x → SameText r 2 × SameGiven r 0 2
      go (named {a = u} {n = v} t) r p w = let e = placed_same r 2 u v t p w in (e, ap (given (has_bit 0 r)) e)

  outputs-same : {S : Sorts} {κ : ℕ} {r : List ℕ} → S.middle ≡ outputs → Sheet S texts κ r → SameGiven r 1 4 × SameGiven r 2 6
  outputs-same {κ = κ} q (sheet a b c m d e f g h i j pa pb pt pe pf pg ph pi pj) = go (subst (λ (s : Middle). InMiddle texts s b c) q pb)
      (κ ∷ flags_of (flags a b c m d e f g i j) ∷ rest a b c m d e f g h i j) (bit-flag 1 (flags a b c m d e f g i j)) refl refl (bit-flag 2 (flags a b c m d e f g i j)) refl refl
    where
      go : {x y : Cell} → InMiddle texts outputs x y → (r : List ℕ) → has_bit 1 r ≡ is_given x → get_or r 4 0 ≡ first_word 0 x → get_or r 5 0 ≡ second_word x
          → has_bit 2 r ≡ is_given y → get_or r 6 0 ≡ first_word 0 y → get_or r 7 0 ≡ second_word y → SameGiven r 1 4 × SameGiven r 2 6
      go (two u v) r p q s t w l = (given-same r 1 4 u p q s, given-same r 2 6 v t w l)

  value_same : {S : Sorts} {κ : ℕ} {r : List ℕ} → S.middle ≡ pair → Sheet S texts κ r → SameText r 4
  value_same {κ = κ} q (sheet a b c m d e f g h i j pa pb pt pe pf pg ph pi pj) =
      go (subst (λ (s : Middle). InMiddle texts s b c) q pb) (κ ∷ flags_of (flags a b c m d e f g i j) ∷ rest a b c m d e f g h i j) refl refl
    where
      go : {x y : Cell} → InMiddle texts pair x y → (r : List ℕ) → get_or r 4 0 ≡ first_word 0 x → get_or r 5 0 ≡ second_word x → SameText r 4
      go (full-value {a = u} {n = v} t) r p w = placed_same r 4 u v t p w

  -- every live record has a name, message or key, or none
  any-first : {κ : ℕ} {S : Sorts} {r : List ℕ} → Final κ S → Sheet S texts κ r → SameGiven r 0 2
  any-first TreeGood.report h = first-same refl h
  any-first TreeGood.suite h = (named-same refl h).1
  any-first TreeGood.case h = (named-same refl h).1
  any-first TreeGood.suite_property h = (named-same refl h).1
  any-first TreeGood.case_property h = (named-same refl h).1
  any-first TreeGood.failure h = first-same refl h
  any-first TreeGood.error h = first-same refl h
  any-first TreeGood.skipped h = first-same refl h
  any-first TreeGood.flaky_failure h = first-same refl h
  any-first TreeGood.flaky_error h = first-same refl h
  any-first TreeGood.rerun_failure h = first-same refl h
  any-first TreeGood.rerun_error h = first-same refl h
  any-first TreeGood.suite_extra h = (named-same refl h).1
  any-first TreeGood.case_extra h = (named-same refl h).1

  -- ---- by kind
  module _ {r : List ℕ} (k : Kept texts r) where
    pub pair-kind : (κ : ℕ) → κ ≤ 14 → (sorts_of κ).first ≡ name → (sorts_of κ).middle ≡ pair → eqb (kind_of r) κ ≡ true → pair_of (texts ++ z) r ≡ pair_of texts r
    pair-kind κ l p q e =
        let s = (kept_at κ l k (eqb-true (kind_of r) κ e)).1 in
        let x = (named-same p s).0 in
        let y = value_same q s in
        λ i. record { key = x i; value = y i }

    status-kind : (κ : ℕ) → kind_of r ≡ κ → Status κ → reason_of (texts ++ z) r ≡ reason_of texts r
    status-kind κ e st =
        let s = (kept_at κ (let b = (status-bounds st).1 in omega arith) k e).1 in
        let x = first-same (status-first st) s in
        let y = second-same (status-second st) s in
        let w = third-same (status-third st) s in
        λ i. record { message = x i; type = y i; description = w i }

    pub main-kind : is_main r ≡ true → reason_of (texts ++ z) r ≡ reason_of texts r
    main-kind e =
        let l = leb-true (kind_of r) 8 (and_right (leb 6 (kind_of r)) (leb (kind_of r) 8) e) in
        status-kind (kind_of r) refl (status-of (kind_of r) (both (and_left (leb 6 (kind_of r)) (leb (kind_of r) 8) e) (le-leb (kind_of r) 12 (omega arith))))

    pub run-kind : is_run r ≡ true → run_of (texts ++ z) r ≡ run_of texts r
    run-kind e =
        let nine = and_left (leb 9 (kind_of r)) (leb (kind_of r) 12) e in
        let h = leb-true 9 (kind_of r) nine in
        let st = status-of (kind_of r) (both (le-leb 6 (kind_of r) (omega arith)) (and_right (leb 9 (kind_of r)) (leb (kind_of r) 12) e)) in
        let s = (kept_at (kind_of r) (let b = (status-bounds st).1 in omega arith) k refl).1 in
        let x = first-same (status-first st) s in
        let y = second-same (status-second st) s in
        let w = third-same (status-third st) s in
        let u = fourth-same (status-outputs st nine).1 s in
        let o = outputs-same (status-outputs st nine).0 s in
        λ i. record {
          kind = cond (eqb (kind_of r) 9) failure (cond (eqb (kind_of r) 11) failure error);
          timestamp = timestamp r;
          time = time r;
          message = x i;
          type = y i;
          stack_trace = u i;
          system_out = o.0 i;
          system_err = o.1 i;
          description = w i;
        }

-- ---- lists
pub map_same : {A B : Type 0} (f g : A → B) {xs : List A} → Each (λ x. f x ≡ g x) xs → map f xs ≡ map g xs
map_same f g done = refl
map_same f g (more h hs) = ap₂ (λ a b. a ∷ b) h (map_same f g hs)

module _ {K : List ℕ → Type 0} (p : List ℕ → Bool) where
  only-each : {rs : List (List ℕ)} → Each K rs → Each (λ r. (p r ≡ true) × K r) (only p rs)
  only-each done = done
  only-each (more {x = r} {xs = rs} k ks) = go (p r) refl (only-each ks)
    where
      go : (t : Bool) → p r ≡ t → Each (λ r. (p r ≡ true) × K r) (only p rs) → Each (λ r. (p r ≡ true) × K r) (cond t (r ∷ only p rs) (only p rs))
      go true e h = more (e, k) h
      go false e h = h

  until-each : {rs : List (List ℕ)} → Each K rs → Each K (until p rs)
  until-each done = done
  until-each (more {x = r} {xs = rs} k ks) = go (p r) (until-each ks)
    where
      go : (t : Bool) → Each K (until p rs) → Each K (cond t [] (r ∷ until p rs))
      go true h = done
      go false h = more k h

  branches-each : {rs : List (List ℕ)} → Each K rs → Each (λ b. (p b.head ≡ true) × K b.head × Each K b.below) (branches p rs)
  branches-each done = done
  branches-each (more {x = r} {xs = rs} k ks) = go (p r) refl (branches-each ks)
    where
      go : (t : Bool) → p r ≡ t → Each (λ b. (p b.head ≡ true) × K b.head × Each K b.below) (branches p rs)
          → Each (λ b. (p b.head ≡ true) × K b.head × Each K b.below) (cond t (record { head = r; below = until p rs } ∷ branches p rs) (branches p rs))
      go true e h = more (e, k, until-each ks) h
      go false e h = h

-- ---- the report
module _ (texts z : List ℕ) where
  pairs-same : (κ : ℕ) → κ ≤ 14 → (sorts_of κ).first ≡ name → (sorts_of κ).middle ≡ pair → {rs : List (List ℕ)} → Each (Kept texts) rs
      → pairs_of_it (texts ++ z) (λ r. eqb (kind_of r) κ) rs ≡ pairs_of_it texts (λ r. eqb (kind_of r) κ) rs
  pairs-same κ l p q h = map_same (pair_of (texts ++ z)) (pair_of texts) (each_on (λ r e. pair-kind texts z e.1 κ l p q e.0) (only-each (λ r. eqb (kind_of r) κ) h))

  runs_same : {rs : List (List ℕ)} → Each (λ r. (is_run r ≡ true) × Kept texts r) rs → map (run_of (texts ++ z)) rs ≡ map (run_of texts) rs
  runs_same h = map_same (run_of (texts ++ z)) (run_of texts) (each_on (λ r e. run-kind texts z e.1 e.0) h)

  kinds-same : (m : List ℕ) (rs : List (List ℕ)) → kind_of_runs (texts ++ z) m rs ≡ kind_of_runs texts m rs
  kinds-same m [] = refl
  kinds-same m (r ∷ rs) = refl

  status-same : {ms rs : List (List ℕ)} → Each (λ r. (is_main r ≡ true) × Kept texts r) ms → Each (λ r. (is_run r ≡ true) × Kept texts r) rs → status_of (texts ++ z) ms rs ≡ status_of texts ms rs
  status-same done h = ap success (runs_same h)
  status-same {rs = rs} (more {x = m} e es) h =
      let p = main-kind texts z e.1 e.0 in
      let q = runs_same h in
      let k = kinds-same m rs in
      λ i. cond (eqb (kind_of m) 8) (skipped (p i)) (non_success (cond (eqb (kind_of m) 6) failure error) (p i) (k i) (q i))

  pub case_same : (b : Branch) → is_case b.head ≡ true → Kept texts b.head → Each (Kept texts) b.below → case_of (texts ++ z) b ≡ case_of texts b
  case_same b e k h =
      let s = (kept_at 3 (lit≤ tt) k (eqb-true (kind_of b.head) 3 e)).1 in
      let n = named-same texts z refl s in
      let c = second-same texts z refl s in
      let o = outputs-same texts z refl s in
      let st = status-same (only-each is_main h) (only-each is_run h) in
      let x = pairs-same 14 (lit≤ tt) refl refl h in
      let p = pairs-same 5 (lit≤ tt) refl refl h in
      λ i. record {
        name = n.0 i;
        classname = c i;
        assertions = assertions b.head;
        timestamp = timestamp b.head;
        time = time b.head;
        status = st i;
        system_out = o.0 i;
        system_err = o.1 i;
        extra = x i;
        properties = p i;
      }

  pub suite-same : (b : Branch) → is_suite b.head ≡ true → Kept texts b.head → Each (Kept texts) b.below → suite_of (texts ++ z) b ≡ suite_of texts b
  suite-same b e k h =
      let s = (kept_at 2 (lit≤ tt) k (eqb-true (kind_of b.head) 2 e)).1 in
      let n = named-same texts z refl s in
      let o = outputs-same texts z refl s in
      let v = seventh-same texts z refl s in
      let c = map_same (case_of (texts ++ z)) (case_of texts) (each_on (λ d q. case_same d q.0 q.1 q.2) (branches-each is_case h)) in
      let x = pairs-same 13 (lit≤ tt) refl refl h in
      let p = pairs-same 4 (lit≤ tt) refl refl h in
      λ i. record {
        name = n.0 i;
        counts = counts b.head;
        timestamp = timestamp b.head;
        time = time b.head;
        hostname = v i;
        cases = c i;
        properties = p i;
        system_out = o.0 i;
        system_err = o.1 i;
        extra = x i;
      }

  pub head-same : {r : List ℕ} → live r ≡ true → Kept texts r → first (texts ++ z) r ≡ first texts r
  head-same e (alive f h) = any-first texts z f h
  head-same {r} e (gone l a b) = absurd (let h = ltb-true (kind_of r) 16 e in omega arith)

  live_same : {rs : List (List ℕ)} → Each (λ r. (live r ≡ true) × Kept texts r) rs → report_from (texts ++ z) rs ≡ report_from texts rs
  live_same done = refl
  live_same (more {x = r} {xs = rs} k ks) =
      let n = head-same k.0 k.1 in
      let s = map_same (suite_of (texts ++ z)) (suite_of texts) (each_on (λ b q. suite-same b q.0 q.1 q.2) (branches-each is_suite (each_on (λ r q. q.1) ks))) in
      λ i. some (record { name = n i; uuid = uuid r; timestamp = timestamp r; time = time r; counts = counts r; suites = s i })

  pub report-same : {rs : List (List ℕ)} → Each (Kept texts) rs → report_from (texts ++ z) (only live rs) ≡ report_from texts (only live rs)
  report-same h = live_same (only-each live h)
