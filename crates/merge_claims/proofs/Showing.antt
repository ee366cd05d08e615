-- Records that are alike, one by one, show the same suites. Assumes nothing.
use Prim.Native.Nat.{ℕ}
use mathlib.Core.Path.{◌≡◌, refl, sym, ap}
use mathlib.Core.Bool.{Bool, true, false, cond, ◌&&◌, false≢true}
use mathlib.Core.List.{List, [], ◌∷◌, map}
use lib.Dec.{leb, eqb}
use Rattle.tree_merge.specs.of_schema.Elements as named
use Rattle.tree_merge.specs.of_tree_report.Report.{failure, error, flaky, rerun, success, non_success, skipped}
use Rattle.tree_merge.specs.of_tree_report.Fields.{kind_of, is_suite, is_suite_property, is_case_property, is_main, is_run, is_suite_extra, is_case_extra}
use Rattle.tree_merge.specs.of_tree_report.ReportOf.{only, until, Branch, branches, pair_of, pairs_of_it, reason_of, run_of, kind_of_runs, status_of, case_of, suite_of}
use Rattle.merge_claims.specs.inside.Pairs.{Pairs, ended, next}
use Rattle.merge_claims.specs.inside.Alike.{Alike}

-- ---- lists
pub map-pairs : {A B C : Type 0} {R : A → B → Type 0} (f : A → C) (g : B → C) → ((x : A) (y : B) → R x y → f x ≡ g y)
    → {xs : List A} {ys : List B} → Pairs R xs ys → map f xs ≡ map g ys
map-pairs f g e ended = refl
map-pairs f g e (next {x = x} {y = y} h hs) = let a = e x y h in let b = map-pairs f g e hs in λ i. a i ∷ b i

module _ (t u : List ℕ) (q : ℕ → Bool) where
  abbrev test : List ℕ → Bool
  test r = q (kind_of r)

  abbrev Chosen : List ℕ → List ℕ → Type 0
  Chosen r s = Alike t u r s × (test r ≡ true)

  -- an element and what stands below it
  abbrev Parts : Branch → Branch → Type 0
  Parts b c = Chosen b.head c.head × Pairs (Alike t u) b.below c.below

  only-pairs : {rs ss : List (List ℕ)} → Pairs (Alike t u) rs ss → Pairs Chosen (only test rs) (only test ss)
  only-pairs ended = ended
  only-pairs (next {x = r} {y = s} {xs = rs} {ys = ss} h hs) = go (test r) (test s) refl (ap q h.like.kind) (only-pairs hs)
    where
      go : (b c : Bool) → test r ≡ b → b ≡ c → Pairs Chosen (only test rs) (only test ss) → Pairs Chosen (cond b (r ∷ only test rs) (only test rs)) (cond c (s ∷ only test ss) (only test ss))
      go true true e f p = next (h, e) p
      go true false e f p = absurd (false≢true (sym f))
      go false true e f p = absurd (false≢true f)
      go false false e f p = p

  until-pairs : {rs ss : List (List ℕ)} → Pairs (Alike t u) rs ss → Pairs (Alike t u) (until test rs) (until test ss)
  until-pairs ended = ended
  until-pairs (next {x = r} {y = s} {xs = rs} {ys = ss} h hs) = go (test r) (test s) (ap q h.like.kind) (until-pairs hs)
    where
      go : (b c : Bool) → b ≡ c → Pairs (Alike t u) (until test rs) (until test ss) → Pairs (Alike t u) (cond b [] (r ∷ until test rs)) (cond c [] (s ∷ until test ss))
      go true true f p = ended
      go true false f p = absurd (false≢true (sym f))
      go false true f p = absurd (false≢true f)
      go false false f p = next h p

  branches-pairs : {rs ss : List (List ℕ)} → Pairs (Alike t u) rs ss → Pairs Parts (branches test rs) (branches test ss)
  branches-pairs ended = ended
  branches-pairs (next {x = r} {y = s} {xs = rs} {ys = ss} h hs) = go (test r) (test s) refl (ap q h.like.kind) (until-pairs hs) (branches-pairs hs)
    where
      go : (b c : Bool) → test r ≡ b → b ≡ c → Pairs (Alike t u) (until test rs) (until test ss) → Pairs Parts (branches test rs) (branches test ss)
          → Pairs Parts (cond b (record { head = r; below = until test rs } ∷ branches test rs) (branches test rs))
          (cond c (record { head = s; below = until test ss } ∷ branches test ss) (branches test ss))
      go true true e f p w = next ((h, e), p) w
      go true false e f p w = absurd (false≢true (sym f))
      go false true e f p w = absurd (false≢true f)
      go false false e f p w = w

module _ (t u : List ℕ) where
  -- ---- properties and extras
  suite-properties : {rs ss : List (List ℕ)} → Pairs (Alike t u) rs ss → pairs_of_it t is_suite_property rs ≡ pairs_of_it u is_suite_property ss
  suite-properties h = map-pairs (pair_of t) (pair_of u) (λ r s p. ap named.pair_of (p.0.suite_property p.1)) (only-pairs t u (λ k. eqb k 4) h)

  case-properties : {rs ss : List (List ℕ)} → Pairs (Alike t u) rs ss → pairs_of_it t is_case_property rs ≡ pairs_of_it u is_case_property ss
  case-properties h = map-pairs (pair_of t) (pair_of u) (λ r s p. ap named.pair_of (p.0.case_property p.1)) (only-pairs t u (λ k. eqb k 5) h)

  suite-extras : {rs ss : List (List ℕ)} → Pairs (Alike t u) rs ss → pairs_of_it t is_suite_extra rs ≡ pairs_of_it u is_suite_extra ss
  suite-extras h = map-pairs (pair_of t) (pair_of u) (λ r s p. ap named.pair_of (p.0.suite_extra p.1)) (only-pairs t u (λ k. eqb k 13) h)

  case-extras : {rs ss : List (List ℕ)} → Pairs (Alike t u) rs ss → pairs_of_it t is_case_extra rs ≡ pairs_of_it u is_case_extra ss
  case-extras h = map-pairs (pair_of t) (pair_of u) (λ r s p. ap named.pair_of (p.0.case_extra p.1)) (only-pairs t u (λ k. eqb k 14) h)

  -- ---- a status
  abbrev Mains : List ℕ → List ℕ → Type 0
  Mains r s = Alike t u r s × (is_main r ≡ true)

  abbrev Runs : List ℕ → List ℕ → Type 0
  Runs r s = Alike t u r s × (is_run r ≡ true)

  run-shown : (r s : List ℕ) → Runs r s → run_of t r ≡ run_of u s
  run-shown r s p =
      let k = p.0.like.kind in
      let f = p.0.run p.1 in
      λ i. named.run_of (cond (eqb (k i) 9) failure (cond (eqb (k i) 11) failure error)) (f i)

  family-shown : (m n : List ℕ) → Mains m n → {rs ss : List (List ℕ)} → Pairs Runs rs ss → kind_of_runs t m rs ≡ kind_of_runs u n ss
  family-shown m n p ended = ap (λ (b : Bool). cond b flaky rerun) p.0.like.flaky
  family-shown m n p (next h hs) = ap (λ (k : ℕ). cond (leb k 10) flaky rerun) h.0.like.kind

  status-shown : {ms ns rs ss : List (List ℕ)} → Pairs Mains ms ns → Pairs Runs rs ss → status_of t ms rs ≡ status_of u ns ss
  status-shown ended ps = ap success (map-pairs (run_of t) (run_of u) run-shown ps)
  status-shown (next {x = m} {y = n} h hs) ps =
      let k = h.0.like.kind in
      let reason : reason_of t m ≡ reason_of u n = ap named.skipped_of (h.0.main h.1) in
      let family = family-shown m n h ps in
      let runs = map-pairs (run_of t) (run_of u) run-shown ps in
      λ i. cond (eqb (k i) 8) (skipped (reason i)) (non_success (cond (eqb (k i) 6) failure error) (reason i) (family i) (runs i))

  -- ---- cases and suites
  case-shown : (b c : Branch) → Parts t u (λ k. eqb k 3) b c → case_of t b ≡ case_of u c
  case-shown b c p =
      let f = p.0.0.case p.0.1 in
      let s = status-shown (only-pairs t u (λ k. leb 6 k && leb k 8) p.1) (only-pairs t u (λ k. leb 9 k && leb k 12) p.1) in
      let e = case-extras p.1 in
      let l = case-properties p.1 in
      λ i. named.case_of (f i) (s i) (e i) (l i)

  suite-shown : (b c : Branch) → Parts t u (λ k. eqb k 2) b c → suite_of t b ≡ suite_of u c
  suite-shown b c p =
      let f = p.0.0.suite p.0.1 in
      let cases = map-pairs (case_of t) (case_of u) case-shown (branches-pairs t u (λ k. eqb k 3) p.1) in
      let l = suite-properties p.1 in
      let e = suite-extras p.1 in
      λ i. named.suite_of (f i) (cases i) (l i) (e i)

  pub suites-shown : {rs ss : List (List ℕ)} → Pairs (Alike t u) rs ss → map (suite_of t) (branches is_suite rs) ≡ map (suite_of u) (branches is_suite ss)
  suites-shown h = map-pairs (suite_of t) (suite_of u) suite-shown (branches-pairs t u (λ k. eqb k 2) h)
