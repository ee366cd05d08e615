-- The path of an order of records, along the records of a case. Assumes nothing.
use Prim.Native.Nat.{ℕ, suc, ◌+◌, ◌≤◌}
use mathlib.Core.Bool.{Bool, true, false, cond, not, ◌&&◌, false≢true}
use mathlib.Core.List.{List, [], ◌∷◌, ◌++◌}
use mathlib.Core.Path.{◌≡◌, refl, sym, ap, subst, ◌∙◌}
use native.Mathlib.Omega.{arith}
use borrow.Author.Tests.{leb-true, ltb-false, le-leb, lt-leb, eq-eqb, ne_eqb, not-true}
use lib.Dec.{leb, ltb, eqb}
use lib.ListN.{length}
use Rattle.round_rooms.specs.of_tree_status.declared.Tally.{Tally}
use Rattle.round_rooms.specs.of_tree_status.Status.{tallied, ruled}
use Rattle.round_rooms.specs.of_tree_report.Fields.{kind_of, is_main, is_run}
use Rattle.round_rooms.specs.of_tree_report.Layout.{Open, following}
use Rattle.round_rooms.specs.of_tree_report.ReportOf.{only}
use Rattle.round_rooms.proofs.of_tree_report.EncodeLists.{and_left, and_right, Each, done, more, only-first, only-rest}
use Rattle.round_rooms.proofs.of_read_machine.TreeOrder.{kinds, only-kind, Path}
use Rattle.round_report.proofs.Order.{path-first, Sorted, property, main, run, extra, tests-property, tests-main, tests-run, tests-extra}

-- ---- one record
quiet-property : (o : Open) (κ : ℕ) → κ ≡ 5 → (following o (only-kind κ)).tally ≡ o.tally
unfolding following
quiet-property o κ e = rw e refl

quiet-extra : (o : Open) (κ : ℕ) → κ ≡ 14 → (following o (only-kind κ)).tally ≡ o.tally
unfolding following
quiet-extra o κ e = rw e refl

status-told : (o : Open) (κ : ℕ) → 6 ≤ κ → κ ≤ 12 → (following o (only-kind κ)).tally ≡ tallied o.tally κ
unfolding following
status-told o κ a b =
    rw (
      ne_eqb κ 1 (λ e. omega arith),
      ne_eqb κ 2 (λ e. omega arith),
      ne_eqb κ 3 (λ e. omega arith),
      ne_eqb κ 13 (λ e. omega arith),
      ne_eqb κ 14 (λ e. omega arith),
      ne_eqb κ 4 (λ e. omega arith),
      ne_eqb κ 5 (λ e. omega arith),
    ) refl

abbrev runs_in : Tally → ℕ
runs_in t = t.flaky + t.reruns

main-told : (t : Tally) (κ : ℕ) → κ ≤ 8 → tallied t κ ≡ record { mains = suc t.mains; main = κ; flaky = t.flaky; reruns = t.reruns }
unfolding tallied
main-told t κ h = rw (le-leb κ 8 h) refl

abbrev flaky_more : Tally → Tally
flaky_more t = record { mains = t.mains; main = t.main; flaky = suc t.flaky; reruns = t.reruns }

abbrev rerun_more : Tally → Tally
rerun_more t = record { mains = t.mains; main = t.main; flaky = t.flaky; reruns = suc t.reruns }

-- one run more
record RunMore (t u : Tally) : Type 0 where
  pub mains : u.mains ≡ t.mains
  pub main : u.main ≡ t.main
  pub runs : runs_in u ≡ suc (runs_in t)

run-told : (t : Tally) (κ : ℕ) → 9 ≤ κ → RunMore t (tallied t κ)
unfolding tallied
run-told t κ h = subst (RunMore t)
    (sym (ap (λ (b : Bool). cond b (record { mains = suc t.mains; main = κ; flaky = t.flaky; reruns = t.reruns }) (cond (leb κ 10) (flaky_more t) (rerun_more t))) (lt-leb κ 8 h))) (go (leb κ 10))
  where
    go : (b : Bool) → RunMore t (cond b (flaky_more t) (rerun_more t))
    go true = record { mains = refl; main = refl; runs = omega arith }
    go false = record { mains = refl; main = refl; runs = omega arith }

-- ---- the tally behind records of a case
pub record Told (t : Tally) (rs : List (List ℕ)) (u : Tally) : Type 0 where
  pub mains : u.mains ≡ t.mains + length (only is_main rs)
  pub runs : runs_in u ≡ runs_in t + length (only is_run rs)
  pub none : only is_main rs ≡ [] → u.main ≡ t.main
  pub one : (m : List ℕ) → only is_main rs ≡ m ∷ [] → u.main ≡ kind_of m

module _ (t u : Tally) (r : List ℕ) (rs : List (List ℕ)) where
  told-quiet : is_main r ≡ false → is_run r ≡ false → Told t rs u → Told t (r ∷ rs) u
  told-quiet a b h =
      let m = only-rest is_main r rs a in
      let n = only-rest is_run r rs b in
      record {
        mains = h.mains ∙ ap (λ (l : List (List ℕ)). t.mains + length l) (sym m);
        runs = h.runs ∙ ap (λ (l : List (List ℕ)). runs_in t + length l) (sym n);
        none = λ e. h.none (sym m ∙ e);
        one = λ x e. h.one x (sym m ∙ e);
      }

  told-run : (v : Tally) → is_main r ≡ false → is_run r ≡ true → RunMore t v → Told v rs u → Told t (r ∷ rs) u
  told-run v a b w h =
      let m = only-rest is_main r rs a in
      let n : length (only is_run (r ∷ rs)) ≡ suc (length (only is_run rs)) = ap length (only-first is_run r rs b) in
      record {
        mains = h.mains ∙ ap (λ (k : ℕ). k + length (only is_main rs)) w.mains ∙ ap (λ (l : List (List ℕ)). t.mains + length l) (sym m);
        runs = (let x = h.runs in let y = w.runs in omega arith);
        none = λ e. h.none (sym m ∙ e) ∙ w.main;
        one = λ x e. h.one x (sym m ∙ e);
      }

  told-main : is_main r ≡ true → is_run r ≡ false → Told (record { mains = suc t.mains; main = kind_of r; flaky = t.flaky; reruns = t.reruns }) rs u → Told t (r ∷ rs) u
  told-main a b h =
      let m = only-first is_main r rs a in
      let l : length (only is_main (r ∷ rs)) ≡ suc (length (only is_main rs)) = ap length m in
      let n = only-rest is_run r rs b in
      record {
        mains = (let x = h.mains in omega arith);
        runs = h.runs ∙ ap (λ (l : List (List ℕ)). runs_in t + length l) (sym n);
        none = λ e. (let z : r ∷ only is_main rs ≡ [] = sym m ∙ e in let y : ◌≡◌ {A = ℕ} 0 1 = cc in absurd (omega arith));
        one = λ x e. (
            let z : r ∷ only is_main rs ≡ x ∷ [] = sym m ∙ e in
            let y : only is_main rs ≡ [] = cc in
            let w : r ≡ x = cc in
            h.none y ∙ ap kind_of w);
      }

pub record Below (o : Open) (rs : List (List ℕ)) (ks : List ℕ) (p : Open) : Type 0 where
  pub to : Open
  pub path : Path to ks p
  pub told : Told o.tally rs to.tally

told_none : (t : Tally) → Told t [] t
told_none t = record { mains = omega arith; runs = omega arith; none = λ e. refl; one = λ m e. (let z : ◌≡◌ {A = ℕ} 0 1 = cc in absurd (omega arith)) }

pub walk-below : {rs : List (List ℕ)} (o : Open) (ks : List ℕ) (p : Open) → Each Sorted rs → Path o (kinds rs ++ ks) p → Below o rs ks p
walk-below o ks p done w = record { to = o; path = w; told = told_none o.tally }
walk-below o ks p (more {x = r} {xs = rs} s hs) w = go s (λ q v. walk-below q ks p hs v)
  where
    go : Sorted r → ((q : Open) → Path q (kinds rs ++ ks) p → Below q rs ks p) → Below o (r ∷ rs) ks p
    go (property e) f =
        let t = tests-property r e in
        let b = f (following o (only-kind (kind_of r))) (path-first (omega arith) w).1 in
        record {
          to = b.to;
          path = b.path;
          told = told-quiet o.tally b.to.tally r rs t.main t.run (subst (λ (x : Tally). Told x rs b.to.tally) (quiet-property o (kind_of r) e) b.told);
        }
    go (extra e) f =
        let t = tests-extra r e in
        let b = f (following o (only-kind (kind_of r))) (path-first (omega arith) w).1 in
        record {
          to = b.to;
          path = b.path;
          told = told-quiet o.tally b.to.tally r rs t.main t.run (subst (λ (x : Tally). Told x rs b.to.tally) (quiet-extra o (kind_of r) e) b.told);
        }
    go (main x y) f =
        let t = tests-main r x y in
        let b = f (following o (only-kind (kind_of r))) (path-first (omega arith) w).1 in
        let e = status-told o (kind_of r) x (omega arith) ∙ main-told o.tally (kind_of r) y in
        record { to = b.to; path = b.path; told = told-main o.tally b.to.tally r rs t.main t.run (subst (λ (x : Tally). Told x rs b.to.tally) e b.told) }
    go (run x y) f =
        let t = tests-run r x y in
        let b = f (following o (only-kind (kind_of r))) (path-first (omega arith) w).1 in
        let e = status-told o (kind_of r) (omega arith) y in
        record {
          to = b.to;
          path = b.path;
          told = told-run o.tally b.to.tally r rs (tallied o.tally (kind_of r)) t.main t.run
              (run-told o.tally (kind_of r) x) (subst (λ (x : Tally). Told x rs b.to.tally) e b.told);
        }

-- ---- the rule
pub ruled-so : (t : Tally) → ruled t ≡ true → (t.mains ≤ 1) × (t.main ≡ 8 → runs_in t ≡ 0)
unfolding ruled
ruled-so t e =
    let a = eqb t.mains 0 && ltb 0 t.reruns in
    let b = eqb t.main 8 && ltb 0 (t.flaky + t.reruns) in
    let c = ltb 0 t.flaky && ltb 0 t.reruns in
    let q = and_right (leb t.mains 1) (not a && (not b && not c)) e in
    let z : b ≡ false = not-true b (and_left (not b) (not c) (and_right (not a) (not b && not c) q)) in (
      leb-true t.mains 1 (and_left (leb t.mains 1) (not a && (not b && not c)) e),
      λ h. go (ltb 0 (t.flaky + t.reruns)) refl (sym (ap (λ (x : Bool). x && ltb 0 (t.flaky + t.reruns)) (eq-eqb t.main 8 h)) ∙ z),
    )
  where
    go : (b : Bool) → ltb 0 (t.flaky + t.reruns) ≡ b → b ≡ false → runs_in t ≡ 0
    go true p q = absurd (false≢true (sym q))
    go false p q = let h = ltb-false 0 (t.flaky + t.reruns) p in omega arith
