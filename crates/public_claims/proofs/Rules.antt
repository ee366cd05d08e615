-- A case whose status elements the reader's tally accepts has the status that the rule gives for the list of them. Assumes nothing.
use Prim.Native.Nat.{ℕ, suc, ◌+◌, ◌≤◌, ◌<◌}
use mathlib.Core.Path.{◌≡◌, refl, sym, ap, ap₂, ◌∙◌}
use mathlib.Core.List.{List, [], ◌∷◌, ◌++◌}
use mathlib.Core.Bool.{Bool, true, false, cond, not, ◌&&◌}
use mathlib.Core.Option.{Option, none, some}
use native.Mathlib.Omega.{arith}
use borrow.Author.Tests.{le-leb, lt-leb, lt-ltb, leb-true, leb-false}
use lib.Dec.{eqb, leb, ltb}
use lib.ListN.{length}
use Rattle.list_text.specs.of_tree_report.Report.{Text, Duration}
use Rattle.read_report.specs.of_tree_status.declared.Tally.{Tally}
use Rattle.read_report.specs.of_tree_status.Status.{no_status, tallied, ruled}
use Rattle.list_text.specs.Listing.{Status, is_success, is_skipped, RunKind, no_kind, flaky_kind, rerun_kind, PublicRun}
use Rattle.public_claims.specs.inside.PublicMachine.{Node, main_node, run_node, mains_in, runs_in, run_codes_in, node_status, family_of, node_kind, node_runs, case_from}
use Rattle.public_claims.specs.OwnStatus.{verdict, mains, flakies, reruns, main_status, rule_for, rule, verdict_of}
use Rattle.public_claims.proofs.Acts.{impossible}

-- the nodes of status elements, with their codes
pub data Codes : List Node → List ℕ → Type 0 where
  no_code : Codes [] []
  main_code : {ns : List Node} {ks : List ℕ} (k : ℕ) → 6 ≤ k → k ≤ 8 → Codes ns ks → Codes (main_node k ∷ ns) (k ∷ ks)
  run-code : {ns : List Node} {ks : List ℕ} (k : ℕ) (t : Option Duration) → 9 ≤ k → k ≤ 12 → Codes ns ks → Codes (run_node k t ∷ ns) (k ∷ ks)

pub codes-append : {ns ms : List Node} {ks ls : List ℕ} → Codes ns ks → Codes ms ls → Codes (ns ++ ms) (ks ++ ls)
codes-append no_code d = d
codes-append (main_code k a b c) d = main_code k a b (codes-append c d)
codes-append (run-code k t a b c) d = run-code k t a b (codes-append c d)

-- ---- the tally of a list of codes
abbrev pub tally_from : Tally → List ℕ → Tally
tally_from t [] = t
tally_from t (k ∷ ks) = tally_from (tallied t k) ks

pub tally-append : (t : Tally) (ks : List ℕ) (k : ℕ) → tally_from t (ks ++ (k ∷ [])) ≡ tallied (tally_from t ks) k
tally-append t [] k = refl
tally-append t (x ∷ ks) k = tally-append (tallied t x) ks k

abbrev last_or : ℕ → List ℕ → ℕ
last_or d [] = d
last_or d (m ∷ ms) = last_or m ms

abbrev Flaky : List ℕ → Type 0
Flaky [] = Unit {0}
Flaky (k ∷ ks) = (leb k 10 ≡ true) × Flaky ks

abbrev Repeated : List ℕ → Type 0
Repeated [] = Unit {0}
Repeated (k ∷ ks) = (leb k 10 ≡ false) × Repeated ks

-- the tally u behind t, of mains ms, flaky runs fs and reruns rs, and what the nodes say of them
record Apart (t : Tally) (ns : List Node) (ms fs rs : List ℕ) (u : Tally) : Type 0 where
  mains-come : u.mains ≡ length ms + t.mains
  last-comes : u.main ≡ last_or t.main ms
  flaky-come : u.flaky ≡ length fs + t.flaky
  reruns-come : u.reruns ≡ length rs + t.reruns
  mainly : mains_in ns ≡ ms
  many : length (runs_in ns) ≡ length (run_codes_in ns)
  flaking : rs ≡ [] → run_codes_in ns ≡ fs
  repeating : fs ≡ [] → run_codes_in ns ≡ rs
  flaked : Flaky fs
  repeated : Repeated rs

nil_cons : {A : Type 0} (k : ℕ) (ks : List ℕ) → (k ∷ ks) ≡ [] → A
nil_cons k ks e = let z : suc (length ks) ≡ 0 = ap length e in absurd (omega arith)

module _ {t : Tally} {ns : List Node} {ms fs rs : List ℕ} {u : Tally} (k : ℕ) where
  apart-main : Apart (record { mains = suc t.mains; main = k; flaky = t.flaky; reruns = t.reruns }) ns ms fs rs u → Apart t (main_node k ∷ ns) (k ∷ ms) fs rs u
  apart-main g =
      record {
        mains-come = omega (arith, g.mains-come);
        last-comes = g.last-comes;
        flaky-come = g.flaky-come;
        reruns-come = g.reruns-come;
        mainly = ap (k ∷◌) g.mainly;
        many = g.many;
        flaking = g.flaking;
        repeating = g.repeating;
        flaked = g.flaked;
        repeated = g.repeated;
      }

  apart-flaky : (d : Option Duration) → leb k 10 ≡ true → Apart (record { mains = t.mains; main = t.main; flaky = suc t.flaky; reruns = t.reruns }) ns ms fs rs u →
      Apart t (run_node k d ∷ ns) ms (k ∷ fs) rs u
  apart-flaky d e g =
      record {
        mains-come = g.mains-come;
        last-comes = g.last-comes;
        flaky-come = omega (arith, g.flaky-come);
        reruns-come = g.reruns-come;
        mainly = g.mainly;
        many = ap suc g.many;
        flaking = λ z. ap (k ∷◌) (g.flaking z);
        repeating = λ z. nil_cons k fs z;
        flaked = (e, g.flaked);
        repeated = g.repeated;
      }

  apart-rerun : (d : Option Duration) → leb k 10 ≡ false → Apart (record { mains = t.mains; main = t.main; flaky = t.flaky; reruns = suc t.reruns }) ns ms fs rs u →
      Apart t (run_node k d ∷ ns) ms fs (k ∷ rs) u
  apart-rerun d e g =
      record {
        mains-come = g.mains-come;
        last-comes = g.last-comes;
        flaky-come = g.flaky-come;
        reruns-come = omega (arith, g.reruns-come);
        mainly = g.mainly;
        many = ap suc g.many;
        flaking = λ z. nil_cons k rs z;
        repeating = λ z. ap (k ∷◌) (g.repeating z);
        flaked = g.flaked;
        repeated = (e, g.repeated);
      }

abbrev ApartAll : Tally → List Node → List ℕ → Type 0
ApartAll t ns ks = Apart t ns (mains ks) (flakies ks) (reruns ks) (tally_from t ks)

module _ (t : Tally) (ns : List Node) (ks : List ℕ) (k : ℕ) (h : (t : Tally) → ApartAll t ns ks) where
  all-main : 6 ≤ k → k ≤ 8 → ApartAll t (main_node k ∷ ns) (k ∷ ks)
  unfolding tallied
  all-main a b = rw (le-leb k 8 b, lt-leb 9 k (omega arith), lt-leb 11 k (omega arith)) (apart-main k (h _))

  all-flaky : (d : Option Duration) → 9 ≤ k → leb k 10 ≡ true → ApartAll t (run_node k d ∷ ns) (k ∷ ks)
  unfolding tallied
  all-flaky d a e = rw (lt-leb k 8 a, le-leb 9 k a, lt-leb 11 k (let z : k ≤ 10 = leb-true k 10 e in omega arith), e) (apart-flaky k d e (h _))

  all-rerun : (d : Option Duration) → 9 ≤ k → leb k 10 ≡ false → ApartAll t (run_node k d ∷ ns) (k ∷ ks)
  unfolding tallied
  all-rerun d a e = rw (lt-leb k 8 a, le-leb 9 k a, le-leb 11 k (leb-false k 10 e), e) (apart-rerun k d e (h _))

  all-run : (d : Option Duration) → 9 ≤ k → ApartAll t (run_node k d ∷ ns) (k ∷ ks)
  all-run d a = go (leb k 10) refl
    where
      go : (x : Bool) → leb k 10 ≡ x → ApartAll t (run_node k d ∷ ns) (k ∷ ks)
      go true e = all-flaky d a e
      go false e = all-rerun d a e

apart : {ns : List Node} {ks : List ℕ} → Codes ns ks → (t : Tally) → ApartAll t ns ks
apart no_code t =
    record {
      mains-come = omega arith;
      last-comes = refl;
      flaky-come = omega arith;
      reruns-come = omega arith;
      mainly = refl;
      many = refl;
      flaking = λ e. refl;
      repeating = λ e. refl;
      flaked = tt;
      repeated = tt;
    }
apart (main_code {ns = ns} {ks = ks} k a b c) t = all-main t ns ks k (apart c) a b
apart (run-code {ns = ns} {ks = ks} k d a b c) t = all-run t ns ks k (apart c) d a

-- ---- the rule
-- the tally's test, in the lists
abbrev RuledBy : List ℕ → List ℕ → List ℕ → Bool
RuledBy ms fs rs =
    leb (length ms) 1
    && (not (eqb (length ms) 0 && ltb 0 (length rs))
    && (not (eqb (last_or 0 ms) 8 && ltb 0 (length fs + length rs))
    && not (ltb 0 (length fs) && ltb 0 (length rs))))

tally-ruled : (ms fs rs : List ℕ) (ns : List Node) (u : Tally) → Apart no_status ns ms fs rs u → ruled u ≡ RuledBy ms fs rs
unfolding ruled
tally-ruled ms fs rs ns u a =
    let m : u.mains ≡ length ms = omega (arith, a.mains-come) in
    let f : u.flaky ≡ length fs = omega (arith, a.flaky-come) in
    let r : u.reruns ≡ length rs = omega (arith, a.reruns-come) in
    rw (m, f, r, a.last-comes)

some_left : (n : ℕ) → ltb 0 (suc n) ≡ true
some_left n = lt-ltb 0 (suc n) (omega arith)

skip-no : (b x : Bool) → (not (b && true) && x) ≡ true → b ≡ false
skip-no true x e = impossible e
skip-no false x e = refl

last-no : (x : Bool) → (x && false) ≡ true → false ≡ true
last-no true e = e
last-no false e = e

no_main : (r : ℕ) (fs rs : List ℕ) → RuledBy [] fs (r ∷ rs) ≡ true → false ≡ true
no_main r fs rs h = rw (some_left (length rs)) at h

two-mains : (m k : ℕ) (ms fs rs : List ℕ) → RuledBy (m ∷ k ∷ ms) fs rs ≡ true → false ≡ true
two-mains m k ms fs rs h = rw (lt-leb (suc (suc (length ms))) 1 (omega arith)) at h

-- a main with runs isn't `skipped`
not-skipped : (m : ℕ) (fs rs : List ℕ) → 0 < length fs + length rs → RuledBy (m ∷ []) fs rs ≡ true → eqb m 8 ≡ false
not-skipped m fs rs l h = skip-no (eqb m 8) (not (ltb 0 (length fs) && ltb 0 (length rs))) (rw (lt-ltb 0 (length fs + length rs) l) at h)

both-families : (m f r : ℕ) (fs rs : List ℕ) → RuledBy (m ∷ []) (f ∷ fs) (r ∷ rs) ≡ true → false ≡ true
both-families m f r fs rs h = last-no (not (eqb m 8 && ltb 0 (length (f ∷ fs) + length (r ∷ rs)))) (rw (some_left (length fs), some_left (length rs)) at h)

module _ (ns : List Node) where
  -- what is listed is what the rule gives
  abbrev Told : List ℕ → List ℕ → List ℕ → Type 0
  Told ms fs rs = rule_for ms fs rs ≡ some (verdict (node_status ms) (node_kind ms (run_codes_in ns)) (length (node_runs ms (runs_in ns))))

  told-alone : (m : ℕ) → run_codes_in ns ≡ [] → length (runs_in ns) ≡ 0 → Told (m ∷ []) [] []
  told-alone m e l = go (eqb m 8) (main_status m) (runs_in ns) (run_codes_in ns) e l
    where
      go : (b : Bool) (q : Status) (rs : List PublicRun) (ks : List ℕ) → ks ≡ [] → length rs ≡ 0 →
          some (cond b (verdict is_skipped no_kind 0) (verdict q rerun_kind 0)) ≡ some (verdict (cond b is_skipped q) (cond b no_kind (family_of ks)) (length (cond b [] rs)))
      go true q rs ks e l = refl
      go false q rs ks e l = ap₂ (λ (x : List ℕ) (y : ℕ). some (verdict q (family_of x) y)) (sym e) (sym l)

  told-runs : (m : ℕ) (κ : RunKind) (j : ℕ) → eqb m 8 ≡ false → family_of (run_codes_in ns) ≡ κ → length (runs_in ns) ≡ j →
      cond (eqb m 8) none (some (verdict (main_status m) κ j)) ≡ some (verdict (node_status (m ∷ [])) (node_kind (m ∷ []) (run_codes_in ns)) (length (node_runs (m ∷ []) (runs_in ns))))
  told-runs m κ j e f l = go (eqb m 8) e (main_status m) (runs_in ns) l
    where
      go : (b : Bool) → b ≡ false → (q : Status) (rs : List PublicRun) → length rs ≡ j →
          cond b none (some (verdict q κ j)) ≡ some (verdict (cond b is_skipped q) (cond b no_kind (family_of (run_codes_in ns))) (length (cond b [] rs)))
      go true e q rs l = impossible (sym e)
      go false e q rs l = ap₂ (λ (x : RunKind) (y : ℕ). some (verdict q x y)) (sym f) (sym l)

  told : (ms fs rs : List ℕ) (u : Tally) → Apart no_status ns ms fs rs u → RuledBy ms fs rs ≡ true → Told ms fs rs
  told [] fs [] u a h = ap (λ (x : ℕ). some (verdict is_success flaky_kind x)) (sym (a.many ∙ ap length (a.flaking refl)))
  told [] fs (r ∷ rs) u a h = impossible (no_main r fs rs h)
  told (m ∷ []) [] [] u a h = told-alone m (a.flaking refl) (a.many ∙ ap length (a.flaking refl))
  told (m ∷ []) (f ∷ fs) [] u a h =
      told-runs m flaky_kind (length (f ∷ fs)) (not-skipped m (f ∷ fs) [] (omega arith) h)
      (ap family_of (a.flaking refl) ∙ ap (λ (b : Bool). cond b flaky_kind rerun_kind) a.flaked.0) (a.many ∙ ap length (a.flaking refl))
  told (m ∷ []) [] (r ∷ rs) u a h =
      told-runs m rerun_kind (length (r ∷ rs)) (not-skipped m [] (r ∷ rs) (omega arith) h)
      (ap family_of (a.repeating refl) ∙ ap (λ (b : Bool). cond b flaky_kind rerun_kind) a.repeated.0) (a.many ∙ ap length (a.repeating refl))
  told (m ∷ []) (f ∷ fs) (r ∷ rs) u a h = impossible (both-families m f r fs rs h)
  told (m ∷ k ∷ ms) fs rs u a h = impossible (two-mains m k ms fs rs h)

-- a case with these status elements, where the tally accepts them
pub case-told : (n : Text) (c : Option Text) (t : Option Duration) {ns : List Node} {ks : List ℕ} → Codes ns ks → ruled (tally_from no_status ks) ≡ true →
    rule ks ≡ some (verdict_of (case_from n c t ns))
unfolding rule
case-told n c t {ns} {ks} d h =
    let a : ApartAll no_status ns ks = apart d no_status in
    told ns (mains ks) (flakies ks) (reruns ks) (tally_from no_status ks) a (sym (tally-ruled (mains ks) (flakies ks) (reruns ks) ns (tally_from no_status ks) a) ∙ h)
    ∙ ap (λ (ms : List ℕ). some (verdict (node_status ms) (node_kind ms (run_codes_in ns)) (length (node_runs ms (runs_in ns))))) (sym a.mainly)
