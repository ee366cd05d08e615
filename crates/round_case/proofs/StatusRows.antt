-- The status of a case, from the records of its status elements. Assumes nothing.
use Prim.Native.Nat.{ℕ}
use mathlib.Core.Bool.{Bool, true, false, cond, ◌&&◌, false≢true}
use mathlib.Core.List.{List, [], ◌∷◌, ◌++◌, map}
use mathlib.Core.Path.{◌≡◌, refl, ap, ap₂, ◌∙◌}
use lib.Dec.{leb, eqb}
use Rattle.round_elements.specs.of_tree_record.Bits as bit
use Rattle.round_elements.specs.of_tree_record.Kinds as kind
use Rattle.round_elements.specs.of_tree_report.Report.{NonSuccessKind, failure, error, FlakyOrRerun, flaky, rerun, TestRerun, Reason, TestCaseStatus, success, non_success, skipped}
use Rattle.round_elements.specs.of_tree_report.Encode.{every, kind_of_main, kind_of_run}
use Rattle.round_elements.specs.of_tree_report.Fields.{kind_of, has_bit, is_main, is_run}
use Rattle.round_elements.specs.of_tree_report.ReportOf.{only, reason_of, run_of, kind_of_runs, status_of}
use Rattle.round_elements.proofs.of_tree_report.EncodeLists.{both, Each, done, more as others, only-all, only-first, only-rest, only_none}
use Rattle.round_elements.specs.Plain.{is_ruled}
use Rattle.round_elements.specs.inside.Held.{MainHeld}
use Rattle.round_elements.proofs.Places.{lasting-more}
use Rattle.round_case.specs.inside.Kept.{RunWhole, RunsWhole, none, more, StatusWhole}

-- ---- by a run's kind
kind-back : (family : FlakyOrRerun) (k : NonSuccessKind) → cond (eqb (kind_of_run family k) 9) failure (cond (eqb (kind_of_run family k) 11) failure error) ≡ k
kind-back flaky failure = refl
kind-back flaky error = refl
kind-back rerun failure = refl
kind-back rerun error = refl

family-back : (family : FlakyOrRerun) (k : NonSuccessKind) → cond (leb (kind_of_run family k) 10) flaky rerun ≡ family
family-back flaky failure = refl
family-back flaky error = refl
family-back rerun failure = refl
family-back rerun error = refl

abbrev is_run_kind : ℕ → Bool
is_run_kind k = leb 9 k && leb k 12

abbrev is_main_kind : ℕ → Bool
is_main_kind k = leb 6 k && leb k 8

abbrev is_status_kind : ℕ → Bool
is_status_kind k = leb 6 k && leb k 12

run-kinds : (family : FlakyOrRerun) (k : NonSuccessKind) → (is_run_kind (kind_of_run family k) ≡ true) × (is_main_kind (kind_of_run family k) ≡ false) × (is_status_kind (kind_of_run family k) ≡ true)
run-kinds flaky failure = (refl, refl, refl)
run-kinds flaky error = (refl, refl, refl)
run-kinds rerun failure = (refl, refl, refl)
run-kinds rerun error = (refl, refl, refl)

-- ---- runs
module _ (family : FlakyOrRerun) {texts : List ℕ} where
  run-back : {e : TestRerun} {r : List ℕ} (z : List ℕ) → RunWhole family e texts r → run_of (texts ++ z) r ≡ e
  run-back {e} {r} z h =
      let k : cond (eqb (kind_of r) 9) failure (cond (eqb (kind_of r) 11) failure error) ≡ e.kind =
      ap (λ (n : ℕ). cond (eqb n 9) failure (cond (eqb n 11) failure error)) h.blank.kind ∙ kind-back family e.kind in
      λ i. record {
        kind = k i;
        timestamp = h.timestamp i;
        time = h.time i;
        message = h.message z i;
        type = h.type z i;
        stack_trace = h.stack_trace z i;
        system_out = h.out z i;
        system_err = h.err z i;
        description = h.description z i;
      }

  runs-back : {rs : List (List ℕ)} {es : List TestRerun} (z : List ℕ) → RunsWhole family texts rs es → map (run_of (texts ++ z)) rs ≡ es
  runs-back z none = refl
  runs-back z (more h hs) = ap₂ ◌∷◌ (run-back z h) (runs-back z hs)

  runs-test : (q : ℕ → Bool) (t : Bool) → ((k : NonSuccessKind) → q (kind_of_run family k) ≡ t)
      → {rs : List (List ℕ)} {es : List TestRerun} → RunsWhole family texts rs es → Each (λ r. q (kind_of r) ≡ t) rs
  runs-test q t f none = done
  runs-test q t f (more {e = e} h hs) = others (ap q h.blank.kind ∙ f e.kind) (runs-test q t f hs)

each-every : {A : Type 0} (p : A → Bool) {xs : List A} → Each (λ x. p x ≡ true) xs → every p xs ≡ true
each-every p done = refl
each-every p (others h hs) = both h (each-every p hs)

-- ---- a status
pub success-whole : {texts : List ℕ} {rs : List (List ℕ)} {runs : List TestRerun} → RunsWhole flaky texts rs runs → StatusWhole (success runs) texts rs
success-whole {texts} h =
    record {
      kinds = each-every (λ r. is_status_kind (kind_of r)) (runs-test flaky is_status_kind true (λ k. (run-kinds flaky k).2) h);
      status = λ z.
          ap₂ (status_of (texts ++ z)) (only_none is_main (runs-test flaky is_main_kind false (λ k. (run-kinds flaky k).1) h))
          (only-all is_run (runs-test flaky is_run_kind true (λ k. (run-kinds flaky k).0) h))
          ∙ ap success (runs-back flaky z h);
    }

reason-back : {κ : ℕ} {reason : Reason} {texts m : List ℕ} (z : List ℕ) → MainHeld κ reason reason.description texts m → reason_of (texts ++ z) m ≡ reason
reason-back z h = λ i. record { message = h.message z i; type = h.type z i; description = h.description z i }

runs-family : {family : FlakyOrRerun} {runs : List TestRerun} {texts : List ℕ} {rs : List (List ℕ)} (k : NonSuccessKind) (reason : Reason) (T m : List ℕ)
    → is_ruled (non_success k reason family runs) ≡ true
    → has_bit bit.flaky m ≡ false → RunsWhole family texts rs runs → kind_of_runs T m rs ≡ family
runs-family {family = flaky} k reason T m e f none = absurd (false≢true e)
runs-family {family = rerun} k reason T m e f none = rw f refl
runs-family {family = flaky} k reason T m e f (more {e = x} h hs) = ap (λ (n : ℕ). cond (leb n 10) flaky rerun) h.blank.kind ∙ family-back flaky x.kind
runs-family {family = rerun} k reason T m e f (more {e = x} h hs) = ap (λ (n : ℕ). cond (leb n 10) flaky rerun) h.blank.kind ∙ family-back rerun x.kind

main-read : (k : NonSuccessKind) (T m : List ℕ) (ms runs : List (List ℕ)) → kind_of m ≡ kind_of_main k → status_of T (m ∷ ms) runs ≡ non_success k (reason_of T m) (kind_of_runs T m runs) (map (run_of T) runs)
main-read failure T m ms runs e = rw e refl
main-read error T m ms runs e = rw e refl

main-kinds : (k : NonSuccessKind) → (is_run_kind (kind_of_main k) ≡ false) × (is_main_kind (kind_of_main k) ≡ true) × (is_status_kind (kind_of_main k) ≡ true)
main-kinds failure = (refl, refl, refl)
main-kinds error = (refl, refl, refl)

pub non_success-whole : {k : NonSuccessKind} {reason : Reason} {family : FlakyOrRerun} {runs : List TestRerun} {texts m : List ℕ} {rs : List (List ℕ)}
    → is_ruled (non_success k reason family runs) ≡ true
    → MainHeld (kind_of_main k) reason reason.description texts m → RunsWhole family texts rs runs → StatusWhole (non_success k reason family runs) texts (m ∷ rs)
non_success-whole {k} {reason} {family} {runs} {texts} {m} {rs} e h hs =
    let of : (q : ℕ → Bool) → q (kind_of m) ≡ q (kind_of_main k) = λ q. ap q h.blank.kind in
    record {
      kinds = both (of is_status_kind ∙ (main-kinds k).2) (each-every (λ r. is_status_kind (kind_of r)) (runs-test family is_status_kind true (λ x. (run-kinds family x).2) hs));
      status = λ z.
          let T : List ℕ = texts ++ z in
          let a = reason-back z h in
          let b = runs-family k reason T m e h.flaky hs in
          let c = runs-back family z hs in
          ap₂ (status_of T)
          (only-first is_main m rs (of is_main_kind ∙ (main-kinds k).1) ∙ ap (λ (l : List (List ℕ)). m ∷ l) (only_none is_main (runs-test family is_main_kind false (λ x. (run-kinds family x).1) hs)))
          (only-rest is_run m rs (of is_run_kind ∙ (main-kinds k).0) ∙ only-all is_run (runs-test family is_run_kind true (λ x. (run-kinds family x).0) hs))
          ∙ main-read k T m [] rs h.blank.kind
          ∙ (λ i. non_success k (a i) (b i) (c i));
    }

skipped-read : (T m : List ℕ) (ms runs : List (List ℕ)) → kind_of m ≡ 8 → status_of T (m ∷ ms) runs ≡ skipped (reason_of T m)
skipped-read T m ms runs e = rw e refl

pub skipped-whole : {reason : Reason} {texts m : List ℕ} → MainHeld kind.skipped reason reason.description texts m → StatusWhole (skipped reason) texts (m ∷ [])
skipped-whole {reason} {texts} {m} h =
    let e : kind_of m ≡ 8 = h.blank.kind in
    record {
      kinds = rw e refl;
      status = λ z.
          ap₂ (status_of (texts ++ z)) (only-first is_main m [] (ap is_main_kind e)) (only-rest is_run m [] (ap is_run_kind e))
          ∙ skipped-read (texts ++ z) m [] [] e ∙ ap skipped (reason-back z h);
    }

pub status-more : {st : TestCaseStatus} {rs : List (List ℕ)} (texts v : List ℕ) → StatusWhole st texts rs → StatusWhole st (texts ++ v) rs
status-more {rs = rs} texts v h = record { kinds = h.kinds; status = lasting-more texts v (λ t. status_of t (only is_main rs) (only is_run rs)) h.status }
