-- The status elements that a case is written with keep the status rule. Assumes nothing.
use Prim.Native.Nat.{ℕ}
use mathlib.Core.Bool.{true, not, and-false}
use mathlib.Core.List.{List, [], ◌∷◌}
use mathlib.Core.Path.{◌≡◌, refl, ap, ◌∙◌}
use lib.Dec.{ltb}
use Rattle.round_elements.specs.of_tree_status.declared.Tally.{Tally}
use Rattle.round_elements.specs.of_tree_status.Status.{no_status, tallied, ruled}
use Rattle.round_elements.specs.of_tree_report.Report.{NonSuccessKind, failure, error, FlakyOrRerun, flaky, rerun, TestRerun, TestCaseStatus, success, non_success, skipped}
use Rattle.round_elements.specs.of_tree_report.Encode.{kind_of_main, kind_of_run}
use Rattle.round_case.specs.inside.Kept.{runs_tally, status_tally}

-- the count of the other family
abbrev other : FlakyOrRerun → Tally → ℕ
other flaky t = t.reruns
other rerun t = t.flaky

record Stays (family : FlakyOrRerun) (t u : Tally) : Type 0 where
  mains : u.mains ≡ t.mains
  main : u.main ≡ t.main
  other : other family u ≡ other family t

run-stays : (family : FlakyOrRerun) (k : NonSuccessKind) (t : Tally) → Stays family t (tallied t (kind_of_run family k))
unfolding tallied
run-stays flaky failure t = record { mains = refl; main = refl; other = refl }
run-stays flaky error t = record { mains = refl; main = refl; other = refl }
run-stays rerun failure t = record { mains = refl; main = refl; other = refl }
run-stays rerun error t = record { mains = refl; main = refl; other = refl }

runs-stay : (family : FlakyOrRerun) (es : List TestRerun) (t : Tally) → Stays family t (runs_tally family es t)
runs-stay family [] t = record { mains = refl; main = refl; other = refl }
runs-stay family (e ∷ es) t =
    let u : Tally = tallied t (kind_of_run family e.kind) in
    let a = run-stays family e.kind t in
    let b = runs-stay family es u in
    record { mains = b.mains ∙ a.mains; main = b.main ∙ a.main; other = b.other ∙ a.other }

-- flaky runs alone
flaky-ruled : (t : Tally) → t.mains ≡ 0 → t.main ≡ 0 → t.reruns ≡ 0 → ruled t ≡ true
unfolding ruled
flaky-ruled t a b c = rw (a, b, c) (ap not (and-false (ltb 0 t.flaky)))

-- one main that isn't `skipped`, and runs of one family
main-ruled : (family : FlakyOrRerun) (k : NonSuccessKind) (t : Tally) → t.mains ≡ 1 → t.main ≡ kind_of_main k → other family t ≡ 0 → ruled t ≡ true
unfolding ruled
main-ruled flaky failure t a b c = rw (a, b, c) (ap not (and-false (ltb 0 t.flaky)))
main-ruled flaky error t a b c = rw (a, b, c) (ap not (and-false (ltb 0 t.flaky)))
main-ruled rerun failure t a b c = rw (a, b, c) refl
main-ruled rerun error t a b c = rw (a, b, c) refl

first-main : (k : NonSuccessKind) (family : FlakyOrRerun)
    → ((tallied no_status (kind_of_main k)).mains ≡ 1) × ((tallied no_status (kind_of_main k)).main ≡ kind_of_main k) × (other family (tallied no_status (kind_of_main k)) ≡ 0)
unfolding tallied
first-main failure flaky = (refl, refl, refl)
first-main failure rerun = (refl, refl, refl)
first-main error flaky = (refl, refl, refl)
first-main error rerun = (refl, refl, refl)

skipped-ruled : ruled (tallied no_status 8) ≡ true
unfolding ruled tallied
skipped-ruled = refl

pub status-ruled : (st : TestCaseStatus) → ruled (status_tally st) ≡ true
status-ruled (success runs) = let a = runs-stay flaky runs no_status in flaky-ruled (runs_tally flaky runs no_status) a.mains a.main a.other
status-ruled (non_success k reason family runs) =
    let t : Tally = tallied no_status (kind_of_main k) in
    let a = runs-stay family runs t in
    let b = first-main k family in
    main-ruled family k (runs_tally family runs t) (a.mains ∙ b.0) (a.main ∙ b.1) (a.other ∙ b.2)
status-ruled (skipped reason) = skipped-ruled
