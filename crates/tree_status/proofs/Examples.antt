-- The status rule (rules S6 to S9): cases by the kinds of their status elements. Assumes nothing.
use Prim.Native.Nat.{ℕ}
use mathlib.Core.Bool.{true, false}
use mathlib.Core.List.{List, [], ◌∷◌}
use mathlib.Core.Path.{◌≡◌, refl}
use Rattle.tree_record.specs.Kinds.{failure, error, skipped, flaky_failure, flaky_error, rerun_failure, rerun_error}
use Rattle.tree_status.specs.declared.Tally.{Tally}
use Rattle.tree_status.specs.Status.{no_status, tallied, ruled}

abbrev tally_from : Tally → List ℕ → Tally
tally_from t [] = t
tally_from t (k ∷ ks) = tally_from (tallied t k) ks

abbrev tally_of : List ℕ → Tally
tally_of ks = tally_from no_status ks

all_kinds : tally_of (rerun_error ∷ failure ∷ flaky_failure ∷ flaky_error ∷ rerun_failure ∷ error ∷ rerun_error ∷ []) ≡ record { mains = 2; main = error; flaky = 2; reruns = 3 }
unfolding tallied
all_kinds = refl

skipped-main : tally_of (skipped ∷ []) ≡ record { mains = 1; main = skipped; flaky = 0; reruns = 0 }
unfolding tallied
skipped-main = refl

-- accepted: none, a main alone, flaky runs alone, a failure or error with runs of one family, in any order
none-ruled : ruled (tally_of []) ≡ true
unfolding ruled
none-ruled = refl

failure-ruled : ruled (tally_of (failure ∷ [])) ≡ true
unfolding tallied ruled
failure-ruled = refl

skipped-ruled : ruled (tally_of (skipped ∷ [])) ≡ true
unfolding tallied ruled
skipped-ruled = refl

flaky-ruled : ruled (tally_of (flaky_failure ∷ flaky_error ∷ [])) ≡ true
unfolding tallied ruled
flaky-ruled = refl

reruns-ruled : ruled (tally_of (rerun_failure ∷ error ∷ rerun_error ∷ [])) ≡ true
unfolding tallied ruled
reruns-ruled = refl

failure-flaky-ruled : ruled (tally_of (failure ∷ flaky_error ∷ [])) ≡ true
unfolding tallied ruled
failure-flaky-ruled = refl

-- refused: two mains, reruns alone, `skipped` with runs, both families
two-mains : ruled (tally_of (failure ∷ error ∷ [])) ≡ false
unfolding tallied ruled
two-mains = refl

reruns-alone : ruled (tally_of (rerun_failure ∷ [])) ≡ false
unfolding tallied ruled
reruns-alone = refl

skipped-flaky : ruled (tally_of (skipped ∷ flaky_failure ∷ [])) ≡ false
unfolding tallied ruled
skipped-flaky = refl

skipped-rerun : ruled (tally_of (skipped ∷ rerun_error ∷ [])) ≡ false
unfolding tallied ruled
skipped-rerun = refl

both-families : ruled (tally_of (error ∷ flaky_failure ∷ rerun_failure ∷ [])) ≡ false
unfolding tallied ruled
both-families = refl

families-alone : ruled (tally_of (flaky_failure ∷ rerun_failure ∷ [])) ≡ false
unfolding tallied ruled
families-alone = refl
