-- Bytes that the control hasn't refused go on to an accepted document. Assumes nothing.
use Prim.Native.Nat.{ℕ}
use mathlib.Core.Path.{◌≡◌, ap, ◌∙◌}
use mathlib.Core.List.{List, [], ◌∷◌, ◌++◌}
use mathlib.Core.Bool.{true}
use mathlib.Core.Option.{Option, none, some}
use Rattle.xml_machine.specs.State as state
use Rattle.xml_machine.specs.State.{State, fresh, Next}
use Rattle.xml_machine.specs.Machine.{step}
use Rattle.xml_machine.specs.Runs.{after, run, is_done, accepts}
use Rattle.xml_machine.proofs.Outcomes.{Ok, ok-go}
use Rattle.xml_machine.proofs.Runs.{run-append}
use Rattle.xml_finish.proofs.Finish.{finish}
use Rattle.xml_finish.proofs.Finished.{Viable, finish-done}
use Rattle.xml_finish.proofs.Viable.{step-viable}

-- where a run wasn't refused, its state can be completed
pub data Reached : Option State → Type 0 where
  reaches : {s : State} → Viable s → Reached (some s)
  refuses : Reached none

viable_of : {s : State} → Reached (some s) → Viable s
viable_of (reaches v) = v

pub run-viable : (t : List ℕ) (s : State) → Viable s → Reached (run s t)
unfolding run
run-viable [] s v = reaches v
run-viable (b ∷ t) s v = by-step (step s b) (step-viable s b v) (λ u w. run-viable t u w)
  where
    by-step : (o : Next) → Ok Viable o → ((u : State) → Viable u → Reached (run u t)) → Reached (after o (λ u. run u t))
    by-step state.no h k = refuses
    by-step (state.go act u) h k = k u (ok-go h)

pub reached-viable : (p : List ℕ) (s : State) → run fresh p ≡ some s → Viable s
reached-viable p s e = viable_of (rw e at (run-viable p fresh tt))

-- THEOREM: bytes that aren't refused go on to an accepted document
pub goes_on : (p : List ℕ) (s : State) → run fresh p ≡ some s → accepts (p ++ finish s) ≡ true
unfolding accepts
goes_on p s e = ap is_done (run-append p (finish s) fresh s e ∙ finish-done s (reached-viable p s e))
