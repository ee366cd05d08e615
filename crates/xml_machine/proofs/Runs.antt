-- Runs over bytes that stand behind each other. Assumes nothing.
use Prim.Native.Nat.{ℕ}
use mathlib.Core.Path.{◌≡◌, refl, ap, ◌∙◌}
use mathlib.Core.List.{List, [], ◌∷◌, ◌++◌}
use mathlib.Core.Bool.{false}
use mathlib.Core.Option.{Option, none, some}
use Rattle.xml_machine.specs.State as state
use Rattle.xml_machine.specs.State.{State, fresh, Act, Next}
use Rattle.xml_machine.specs.Machine.{step}
use Rattle.xml_machine.specs.Runs.{after, run, is_done, accepts}
use Rattle.xml_machine.specs.inside.Saying.{Said, saying, telling, tell}

abbrev onward : Option State → (State → Option State) → Option State
onward none f = none
onward (some s) f = f s

run-split : (a b : List ℕ) (s : State) → run s (a ++ b) ≡ onward (run s a) (λ u. run u b)
unfolding run
run-split [] b s = refl
run-split (x ∷ a) b s = go (step s x) (λ u. run-split a b u)
  where
    go : (o : Next) → ((u : State) → run u (a ++ b) ≡ onward (run u a) (λ w. run w b)) → after o (λ u. run u (a ++ b)) ≡ onward (after o (λ u. run u a)) (λ u. run u b)
    go state.no ih = refl
    go (state.go act u) ih = ih u

pub run-append : (a b : List ℕ) (s u : State) → run s a ≡ some u → run s (a ++ b) ≡ run u b
run-append a b s u e = run-split a b s ∙ rw e refl

-- refusal is final: no bytes behind a refused one are accepted
pub refused-stays : (s : State) (p t : List ℕ) → run s p ≡ none → run s (p ++ t) ≡ none
refused-stays s p t e = run-split p t s ∙ rw e refl

pub ends-here : (p t : List ℕ) → run fresh p ≡ none → accepts (p ++ t) ≡ false
unfolding accepts
ends-here p t e = ap is_done (refused-stays fresh p t e)

pub run_step : (s u : State) (act : Act) (b : ℕ) (t : List ℕ) → step s b ≡ state.go act u → run s (b ∷ t) ≡ run u t
unfolding run
run_step s u act b t e = rw e refl

pub run-no : (s : State) (b : ℕ) (t : List ℕ) → step s b ≡ state.no → run s (b ∷ t) ≡ none
unfolding run
run-no s b t e = rw e refl

pub tell-step : (s u : State) (act : Act) (b : ℕ) (d : Said) (t : List ℕ) → step s b ≡ state.go act u → tell (telling s d) (b ∷ t) ≡ tell (telling u (saying act b d)) t
unfolding tell
tell-step s u act b d t e = rw e refl
