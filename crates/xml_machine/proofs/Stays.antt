-- Bytes that end and begin nothing, and those behind a first one that may: as runs, and as runs with bytes. Assumes nothing.
use Prim.Native.Nat.{ℕ}
use mathlib.Core.Path.{◌≡◌, refl, sym, ap, ◌∙◌}
use mathlib.Core.List.{List, [], ◌∷◌, ◌++◌, append_assoc, append-nil}
use Rattle.xml_machine.specs.State as state
use Rattle.xml_machine.specs.State.{State, Act, Stay, Here}
use Rattle.xml_machine.specs.Machine.{step}
use Rattle.xml_machine.specs.Runs.{run}
use Rattle.xml_machine.specs.inside.Saying.{Said, marks, grows, saying, telling, tell}
use Rattle.xml_machine.proofs.Runs.{run_step, tell-step}

-- these bytes lead from one state to another, and nothing ends or begins at them
pub data Stays : State → List ℕ → State → Type 0 where
  there : {s : State} → Stays s [] s
  stay : {s u w : State} {b : ℕ} {t : List ℕ} → step s b ≡ state.go Stay u → Stays u t w → Stays s (b ∷ t) w

-- the first byte of these does what act says, and the others lead on
pub data Takes (act : Act) : State → List ℕ → State → Type 0 where
  takes : {s u w : State} {b : ℕ} {t : List ℕ} → step s b ≡ state.go act u → Stays u t w → Takes act s (b ∷ t) w

pub stays_then : {s u w : State} {a b : List ℕ} → Stays s a u → Stays u b w → Stays s (a ++ b) w
stays_then there k = k
stays_then (stay e h) k = stay e (stays_then h k)

pub takes-then : {act : Act} {s u w : State} {a b : List ℕ} → Takes act s a u → Stays u b w → Takes act s (a ++ b) w
takes-then (takes e h) k = takes e (stays_then h k)

pub takes-stays : {s u : State} {a : List ℕ} → Takes Stay s a u → Stays s a u
takes-stays (takes e h) = stay e h

pub run-stays : {s u : State} {a : List ℕ} → Stays s a u → (t : List ℕ) → run s (a ++ t) ≡ run u t
run-stays there t = refl
run-stays (stay {s = s} {u = u} {b = b} {t = r} e h) t = run_step s u Stay b (r ++ t) e ∙ run-stays h t

pub run-takes : {act : Act} {s u : State} {a : List ℕ} → Takes act s a u → (t : List ℕ) → run s (a ++ t) ≡ run u t
run-takes {act = act} (takes {s = s} {u = u} {b = b} {t = r} e h) t = run_step s u act b (r ++ t) e ∙ run-stays h t

-- what is marked grows by these bytes
pub tell-stays : {s u : State} {a : List ℕ} → Stays s a u → (d : Said) (t : List ℕ) → tell (telling s d) (a ++ t) ≡ tell (telling u (marks (d.mark ++ a) d)) t
tell-stays (there {s = s}) d t = ap (λ x. tell (telling s (marks x d)) t) (sym (append-nil d.mark))
tell-stays (stay {s = s} {u = u} {w = w} {b = b} {t = r} e h) d t =
    tell-step s u Stay b d (r ++ t) e
    ∙ tell-stays h (grows b d) t
    ∙ ap (λ x. tell (telling w (marks x d)) t) (append_assoc d.mark (b ∷ []) r)

pub tell-takes : {act : Act} {s u : State} {b : ℕ} {a : List ℕ} → Takes act s (b ∷ a) u → (d : Said) (t : List ℕ) →
    tell (telling s d) (b ∷ (a ++ t)) ≡ tell (telling u (marks ((saying act b d).mark ++ a) (saying act b d))) t
tell-takes {act = act} (takes {s = s} {u = u} {b = b} {t = r} e h) d t = tell-step s u act b d (r ++ t) e ∙ tell-stays h (saying act b d) t

-- the mark is set at the first of these bytes
pub tell-here : {s u : State} {a : List ℕ} → Takes Here s a u → (d : Said) (t : List ℕ) → tell (telling s d) (a ++ t) ≡ tell (telling u (marks a d)) t
tell-here (takes {s = s} {u = u} {b = b} {t = r} e h) d t = tell-step s u Here b d (r ++ t) e ∙ tell-stays h (marks (b ∷ []) d) t
