-- The control behind an act, and how many status elements a case then has. Assumes nothing.
use Prim.Native.Nat.{ℕ, suc}
use mathlib.Core.Bool.{Bool, true, false, cond}
use mathlib.Core.List.{List}
use mathlib.Core.Path.{◌≡◌, refl, sym, ap, ◌∙◌}
use native.Mathlib.Omega.{arith}
use borrow.Author.Tests.{ne_eqb}
use Rattle.tree_status.specs.declared.Tally.{Tally}
use Rattle.tree_status.specs.Status.{no_status, Few}
use Rattle.tree_status.proofs.Tallies.{few-more, few-none, few-tallied}
use Rattle.read_state.specs.Control.{Level, Output, at, Control, control, Act, pass, open_report, open_suite, open_case, open_status, close_suite}
use Rattle.read_state.specs.Control.{close_case, close_status, open_text, close_text, open_list, read_property, stop, missing, broken, turn}
use Rattle.read_state.specs.inside.Coded.{mode_at, level_in_of, opening, closing, control_of, act_of, is_step, turned}
use Rattle.read_state.specs.declared.Act.{Act as CodedAct}
use Rattle.read_state.specs.declared.Act.TheVariants.{ReadProperty}
use Rattle.read_state.specs.declared.Control.{Control as CodedControl}
use Rattle.read_state.specs.declared.Mode.{Mode as CodedMode}
use Rattle.read_state.specs.declared.Mode.TheVariants.{At, Text, List as Listing}

-- the level of a mode is that of the open element
pub level_in : (m : CodedMode) (l : Level) (o : Output) → level_in_of (mode_at m l o) ≡ l
level_in At l o = refl
level_in Text l o = refl
level_in Listing l o = refl

pub closes : (m : CodedMode) (l : Level) (o : Output) (c : Control) {r : Control} → r ≡ turn (closing l) c → r ≡ turn (closing (level_in_of (mode_at m l o))) c
closes m l o c e = e ∙ ap (λ (k : Level). turn (closing k) c) (sym (level_in m l o))

pub controls : {r : Control} {l k : Level} {s c : Bool} {t u : Tally} → r ≡ control (at l) s c t → l ≡ k → t ≡ u → r ≡ control (at k) s c u
controls {r} {l} {k} {s} {c} {t} {u} e f g = e ∙ ap (λ (x : Level). control (at x) s c t) f ∙ ap (λ (x : Tally). control (at k) s c x) g

-- a property leaves the list open; a Start's content is skipped whole
pub property_turned : (e : Bool) (name : List ℕ) (c : CodedControl) → control_of c ≡ turned (ReadProperty e) name c
unfolding turn
property_turned true name c = refl
property_turned false name c = refl

more : {n : ℕ} {t : Tally} → Few n t → Few (suc n) t
more f = few-more f (omega arith)

none : {n : ℕ} → Few n no_status
none {n} = few-none n

-- an act adds at most one: what `tallied` and `turn` of the code require holds before the event of number n
pub few-turn : {n : ℕ} (a : Act) (c : Control) → Few n c.tally → Few (suc n) (turn a c).tally
unfolding turn
few-turn (pass m) c f = more f
few-turn (open_report e) c f = none
few-turn (open_suite e) c f = none
few-turn (open_case e) c f = none
few-turn (open_status k e) c f = few-tallied c.tally k f
few-turn close_suite c f = none
few-turn close_case c f = none
few-turn close_status c f = more f
few-turn (open_text l o) c f = more f
few-turn (close_text l o) c f = more f
few-turn (open_list l e) c f = more f
few-turn (read_property l true name) c f = more f
few-turn (read_property l false name) c f = more f
few-turn stop c f = more f
few-turn missing c f = more f
few-turn (broken n) c f = more f

pub few-turned : {n : ℕ} (a : CodedAct) (name : List ℕ) (c : CodedControl) → Few n c.tally → Few (suc n) (turned a name c).tally
few-turned {n} a name c f = by_cases (is_step a)
  where
    by_cases : (b : Bool) → Few (suc n) (cond b (turn (act_of c name a) (control_of c)) (control_of c)).tally
    by_cases true = few-turn (act_of c name a) (control_of c) f
    by_cases false = more f

-- the kinds of records but those of reports, suites and cases
pub opening_other : (k : ℕ) (e : Bool) → (k ≡ 1 → ⊥) → (k ≡ 2 → ⊥) → (k ≡ 3 → ⊥) → opening k e ≡ open_status k e
opening_other k e a b c = rw (ne_eqb k 1 a, ne_eqb k 2 b, ne_eqb k 3 c) refl
