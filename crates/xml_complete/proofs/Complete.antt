-- What the grammar derives, the control accepts, and what it tells are the events of the derivation. Assumes nothing.
use Prim.Native.Nat.{ℕ}
use mathlib.Core.Path.{◌≡◌, refl, sym, ap, ◌∙◌}
use mathlib.Core.List.{List, [], ◌∷◌, ◌++◌, append-nil}
use mathlib.Core.Bool.{true, false≢true}
use mathlib.Core.Option.{Option, none, some}
use Rattle.xml_grammar.specs.of_table.Event.{Event, Eof}
use Rattle.xml_grammar.specs.of_xml_chars.Bytes.{utf8}
use Rattle.xml_grammar.specs.Grammar.{Document}
use Rattle.xml_grammar.specs.Events.{document_of}
use Rattle.xml_grammar.specs.Documents.{Mark, unmarked, marked, WellFormed}
use Rattle.xml_machine.specs.State as state
use Rattle.xml_machine.specs.State.{State, fresh, epilog, Next}
use Rattle.xml_machine.specs.Machine.{step}
use Rattle.xml_machine.specs.Runs.{after, run, is_done, accepts}
use Rattle.xml_machine.specs.inside.Saying.{Said, unsaid, text_said, saying, Telling, telling, onto, tell, told}
use Rattle.xml_machine.proofs.Runs.{ends-here}
use Rattle.xml_complete.proofs.Documents.{First, first-fresh, first-marked, document-tells}

-- ---- the run with bytes is a run
abbrev control : Option Telling → Option State
control none = none
control (some (telling s d)) = some s

tell-control : (t : List ℕ) (s : State) (d : Said) → control (tell (telling s d) t) ≡ run s t
unfolding tell run
tell-control [] s d = refl
tell-control (b ∷ t) s d = by-step (step s b) (tell-control t)
  where
    by-step : (o : Next) → ((u : State) (e : Said) → control (tell (telling u e) t) ≡ run u t) → control (onto o b d (λ c. tell c t)) ≡ after o (λ u. run u t)
    by-step state.no ih = refl
    by-step (state.go act u) ih = ih u (saying act b d)

pub tell-run : (t : List ℕ) (s : State) (d : Said) → (u : State) (e : Said) → tell (telling s d) t ≡ some (telling u e) → run s t ≡ some u
tell-run t s d u e h = sym (tell-control t s d) ∙ ap control h

-- ---- whole documents
abbrev Told : List ℕ → List Event → Type 0
Told s es = (e : Said) × (told s ≡ some (telling epilog e)) × (e.events ++ (text_said e.mark ++ (Eof ∷ [])) ≡ es)

tell-nothing : (c : Telling) → tell c [] ≡ some c
unfolding tell
tell-nothing (telling s d) = refl

from_first : {s : State} → First s → {cs : List ℕ} (h : Document cs) →
    (e : Said) × (tell (telling s unsaid) (utf8 cs) ≡ some (telling epilog e)) × (e.events ++ (text_said e.mark ++ (Eof ∷ [])) ≡ document_of h)
from_first {s = s} f {cs = cs} h =
    let p = document-tells f h in
    let q = p.2.ahead unsaid refl in (
      q.said,
      ap (λ z. tell (telling s unsaid) z) (sym (append-nil (utf8 cs))) ∙ q.reached.goes [] ∙ tell-nothing (telling epilog q.said),
      ap (λ z. q.said.events ++ (text_said z ++ (Eof ∷ []))) q.marked ∙ ap (λ z. z ++ (text_said p.0 ++ (Eof ∷ []))) q.added ∙ p.3,
    )

mark-told : (t : List ℕ) → told (0xEF ∷ 0xBB ∷ 0xBF ∷ t) ≡ tell (telling state.marked unsaid) t
unfolding tell step
mark-told t = refl

behind-mark : {front : List ℕ} → Mark front → {cs : List ℕ} (h : Document cs) → Told (front ++ utf8 cs) (document_of h)
behind-mark unmarked h = from_first first-fresh h
behind-mark marked {cs = cs} h = let p = from_first first-marked h in (p.0, mark-told (utf8 cs) ∙ p.1, p.2)

-- THEOREM: a document is told as the events of its derivation
pub complete : {s : List ℕ} (w : WellFormed s) → (e : Said) × (told s ≡ some (telling epilog e)) × (e.events ++ (text_said e.mark ++ (Eof ∷ [])) ≡ document_of w.derived)
complete w =
    let p = behind-mark w.skipped w.derived in
    (p.0, ap told w.spelt ∙ p.1, p.2)

-- THEOREM: a document is accepted
pub well_formed-accepted : (s : List ℕ) → WellFormed s → accepts s ≡ true
unfolding accepts
well_formed-accepted s w = let p = complete w in ap is_done (tell-run s fresh unsaid epilog p.0 p.1)

-- THEOREM: behind a refused byte there is no document
pub no-document : (p t : List ℕ) → run fresh p ≡ none → ¬ WellFormed (p ++ t)
no-document p t e w = false≢true (sym (ends-here p t e) ∙ well_formed-accepted (p ++ t) w)
