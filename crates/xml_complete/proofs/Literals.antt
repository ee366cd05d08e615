-- Fixed characters. Assumes nothing.
use Prim.Native.Nat.{ℕ}
use mathlib.Core.Path.{◌≡◌, refl, ◌∙◌}
use mathlib.Core.List.{List, [], ◌∷◌}
use mathlib.Core.Bool.{Bool, true, ◌&&◌, and-eq-true_iff}
use borrow.Author.Tests.{eq-eqb, ltb-true}
use lib.Dec.{ltb}
use Rattle.xml_machine.specs.State as state
use Rattle.xml_machine.specs.State.{literal, Stay, Goal}
use Rattle.xml_machine.specs.Machine.{reached, reached_by, step}
use Rattle.xml_complete.proofs.Reading.{Reads, reads_none, reads_byte}

-- ASCII only
abbrev pub lows : List ℕ → Bool
lows [] = true
lows (c ∷ s) = ltb c 0x80 && lows s

pub literal-step : (c d : ℕ) (cs : List ℕ) (g : Goal) → step (literal c (d ∷ cs) g) c ≡ state.go Stay (literal d cs g)
unfolding step
literal-step c d cs g = rw (eq-eqb c c refl) refl

pub literal-last : (c : ℕ) (g : Goal) → step (literal c [] g) c ≡ state.go (reached_by g) (reached g)
unfolding step
literal-last c g = rw (eq-eqb c c refl) refl

pub literal-reads : (c : ℕ) (cs : List ℕ) (g : Goal) → reached_by g ≡ Stay → lows (c ∷ cs) ≡ true → Reads (literal c cs g) (c ∷ cs) (reached g)
literal-reads c [] g h e =
    let p = (and-eq-true_iff (ltb c 0x80) true).0 e in
    reads_byte (ltb-true c 0x80 p.0) (literal-last c g ∙ rw h refl) reads_none
literal-reads c (d ∷ cs) g h e =
    let p = (and-eq-true_iff (ltb c 0x80) (lows (d ∷ cs))).0 e in
    reads_byte (ltb-true c 0x80 p.0) (literal-step c d cs g) (literal-reads d cs g h p.1)
