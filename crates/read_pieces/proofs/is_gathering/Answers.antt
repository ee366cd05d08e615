use mathlib.Core.Bool.{false}
use mathlib.Core.Path.{◌≡◌, refl}
use Rattle.read_scratch.specs.of_read_state.inside.Coded.{level_of}
use Rattle.read_scratch.specs.of_read_state.declared.Level.{Level}
use Rattle.read_scratch.specs.of_read_state.declared.Level.TheVariants.{Top, Suite, Case, Status}
use Rattle.read_scratch.specs.of_read_state.Control.{at, gathers}
use Rattle.read_pieces.proofs.is_gathering.Goals as goal

-- a description alone is gathered
quiet : (l : Level) → (l ≡ Status → ⊥) → false ≡ gathers (at (level_of l))
unfolding gathers
quiet Top n = refl
quiet Suite n = refl
quiet Case n = refl
quiet Status n = absurd (n refl)

pub returns-in-Text : goal.returns-in-Text
unfolding gathers
returns-in-Text c = rw c.in-Text.is refl

pub returns-in-List : goal.returns-in-List
unfolding gathers
returns-in-List c = rw c.in-List.is refl

pub returns-in-Status : goal.returns-in-Status
unfolding gathers
returns-in-Status c = rw (c.in-At.is, c.in-Status.is) refl

pub returns-in_default : goal.returns-in_default
returns-in_default c = rw c.in-At.is (quiet c.args.control.level c.in_default.not-Status)
