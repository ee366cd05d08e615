-- What an element may not lack, by its table. Definitions only.
use Rattle.std.specs.Prelude.{ℕ, List, [], ◌∷◌, cond, eqb}
use Rattle.read_content.specs.of_refusal.Refusal.{Outcome, accepted}
use Rattle.read_content.specs.of_refusal.declared.Cause.TheVariants as cause
use Rattle.read_content.specs.of_read_element.Outcome.{Place, need, within}
use Rattle.read_content.specs.of_read_element.Attributes.{Given}
use Rattle.read_content.specs.of_schema.Schema.{Presence, always, must, may, unkept, Row}
use Rattle.read_content.specs.of_schema.Records.{is_set}

-- rule A10
abbrev pub asked_of : Presence → ℕ → Place → Given → Outcome Given → Outcome Given
asked_of always k p g rest = rest
asked_of (must b) k p g rest = cond (eqb k 0) rest (need (is_set b g.main) (within p k) cause.MissingAttribute rest)
asked_of (may b) k p g rest = rest
asked_of unkept k p g rest = rest

abbrev pub complete_by : List Row → Place → Given → Outcome Given
complete_by [] p g = accepted g
complete_by (x ∷ xs) p g = asked_of x.presence x.key p g (complete_by xs p g)
