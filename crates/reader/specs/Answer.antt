-- The answer of reading, whole, with the areas that it leaves. Definitions only.
use Rattle.std.specs.Prelude.{ℕ, ◌≡◌, List}
use Rattle.clearing.specs.of_refusal.Refusal.{Outcome, verdict_of, refusal_of}
use Rattle.read_step.specs.of_read_machine.Reading.{Read}
use Rattle.reader.specs.declared.Reading.{Reading}

-- the answer for an outcome: a refusal whole (rule F1); where the table is accepted, the field `refusal` is `no_refusal`
abbrev pub answer_of : Outcome (Unit {0}) → Reading
answer_of o = record { verdict = verdict_of o; refusal = refusal_of o }

-- an answer and areas are those of a reading
abbrev pub Leaves : Reading → List ℕ → List ℕ → List ℕ → Read → Type 0
Leaves r words text scratch x = (r ≡ answer_of x.outcome) × ((words ≡ x.words) × ((text ≡ x.text) × (scratch ≡ x.scratch)))
