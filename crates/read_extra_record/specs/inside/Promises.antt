-- What the calls promise. Definitions only.
use Rattle.std.specs.Prelude.{ℕ, ◌+◌, ◌*◌, ◌≤◌, List, Result, length}
use Rattle.read_element.specs.of_text.Value.{value_text}
use Rattle.read_element.specs.Outcome.{Place, Rooms}
use Rattle.read_element.specs.Attributes.{Given, old_extra, new_extra}
use Rattle.read_element.specs.inside.Held.{Held, Roomy, Meets}
use Rattle.read_element.specs.inside.Refines.{Areas}
use Rattle.read_extra_record.specs.declared.Given.{Given as Counted}
use Rattle.read_element.specs.of_refusal.declared.Cause.{Cause}
use Rattle.read_extra_record.specs.inside.Answers.{gave_answer}

-- the texts end within their area, which is no longer than the limit, and the extras' records within theirs
abbrev pub Bounded : Counted → Areas → Type 0
Bounded given a = (given.fill ≤ length a.text) × ((length a.text ≤ 16777216) × (given.extras * 32 + 32 ≤ length a.records))

-- stores the value behind the texts and gives extra i this value, or says that the text area is too short
abbrev pub ReplacesExtra : List ℕ → ℕ → Counted → Areas → Areas → Result Counted Cause → Type 0
ReplacesExtra value i given before after r =
    (g : Given) (rooms : Rooms) (p : Place) (used : ℕ)
    → Held before.records before.text given.extras given.fill g
    → Roomy rooms used (length before.records) (length before.text)
    → Meets p after.records after.text (old_extra rooms p (value_text value) i g) (gave_answer r)

-- puts a record behind the extras, with key and value stored behind the texts, or says which area is too short
abbrev pub AddsExtra : ℕ → List ℕ → List ℕ → Counted → Areas → Areas → Result Counted Cause → Type 0
AddsExtra kind key value given before after r =
    (g : Given) (rooms : Rooms) (p : Place) (used : ℕ)
    → Held before.records before.text given.extras given.fill g
    → Roomy rooms used (length before.records) (length before.text)
    → Meets p after.records after.text (new_extra rooms p used kind (value_text key) (value_text value) g) (gave_answer r)
