-- What the calls promise. Definitions only.
use Rattle.std.specs.Prelude.{ℕ, ◌≤◌, ◌≡◌, List, Result, length}
use Rattle.text_key.specs.of_text.Value.{value_text}
use Rattle.read_extra_record.specs.of_table.Event.{Attribute}
use Rattle.read_extra_record.specs.of_read_element.Outcome.{Place, Rooms}
use Rattle.read_extra_record.specs.of_read_element.Attributes.{Given, read_extra}
use Rattle.read_extra_record.specs.of_read_element.inside.Held.{place_at, put_extra, Held, Roomy, Meets}
use Rattle.read_extra_record.specs.of_read_element.inside.Refines.{Areas}
use Rattle.read_extra_record.specs.declared.Given.{Given as Counted}
use Rattle.text_key.specs.of_refusal.declared.Cause.{Cause}
use Rattle.read_extra_record.specs.inside.Answers.{gave_answer}
use Rattle.read_extras.specs.inside.Hinted.{Hinted}

-- finds the place of the extra with this key, or the number of extras, where a hint that isn't larger than that number is right
abbrev pub FindsPlace : List ℕ → List ℕ → List ℕ → ℕ → ℕ → ℕ → Type 0
FindsPlace own text key extras hint r =
    (hint ≤ extras → place_at own text key extras 0 ≡ hint) → r ≡ place_at own text key extras 0

-- gives the extra with this key the value, in a new record where there is none; key and value are good
abbrev pub PutsExtra : ℕ → List ℕ → List ℕ → ℕ → Counted → Areas → Areas → Result Counted Cause → Type 0
PutsExtra kind key value hint given before after r =
    (g : Given) (rooms : Rooms) (p : Place) (used : ℕ)
    → Held before.records before.text given.extras given.fill g
    → Roomy rooms used (length before.records) (length before.text)
    → Hinted hint g (value_text key)
    → Meets p after.records after.text (put_extra rooms p used kind (value_text key) (value_text value) g) (gave_answer r)

-- reads an attribute of this key and value as an extra
abbrev pub ReadsExtra : ℕ → List ℕ → List ℕ → ℕ → Counted → Areas → Areas → Result Counted Cause → Type 0
ReadsExtra kind key value hint given before after r =
    (x : Attribute) (g : Given) (rooms : Rooms) (p : Place) (used : ℕ)
    → x.key ≡ key → x.value ≡ value
    → Held before.records before.text given.extras given.fill g
    → Roomy rooms used (length before.records) (length before.text)
    → Hinted hint g (value_text x.key)
    → Meets p after.records after.text (read_extra rooms p used kind x g) (gave_answer r)
