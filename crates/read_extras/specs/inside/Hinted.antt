-- Where an extra is told to stand. Definitions only.
use Rattle.std.specs.Prelude.{ℕ, ◌≤◌, ◌≡◌, List, length}
use Rattle.read_extra_record.specs.of_read_element.Attributes.{Given, place_of}

-- a hint that isn't larger than the number of extras is the place of the one with this key, or their number
abbrev pub Hinted : ℕ → Given → List ℕ → Type 0
Hinted hint g key = hint ≤ length g.extras → place_of g.texts key g.extras ≡ hint
