-- The days before a year by a table of those before each year of the cycle. Definitions only.
use Rattle.std.specs.Prelude.{ℕ, ◌+◌, ◌*◌, ◌/◌, ◌%◌, List, get_or}

abbrev pub days_by : List ℕ → ℕ → ℕ
days_by table y = (y / 400) * 146097 + get_or table (y % 400) 0
