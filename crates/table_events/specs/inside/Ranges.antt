-- The range of an event's attributes: from number `first_at` to before number `end_at`. Definitions only.
use Rattle.std.specs.Prelude.{ℕ, ◌+◌, List, cond, leb, eqb}
use Rattle.table.specs.Table.{word, count_of}

-- the table's end has none
abbrev pub attributes_at : List ℕ → ℕ → ℕ
attributes_at events i = cond (leb (count_of events) i) 0 (word events i 4)

-- without attributes the first isn't looked at (rule T11)
abbrev pub first_at : List ℕ → ℕ → ℕ
first_at events i = cond (eqb (attributes_at events i) 0) 0 (word events i 3)

abbrev pub end_at : List ℕ → ℕ → ℕ
end_at events i = cond (eqb (attributes_at events i) 0) 0 (word events i 3 + word events i 4)
