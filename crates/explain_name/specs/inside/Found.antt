-- The attribute whose key is `name`, by its number. Definitions only.
use Rattle.std.specs.Prelude.{ℕ, zero, suc, ◌+◌, List, cond}
use Rattle.table_events.specs.of_names.Bytes.{bytes}
use Rattle.table_events.specs.of_names.Names.{same_bytes}
use Rattle.table_events.specs.of_table.Event.{key_at}

-- of n attributes from number j on, the first with that key, or the number behind them
unfoldable pub named_from : List ℕ → List ℕ → ℕ → ℕ → ℕ
named_from attributes source zero j = j
named_from attributes source (suc n) j = cond (same_bytes (key_at attributes source j) (bytes "name")) j (named_from attributes source n (j + 1))
