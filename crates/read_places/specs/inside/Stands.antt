-- Extras of an element by their stored keys. Definitions only.
use Rattle.std.specs.Prelude.{ℕ, ◌+◌, ◌*◌, List, drop}
use Rattle.read_element.specs.of_tree_record.Record.{text_at}

-- the key of extra i: its record stands behind the element's own and those before it
abbrev pub stored_key : List ℕ → List ℕ → ℕ → List ℕ
stored_key own text i = text_at text (drop (i * 32 + 32) own) 2
