-- An element before its attributes. Definitions only.
use Rattle.std.specs.Prelude.{ℕ, List, []}
use Rattle.read_free.specs.of_tree_put.Put.{blank}
use Rattle.read_free.specs.of_read_element.Attributes.{Given}

-- what an element's attributes have given before the first
abbrev pub fresh : ℕ → List ℕ → Given
fresh kind texts = record { main = blank kind; extras = []; texts = texts }
