-- What stands before a path element. Definitions only.
use Rattle.std.specs.Prelude.{ℕ, List, cond, eqb}
use Rattle.explain_element.specs.of_names.Bytes.{bytes}

-- the element with i before it
abbrev pub mark_at : ℕ → List ℕ
mark_at i = cond (eqb i 0) (bytes " at ") (bytes "/")
