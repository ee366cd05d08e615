-- An attribute in its words. Definitions only.
use Rattle.std.specs.Prelude.{ℕ, List, get_or, eqb}
use Rattle.read_element.specs.of_table.Event.{Attribute, part}

-- the attribute whose five words the list begins with (rule T2)
abbrev pub attribute_in : List ℕ → List ℕ → Attribute
attribute_in words source = record {
  good = eqb (get_or words 0 0) 0;
  key = part source (get_or words 1 0) (get_or words 2 0);
  value = part source (get_or words 3 0) (get_or words 4 0);
}
