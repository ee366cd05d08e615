-- The definition's attribute j. Assumes nothing.
use Prim.Native.Nat.{ℕ, ◌-◌}
use mathlib.Core.Bool.{not}
use mathlib.Core.List.{List}
use Rattle.read_free.specs.of_names.Keys.{key_of}
use Rattle.read_free.specs.of_refusal.Refusal.{Outcome}
use Rattle.read_free.specs.of_read_keys.Roles.{role_of}
use Rattle.read_free.specs.of_table.Event.{mark_at, key_at, attribute_at, attributes_from}
use Rattle.read_free.specs.of_read_element.Outcome.{Place, Rooms, need}
use Rattle.read_free.specs.of_read_element.Attributes.{Given, by_role, among, numbered}
use Rattle.read_free.specs.of_read_element.inside.Held.{keys_of}
use Rattle.read_free.specs.of_refusal.declared.Cause.TheVariants as cause

-- the definition's attribute j
abbrev pub attribute_step : List ℕ → List ℕ → ℕ → ℕ → Rooms → Place → ℕ → ℕ → Given → Outcome Given
attribute_step attributes source kind first rooms p used j g =
    need (mark_at attributes j) (numbered p j) cause.FaultyAttribute
    (need (not (among (key_at attributes source j) (keys_of (attributes_from attributes source (j - first) first)))) (numbered p j) cause.RepeatedKey
    (by_role rooms (numbered p j) used kind (key_of (key_at attributes source j)) (role_of kind (key_of (key_at attributes source j))) (attribute_at attributes source j) g))
