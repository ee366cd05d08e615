-- A path with an Attribute. Assumes nothing.
use Prim.Native.Nat.{ℕ, zero, suc}
use mathlib.Core.Path.{◌≡◌, refl}
use Rattle.read_extra_record.specs.of_refusal.Refusal.{longer}
use Rattle.read_extra_record.specs.of_refusal.declared.Path.{Path}
use Rattle.read_extra_record.specs.of_read_element.Outcome.{attribute_element}
use Rattle.read_fault.specs.inside.Faults.{with_attribute}

-- the path of an attribute's value
pub with-key : (p : Path) (key : ℕ) → (key ≡ 0 → ⊥) → longer p (attribute_element key) ≡ with_attribute p key
with-key p zero n = absurd (n refl)
with-key p (suc k) n = refl
