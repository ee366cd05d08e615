-- The code's refusals at an attribute, and its paths of one. Definitions only.
use Rattle.std.specs.Prelude.{ℕ, zero, suc}
use Rattle.read_extra_record.specs.of_refusal.Refusal.{longer}
use Rattle.read_extra_record.specs.of_refusal.declared.Cause.{Cause}
use Rattle.read_extra_record.specs.of_refusal.declared.Path.{Path}
use Rattle.read_extra_record.specs.of_read_element.Outcome.{attribute_element}
use Rattle.read_fault.specs.declared.Fault.{Fault}

abbrev pub fault_of : Cause → ℕ → ℕ → Fault
fault_of why key j = record { cause = why; key = key; attribute = j }

-- the path with the Attribute of a key, where its code isn't 0
abbrev pub with_attribute : Path → ℕ → Path
with_attribute p zero = p
with_attribute p (suc k) = longer p (attribute_element (suc k))
