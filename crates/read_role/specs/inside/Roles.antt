-- A value's answer, as that of the definitions, and what the call promises. Definitions only.
use Rattle.std.specs.Prelude.{ℕ, ◌+◌, ◌<◌, ◌≡◌, List, Result, Ok, Err, length}
use Rattle.read_values.specs.of_area.Answer.{Answer, gives, refuses}
use Rattle.read_values.specs.of_table.Event.{Attribute}
use Rattle.read_values.specs.of_read_element.Outcome.{Place, Rooms, within}
use Rattle.read_values.specs.of_read_element.Attributes.{Given, by_role}
use Rattle.read_values.specs.of_read_element.inside.Held.{Held, Roomy, Meets}
use Rattle.read_values.specs.of_read_element.inside.Refines.{Areas}
use Rattle.read_values.specs.of_read_keys.declared.Role.{Role}
use Rattle.read_values.specs.of_read_keys.declared.Role.TheVariants as role
use Rattle.read_values.specs.of_refusal.declared.Cause.{Cause}

-- a role's words lie in the record
abbrev pub RoleFits : Role → Type 0
RoleFits (role.Text o k) = o + 1 < 32
RoleFits (role.Count o) = o + 1 < 32
RoleFits (role.Number o k) = o + 1 < 32
RoleFits role.Uuid = Unit {0}
RoleFits (role.Timestamp kept) = Unit {0}
RoleFits (role.Time kept) = Unit {0}
RoleFits role.Extra = Unit {0}
RoleFits role.Ignored = Unit {0}

-- a value's answer, with the number of extras, which it leaves as it is
abbrev pub took_given : ℕ → Result ℕ Cause → Answer (ℕ × ℕ)
took_given extras (Ok fill) = gives (extras, fill)
took_given extras (Err why) = refuses why

-- reads an attribute of this value by its role, which is no extra
abbrev pub ReadsValue : Role → List ℕ → ℕ → Areas → Areas → Result ℕ Cause → Type 0
ReadsValue q value fill before after r =
    (x : Attribute) (g : Given) (rooms : Rooms) (p : Place) (used kind key extras : ℕ)
    → (q ≡ role.Extra → ⊥) → x.value ≡ value
    → Held before.records before.text extras fill g
    → Roomy rooms used (length before.records) (length before.text)
    → Meets (within p key) after.records after.text (by_role rooms p used kind key q x g) (took_given extras r)
