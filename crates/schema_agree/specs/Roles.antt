-- What a key without a row is to an element. Definitions only.
use Rattle.std.specs.Prelude.{ℕ, cond, eqb}
use Rattle.read_content.specs.of_tree_record.Kinds as kind
use Rattle.read_content.specs.of_read_keys.declared.Role.{Role}
use Rattle.read_content.specs.of_read_keys.declared.Role.TheVariants as role

-- by its record's kind: an extra of a suite or case, else passed over (rule A7)
abbrev pub other_role : ℕ → Role
other_role k = cond (eqb k kind.report) role.Ignored (cond (eqb k kind.suite) role.Extra (cond (eqb k kind.case) role.Extra role.Ignored))
