-- Which attributes an element reads, and where they go: the `match attr.key` of deserialize.rs, element by element, by the rows of its table
-- (crate schema). Definitions only.
use Rattle.std.specs.Prelude.{ℕ, List, [], ◌∷◌, Bool, true, false, cond, leb, eqb}
use Rattle.schema.specs.of_tree_record.Kinds as kind
use Rattle.schema.specs.Schema.{Form, text, number, time, timestamp, uuid, flag, Presence, always, must, may, unkept, Row}
use Rattle.schema.specs.Schema as table
use Rattle.read_keys.specs.declared.Role.{Role}
use Rattle.read_keys.specs.declared.Role.TheVariants.{Text, Count, Number, Uuid, Timestamp, Time, Extra, Ignored}

-- the role under a key's code in a list of codes with their roles; `other` is the role of all further keys (rule A7)
unfoldable pub role_in : List (ℕ × Role) → Role → ℕ → Role
role_in [] other k = other
role_in (x ∷ xs) other k = cond (eqb k x.0) x.1 (role_in xs other k)

-- ---- the keys of a table
-- a main's time and timestamp aren't (rule S12)
abbrev pub is_kept : Presence → Bool
is_kept always = true
is_kept (must k) = true
is_kept (may k) = true
is_kept unkept = false

-- without a presence bit, or with this one
abbrev pub by_bit : Presence → Role → (ℕ → Role) → Role
by_bit always plain f = plain
by_bit (must k) plain f = f k
by_bit (may k) plain f = f k
by_bit unkept plain f = Ignored

abbrev pub role_of_row : Form → Presence → ℕ → Role
role_of_row text p w = by_bit p Ignored (λ k. Text w k)
role_of_row number p w = by_bit p (Count w) (λ k. Number w k)
role_of_row time p w = Time (is_kept p)
role_of_row timestamp p w = Timestamp (is_kept p)
role_of_row uuid p w = Uuid
role_of_row flag p w = Ignored

-- a row with key 0 is no attribute
abbrev pub keys_by : List Row → List (ℕ × Role)
keys_by [] = []
keys_by (x ∷ xs) = cond (eqb x.key 0) (keys_by xs) ((x.key, role_of_row x.form x.presence x.word) ∷ keys_by xs)

-- ---- the elements
-- rule A5; any other key is passed over (rule A7)
abbrev pub report_keys : List (ℕ × Role)
report_keys = keys_by table.report

unfoldable pub report_role : ℕ → Role
report_role = role_in report_keys Ignored

-- rule A5; any other key is an extra, as on a case (rule A7)
abbrev pub suite_keys : List (ℕ × Role)
suite_keys = keys_by table.suite

-- rule A7
unfoldable pub suite_role : ℕ → Role
suite_role = role_in suite_keys Extra

-- rule A5
abbrev pub case_keys : List (ℕ × Role)
case_keys = keys_by table.case

-- rule A7
unfoldable pub case_role : ℕ → Role
case_role = role_in case_keys Extra

-- rule A6
abbrev pub property_keys : List (ℕ × Role)
property_keys = keys_by table.property

unfoldable pub property_role : ℕ → Role
property_role = role_in property_keys Ignored

-- a status element, by whether it is a run (rule A6); a skipped one reads what a failure or error does
abbrev pub status_keys : Bool → List (ℕ × Role)
status_keys true = keys_by table.run
status_keys false = keys_by table.main

unfoldable pub status_role : Bool → ℕ → Role
status_role run = role_in (status_keys run) Ignored

-- the element by its record's kind (rule A1); behind the properties stand the mains, then the runs
unfoldable pub role_of : ℕ → ℕ → Role
role_of k key =
    cond (eqb k kind.report) (report_role key)
    (cond (eqb k kind.suite) (suite_role key)
    (cond (eqb k kind.case) (case_role key)
    (cond (leb k kind.case_property) (property_role key) (status_role (leb kind.flaky_failure k) key))))
