-- The attributes of an element by their key codes. Definitions only.
use Rattle.std.specs.Prelude.{ℕ, suc, List, [], ◌∷◌, Bool, true, cond, ◌||◌, eqb}
use Rattle.write_report.specs.of_names.Keys as key
use Rattle.write_report.specs.of_table.Event.{Attribute}
use Rattle.write_report.specs.of_tree_record.Bits as bit
use Rattle.write_report.specs.of_tree_record.Record.{has_bit}
use Rattle.write_items.specs.inside.Values.{report_name, key_name, value_of}

-- no presence bit: the value is always there
abbrev pub always : ℕ
always = 32

-- the presence bit of a key
unfoldable pub bit_of : ℕ → ℕ
bit_of code =
    cond (eqb code key.message || eqb code report_name) bit.name
    (cond (eqb code key.uuid) bit.uuid
    (cond (eqb code key.timestamp) bit.timestamp
    (cond (eqb code key.time) bit.time
    (cond (eqb code key.classname || eqb code key.type) bit.classname
    (cond (eqb code key.assertions) bit.assertions
    (cond (eqb code key.hostname) bit.hostname
    (cond (eqb code key.disabled) bit.disabled always)))))))

unfoldable pub is_present : List ℕ → ℕ → Bool
is_present r code = cond (eqb (bit_of code) always) true (has_bit (bit_of code) r)

abbrev pub slot_of : List ℕ → List ℕ → ℕ → Attribute
slot_of text r code = record { good = true; key = key_name code; value = value_of text r code }

abbrev pub slots : List ℕ → List ℕ → List ℕ → List Attribute
slots text r [] = []
slots text r (c ∷ cs) = cond (is_present r c) (slot_of text r c ∷ slots text r cs) (slots text r cs)

abbrev pub count_of : List ℕ → List ℕ → ℕ
count_of r [] = 0
count_of r (c ∷ cs) = cond (is_present r c) (suc (count_of r cs)) (count_of r cs)
