-- The two forms of what is written, a table or XML, and the bytes of an entry and of an attribute in each. Definitions only.
use Rattle.std.specs.Prelude.{ℕ, ◌+◌, ◌-◌, List, [], ◌++◌, Bool, cond, not, ◌||◌, eqb}
use Rattle.write_spelled.specs.of_names.Bytes.{bytes}
use Rattle.write_spelled.specs.of_table.Kinds as kind
use Rattle.write_spelled.specs.Spelled.{newline, line}

-- the form by number, as src/form.rt of write_form has it: a table, or XML with what stands before: an Empty tag or another one whose end
-- is still to come, a whole tag, or nothing that the next tag must be parted from
abbrev pub table : ℕ
table = 0

abbrev pub in_empty : ℕ
in_empty = 1

abbrev pub in_tag : ℕ
in_tag = 2

abbrev pub behind_tag : ℕ
behind_tag = 3

abbrev pub free : ℕ
free = 4

-- the end of the tag before
abbrev pub closing : ℕ → List ℕ
closing form = cond (eqb form in_empty) (bytes "/>") (cond (eqb form in_tag) (bytes ">") [])

-- what comes before a tag
abbrev pub lead : (form level : ℕ) → List ℕ
lead form level = closing form ++ line level (not (eqb form free))

-- character data
abbrev pub is_text : ℕ → Bool
is_text k = eqb k kind.text || (eqb k kind.cdata || eqb k kind.ref)

-- an entry's bytes stand between these
unfoldable pub before_entry : (form level kind : ℕ) → List ℕ
before_entry form level k =
    cond (eqb k kind.start || eqb k kind.empty) (lead form level ++ bytes "<")
    (cond (eqb k kind.end) (lead form (level - 1) ++ bytes "</")
    (cond (eqb k kind.other) (lead form level ++ bytes "<?")
    (cond (is_text k) (closing form)
    (cond (eqb k kind.indent) (closing form ++ newline level) []))))

unfoldable pub behind_entry : ℕ → List ℕ
behind_entry k = cond (eqb k kind.other) (bytes "?>") []

abbrev pub entry_text : (form level kind : ℕ) → List ℕ → List ℕ
entry_text form level k s = before_entry form level k ++ (s ++ behind_entry k)

-- a key's bytes, and a value's
abbrev pub key_text : List ℕ → List ℕ
key_text key = bytes " " ++ (key ++ bytes "=\"")

abbrev pub value_text : List ℕ → List ℕ
value_text value = value ++ bytes "\""

-- the form behind an entry, and how many elements are open there
unfoldable pub form_behind : (form kind : ℕ) → ℕ
form_behind form k =
    cond (eqb k kind.start || eqb k kind.end) in_tag
    (cond (eqb k kind.empty) in_empty
    (cond (eqb k kind.other) behind_tag
    (cond (is_text k || eqb k kind.indent) free form)))

unfoldable pub level_behind : (level kind : ℕ) → ℕ
level_behind level k = cond (eqb k kind.start) (level + 1) (cond (eqb k kind.end) (level - 1) level)

-- the bytes in either form: a table holds an entry's, key's and value's own
abbrev pub before : (form level kind : ℕ) → List ℕ
before form level k = cond (eqb form table) [] (before_entry form level k)

abbrev pub behind : (form kind : ℕ) → List ℕ
behind form k = cond (eqb form table) [] (behind_entry k)

abbrev pub key_in : ℕ → List ℕ → List ℕ
key_in form key = cond (eqb form table) key (key_text key)

abbrev pub quote_in : ℕ → List ℕ
quote_in form = cond (eqb form table) [] (bytes "\"")
