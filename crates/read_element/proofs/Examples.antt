-- Extras, keys and rooms, computed. Assumes nothing.
use Prim.Native.Nat.{ℕ}
use mathlib.Core.Path.{◌≡◌, refl}
use mathlib.Core.List.{List, [], ◌∷◌}
use mathlib.Core.Bool.{true, false}
use mathlib.Core.Option.{none, some}
use Rattle.integer.specs.of_area.Area.{zeros}
use Rattle.integer.specs.of_refusal.Refusal.{nowhere, accepted, refused}
use Rattle.integer.specs.of_utf8.Utf8.{need as wanted}
use Rattle.integer.specs.of_names.Bytes.{bytes}
use Rattle.integer.specs.of_names.Names.{same_bytes, code_from}
use Rattle.integer.specs.of_names.Keys.{keys}
use Rattle.text.specs.of_reference.Reference.{ref_at}
use Rattle.table.specs.Event.{Attribute}
use Rattle.tree_put.specs.of_tree_record.Record.{marked}
use Rattle.tree_put.specs.Put.{blank}
use Rattle.read_keys.specs.Roles.{role_in, suite_role, role_of}
use Rattle.read_element.specs.Outcome.{◌>>=◌, Place, refused_at, there, need, element, Rooms, unlimited, fits}
use Rattle.read_element.specs.Attributes.{Given, storing, read_text, old_extra, new_extra, read_extra, by_role, numbered, read_attributes, complete, read_element}
use Rattle.integer.specs.of_refusal.declared.Cause.TheVariants as cause

-- a suite, before its first attribute
abbrev suite : Place
suite = record { path = element 2 0 1 ∷ []; event = 1; attribute = nowhere }

abbrev begun : Given
begun = record { main = blank 2; extras = []; texts = [] }

abbrev attribute : List ℕ → List ℕ → Attribute
attribute key value = record { good = true; key = key; value = value }

abbrev faulty : Attribute
faulty = record { good = false; key = []; value = [] }

abbrev records : ℕ → Rooms
records n = record { records = some n; text = none; scratch = none }

abbrev bytes_of : ℕ → Rooms
bytes_of n = record { records = none; text = some n; scratch = none }

-- the last byte of the text area is used; then a text is refused with 13
text-full : (storing (bytes_of 2) suite (bytes "a") (bytes "b") (λ texts. accepted texts) ≡ accepted (bytes "ab"))
    × (storing (bytes_of 2) suite (bytes "ab") (bytes "c") (λ texts. accepted texts) ≡ refused_at suite cause.TextFull)
unfolding need fits
text-full = (refl, refl)

-- a bad reference in an extra's key is told before a value that isn't UTF-8
key-first : read_extra unlimited suite 0 2 (attribute (bytes "&") (0xFF ∷ [])) begun ≡ refused_at suite cause.BadReference
unfolding read_extra ◌>>=◌ there wanted ref_at
key-first = refl

-- `a`, `d`, then `a` and U+0001, which the filter drops: the value is replaced, the key and the place stay
replaced :
    (read_extra unlimited suite 0 2 (attribute (bytes "a") (bytes "b")) begun
    >>= read_extra unlimited suite 0 2 (attribute (bytes "d") (bytes "e"))
    >>= read_extra unlimited suite 0 2 (attribute (0x61 ∷ 0x01 ∷ []) (bytes "c")))
    ≡ accepted (record { main = blank 2; extras = (13 ∷ 3 ∷ 0 ∷ 1 ∷ 4 ∷ 1 ∷ zeros 26) ∷ (13 ∷ 3 ∷ 2 ∷ 1 ∷ 3 ∷ 1 ∷ zeros 26) ∷ []; texts = bytes "abdec" })
unfolding read_extra old_extra new_extra ◌>>=◌ there need fits wanted same_bytes marked
replaced = refl

-- the path of a value's refusal has the Attribute, that of an extra's hasn't
attribute-in-path :
    (read_attributes unlimited suite 0 2 [] 4 (attribute (bytes "name") (0xFF ∷ []) ∷ []) begun
    ≡ refused (record { cause = cause.NotUtf8; path = element 2 0 1 ∷ element 16 1 nowhere ∷ []; event = 1; attribute = 4 }))
    × (read_attributes unlimited suite 0 2 [] 4 (attribute (bytes "k") (0xFF ∷ []) ∷ []) begun ≡ refused (record { cause = cause.NotUtf8; path = element 2 0 1 ∷ []; event = 1; attribute = 4 }))
unfolding read_attributes by_role read_text read_extra ◌>>=◌ there need wanted role_of suite_role role_in keys code_from same_bytes
attribute-in-path = (refl, refl)

-- a key that stands before is repeated; one that is an earlier value isn't
repeated :
    (read_attributes unlimited suite 0 2 [] 4 (attribute (bytes "k") (bytes "a") ∷ attribute (bytes "k") (bytes "b") ∷ []) begun ≡ refused_at (numbered suite 5) cause.RepeatedKey)
    × (read_attributes unlimited suite 0 2 [] 4 (attribute (bytes "k") (bytes "a") ∷ attribute (bytes "a") (0xFF ∷ []) ∷ []) begun ≡ refused_at (numbered suite 5) cause.NotUtf8)
unfolding read_attributes by_role read_extra new_extra ◌>>=◌ there need fits wanted role_of suite_role role_in keys code_from same_bytes marked
repeated = (refl, refl)

-- the last record is used; where none is left, 12 comes before the attributes
last-record :
    (read_element (records 1) suite 2 4 (attribute (bytes "name") (bytes "a") ∷ []) [] [] ≡ accepted (record { records = (2 ∷ 1 ∷ 0 ∷ 1 ∷ zeros 28) ∷ []; texts = bytes "a" }))
    × (read_element (records 1) suite 2 4 (faulty ∷ []) (blank 1 ∷ []) [] ≡ refused_at suite cause.RecordsSpent)
unfolding read_element complete read_attributes by_role read_text ◌>>=◌ there need fits wanted role_of suite_role role_in keys code_from same_bytes marked
last-record = (refl, refl)
