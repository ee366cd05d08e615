-- Names by their codes, and the values of a record under the keys. Definitions only.
use Rattle.std.specs.Prelude.{ℕ, zero, suc, ◌+◌, ◌-◌, List, [], ◌∷◌, ◌++◌, map, cond, ◌&&◌, ◌||◌, get_or, take, drop, leb, eqb}
use Rattle.write_report.specs.of_names.Bytes.{bytes}
use Rattle.write_report.specs.of_names.Tags.{tags}
use Rattle.write_report.specs.of_names.Keys.{keys}
use Rattle.write_report.specs.of_names.Keys as key
use Rattle.write_report.specs.of_digits.Digits.{decimal}
use Rattle.write_report.specs.of_time_text.Written.{written_time}
use Rattle.write_report.specs.of_write_escape.Escape.{escaped}
use Rattle.write_report.specs.of_write_moment.Written.{timestamp_text}
use Rattle.write_report.specs.of_write_uuid.Written.{uuid_text}
use Rattle.write_report.specs.of_uuids.declared.Words.{Words}
use Rattle.write_report.specs.of_tree_record.Words as word
use Rattle.write_report.specs.of_schema.Schema.{Presence, always, must, may, unkept, Row}
use Rattle.write_report.specs.of_schema.Lookups.{in_order_of}
use Rattle.write_report.specs.of_tree_report.Fields.{text_at, number_at, moment_of}

-- the name with a code, counted from 1
abbrev pub named : List (List ℕ) → ℕ → List ℕ
named names zero = []
named [] (suc n) = []
named (x ∷ xs) (suc zero) = x
named (x ∷ xs) (suc (suc n)) = named xs (suc n)

unfoldable pub tag_name : ℕ → List ℕ
tag_name code = named tags code

-- the code of a report's name, which may be missing
abbrev pub report_name : ℕ
report_name = 16

-- the code of a row's key
abbrev pub name_code : Presence → ℕ
name_code always = key.name
name_code (must k) = key.name
name_code (may k) = report_name
name_code unkept = key.name

abbrev pub code_of : Row → ℕ
code_of x = cond (eqb x.key key.name) (name_code x.presence) x.key

-- the codes of an element's attributes, in their order (rules W2 and W6)
abbrev pub codes_of : List Row → List ℕ
codes_of xs = map code_of (in_order_of xs)

-- the keys by their codes, and that name
unfoldable pub key_name : ℕ → List ℕ
key_name code = named (keys ++ (bytes "name" ∷ [])) code

-- of names that stand one behind the other, the one between two starts
abbrev pub cut_at : List ℕ → List ℕ → ℕ → List ℕ
cut_at names starts code = take (get_or starts (code + 1) 0 - get_or starts code 0) (drop (get_or starts code 0) names)

abbrev pub words_of : List ℕ → Words
words_of r =
    record { a = get_or r word.uuid 0; b = get_or r (word.uuid + 1) 0; c = get_or r word.uuid_back 0; d = get_or r (word.uuid_back + 1) 0 }

-- the word of a text or number under a key
unfoldable pub offset_of : ℕ → ℕ
offset_of code =
    cond (eqb code key.classname || (eqb code key.tests || eqb code key.type)) word.classname
    (cond (eqb code key.failures || eqb code key.assertions) word.failures
    (cond (eqb code key.errors) word.errors
    (cond (eqb code key.skipped) word.skipped
    (cond (eqb code key.disabled) word.disabled
    (cond (eqb code key.hostname) word.hostname
    (cond (eqb code key.value) word.value word.name))))))

unfoldable pub value_of : List ℕ → List ℕ → ℕ → List ℕ
value_of text r code =
    cond (eqb code key.uuid) (uuid_text (words_of r))
    (cond (eqb code key.timestamp) (timestamp_text (moment_of r))
    (cond (eqb code key.time) (written_time (get_or r word.seconds 0) (get_or r word.time_nanos 0))
    (cond (leb key.tests code && leb code key.assertions) (decimal (number_at r (offset_of code)))
    (escaped (text_at text r (offset_of code))))))
