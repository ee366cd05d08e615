-- Records whose texts are copied behind others: which words are a text is what the rows of a record's kind say (crate schema). Definitions only.
use Rattle.std.specs.Prelude.{ℕ, ◌+◌, List, [], ◌∷◌, ◌++◌, Bool, true, false, cond, ◌&&◌, length, set}
use Rattle.starts.specs.of_schema.Schema.{Form, text, number, time, timestamp, uuid, flag, Presence, always, must, may, unkept, Row, table_of}
use Rattle.starts.specs.of_schema.Records.{is_set}
use Rattle.starts.specs.of_schema.Texts.{shown_slot, fields_of, stored, stored_in}
use Rattle.starts.specs.of_tree_record.Record.{kind_of}

-- ---- a row
abbrev pub is_text : Form → Bool
is_text text = true
is_text number = false
is_text time = false
is_text timestamp = false
is_text uuid = false
is_text flag = false

abbrev pub is_there : Presence → List ℕ → Bool
is_there always r = true
is_there (must k) r = true
is_there (may k) r = is_set k r
is_there unkept r = false

-- the record r has a text there
abbrev pub has_text : Row → List ℕ → Bool
has_text x r = is_text x.form && is_there x.presence r

-- what the row adds to the texts
abbrev pub text_in_of : Row → (texts r : List ℕ) → List ℕ
text_in_of x texts r = stored x.presence x.form (shown_slot texts x.presence x.form r x.word)

-- ---- a record
-- the texts that it has, in the order of its words, one behind the other
unfoldable pub texts_of : (texts r : List ℕ) → List ℕ
texts_of texts r = stored_in (table_of (kind_of r)) (fields_of (table_of (kind_of r)) texts r)

-- the words s with the starts of r's texts from byte fill on
abbrev pub moved_by : List Row → List ℕ → ℕ → (r s : List ℕ) → List ℕ
moved_by [] texts fill r s = s
moved_by (x ∷ xs) texts fill r s = moved_by xs texts (fill + length (text_in_of x texts r)) r (cond (has_text x r) (set s x.word fill) s)

-- all words but these starts stay (rule J8)
unfoldable pub moved_to : List ℕ → ℕ → List ℕ → List ℕ
moved_to texts fill r = moved_by (table_of (kind_of r)) texts fill r r

-- ---- records one behind the other
abbrev pub texts_in : List ℕ → List (List ℕ) → List ℕ
texts_in texts [] = []
texts_in texts (r ∷ rs) = texts_of texts r ++ texts_in texts rs

abbrev pub moved_from : List ℕ → ℕ → List (List ℕ) → List (List ℕ)
moved_from texts fill [] = []
moved_from texts fill (r ∷ rs) = moved_to texts fill r ∷ moved_from texts (fill + length (texts_of texts r)) rs
