-- The texts of a record by its presence bits, the kind saying which of these tell of texts. Definitions only.
use Rattle.std.specs.Prelude.{ℕ, ◌+◌, ◌/◌, ◌%◌, List, [], ◌++◌, Bool, cond, ◌&&◌, length, get_or, set, leb, eqb}
use Rattle.write_bytes.specs.of_tree_record.Kinds as kind
use Rattle.write_bytes.specs.of_tree_record.Record.{kind_of, has_bit}
use Rattle.write_bytes.specs.of_tree_record.Record as words

-- the values of the presence bits that tell of texts, added
unfoldable pub text_bits : ℕ → ℕ
text_bits k =
    cond (eqb k kind.suite) 1031
    (cond (eqb k kind.case) 39
    (cond (leb k kind.case_property) 3
    (cond (leb k kind.skipped) 97
    (cond (leb k kind.rerun_error) 231 3))))

abbrev pub has_text : Bool → ℕ → List ℕ → Bool
has_text is_slot k r = is_slot && has_bit k r

-- one text: its bytes, how many, its start
unfoldable pub text_at : Bool → ℕ → ℕ → (texts r : List ℕ) → List ℕ
text_at is_slot k o texts r = cond (has_text is_slot k r) (words.text_at texts r o) []

unfoldable pub size_at : Bool → ℕ → ℕ → List ℕ → ℕ
size_at is_slot k o r = cond (has_text is_slot k r) (get_or r (o + 1) 0) 0

-- into the words s
unfoldable pub start_at : Bool → ℕ → ℕ → (r : List ℕ) → ℕ → (s : List ℕ) → List ℕ
start_at is_slot k o r fill s = cond (has_text is_slot k r) (set s o fill) s

-- ---- three before the times, four behind them
module _ (m : ℕ) (texts : List ℕ) where
  abbrev pub name : List ℕ → List ℕ
  name r = text_at (eqb (m % 2) 1) 0 2 texts r

  abbrev pub out : List ℕ → List ℕ
  out r = text_at (eqb (m / 2 % 2) 1) 1 4 texts r

  abbrev pub err : List ℕ → List ℕ
  err r = text_at (eqb (m / 4 % 2) 1) 2 6 texts r

  abbrev pub type : List ℕ → List ℕ
  type r = text_at (eqb (m / 32 % 2) 1) 5 18 texts r

  abbrev pub description : List ℕ → List ℕ
  description r = text_at (eqb (m / 64 % 2) 1) 6 20 texts r

  abbrev pub trace : List ℕ → List ℕ
  trace r = text_at (eqb (m / 128 % 2) 1) 7 22 texts r

  abbrev pub host : List ℕ → List ℕ
  host r = text_at (eqb (m / 1024 % 2) 1) 10 28 texts r

  unfoldable pub front_texts : List ℕ → List ℕ
  front_texts r = name r ++ (out r ++ err r)

  unfoldable pub back_texts : List ℕ → List ℕ
  back_texts r = type r ++ (description r ++ (trace r ++ host r))

  unfoldable pub front_moved : ℕ → (r s : List ℕ) → List ℕ
  front_moved fill r s =
      let a = fill + length (name r) in
      start_at (eqb (m / 4 % 2) 1) 2 6 r (a + length (out r))
      (start_at (eqb (m / 2 % 2) 1) 1 4 r a (start_at (eqb (m % 2) 1) 0 2 r fill s))

  unfoldable pub back_moved : ℕ → (r s : List ℕ) → List ℕ
  back_moved fill r s =
      let a = fill + length (type r) in
      let b = a + length (description r) in
      start_at (eqb (m / 1024 % 2) 1) 10 28 r (b + length (trace r))
      (start_at (eqb (m / 128 % 2) 1) 7 22 r b (start_at (eqb (m / 64 % 2) 1) 6 20 r a (start_at (eqb (m / 32 % 2) 1) 5 18 r fill s)))

-- ---- a record
unfoldable pub row_texts : (texts r : List ℕ) → List ℕ
row_texts texts r = front_texts (text_bits (kind_of r)) texts r ++ back_texts (text_bits (kind_of r)) texts r

unfoldable pub row_moved_of : List ℕ → ℕ → List ℕ → List ℕ
row_moved_of texts fill r =
    let m = text_bits (kind_of r) in
    back_moved m texts (fill + length (front_texts m texts r)) r (front_moved m texts fill r r)

unfoldable pub sizes_of : List ℕ → ℕ
sizes_of r =
    let m = text_bits (kind_of r) in
    size_at (eqb (m % 2) 1) 0 2 r + size_at (eqb (m / 2 % 2) 1) 1 4 r + size_at (eqb (m / 4 % 2) 1) 2 6 r
    + size_at (eqb (m / 32 % 2) 1) 5 18 r + size_at (eqb (m / 64 % 2) 1) 6 20 r + size_at (eqb (m / 128 % 2) 1) 7 22 r
    + size_at (eqb (m / 1024 % 2) 1) 10 28 r
