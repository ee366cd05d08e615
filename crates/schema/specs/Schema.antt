-- What stands where in a record, docs/TREE.md, "Records": one row for each field of an element. Definitions only.
use Rattle.std.specs.Prelude.{ℕ, ◌+◌, List, [], ◌∷◌, Bool, true, cond, ◌&&◌, leb, eqb}
use Rattle.std.proofs.Math.Option.{Option, none, some}
use Rattle.timestamp.specs.of_names.Keys as key
use Rattle.tree_record.specs.Kinds as kind

-- a text, a count, a time, a timestamp, a UUID; a bit alone
pub data Form : Type 0 where
  text number time timestamp uuid flag : Form

-- without a presence bit; with one that is set in every record; with one that may be set; read, and not kept
pub data Presence : Type 0 where
  always : Presence
  must : ℕ → Presence
  may : ℕ → Presence
  unkept : Presence

-- the code of the key that gives it, 0 where it is no attribute; its form; its first word; its presence bit; its place
-- among the attributes that are written, from 1, 0 where it isn't written as one
pub record Row : Type 0 where
  pub key : ℕ
  pub form : Form
  pub word : ℕ
  pub presence : Presence
  pub place : ℕ

-- an attribute
abbrev pub row : ℕ → Form → ℕ → Presence → ℕ → Row
row k t w p n = record { key = k; form = t; word = w; presence = p; place = n }

-- what is no attribute
abbrev pub inner : Form → ℕ → Presence → Row
inner t w p = row 0 t w p 0

-- ---- the elements: key, form, first word, presence, place in writing (rules A5 and W2). Words and bits go up along the rows;
-- docs/check compares them with the table of docs/TREE.md, which calls what is no attribute by the name behind its row
abbrev pub report : List Row
report =
    row key.name text 2 (may 0) 1
    ∷ row key.uuid uuid 4 (may 1) 7
    ∷ row key.timestamp timestamp 8 (may 3) 8
    ∷ row key.time time 16 (may 4) 9
    ∷ row key.tests number 18 always 2
    ∷ row key.failures number 20 always 4
    ∷ row key.errors number 22 always 5
    ∷ row key.skipped number 24 always 3
    ∷ row key.disabled number 26 (may 8) 6
    ∷ []

-- errors are written before failures, other than on the report (rule W2)
abbrev pub suite : List Row
suite =
    row key.name text 2 (must 0) 1
    ∷ inner text 4 (may 1)  -- system-out
    ∷ inner text 6 (may 2)  -- system-err
    ∷ row key.timestamp timestamp 8 (may 3) 7
    ∷ row key.time time 16 (may 4) 8
    ∷ row key.tests number 18 always 2
    ∷ row key.failures number 20 always 5
    ∷ row key.errors number 22 always 4
    ∷ row key.skipped number 24 always 3
    ∷ row key.disabled number 26 (may 8) 6
    ∷ row key.hostname text 28 (may 10) 9
    ∷ []

abbrev pub case : List Row
case =
    row key.name text 2 (must 0) 1
    ∷ inner text 4 (may 1)  -- system-out
    ∷ inner text 6 (may 2)  -- system-err
    ∷ row key.timestamp timestamp 8 (may 3) 4
    ∷ row key.time time 16 (may 4) 5
    ∷ row key.classname text 18 (may 5) 2
    ∷ row key.assertions number 20 (may 6) 3
    ∷ []

-- a failure or error: its timestamp and time are read and not kept (rule S12); a row without words has that of the next
abbrev pub main : List Row
main =
    row key.message text 2 (may 0) 1
    ∷ row key.timestamp timestamp 18 unkept 0
    ∷ row key.time time 18 unkept 0
    ∷ row key.type text 18 (may 5) 2
    ∷ inner text 20 (may 6)  -- description
    ∷ inner flag 22 (may 9)  -- flaky
    ∷ []

-- the same without the flaky bit (rule S11)
abbrev pub skipped : List Row
skipped =
    row key.message text 2 (may 0) 1
    ∷ row key.timestamp timestamp 18 unkept 0
    ∷ row key.time time 18 unkept 0
    ∷ row key.type text 18 (may 5) 2
    ∷ inner text 20 (may 6)  -- description
    ∷ []

-- rule W6
abbrev pub run : List Row
run =
    row key.message text 2 (may 0) 3
    ∷ inner text 4 (may 1)  -- system-out
    ∷ inner text 6 (may 2)  -- system-err
    ∷ row key.timestamp timestamp 8 (may 3) 1
    ∷ row key.time time 16 (may 4) 2
    ∷ row key.type text 18 (may 5) 4
    ∷ inner text 20 (may 6)  -- description
    ∷ inner text 22 (may 7)  -- stack trace
    ∷ []

-- a property of a suite or case (rule A6)
abbrev pub property : List Row
property =
    row key.name text 2 (must 0) 1
    ∷ row key.value text 4 (must 1) 2
    ∷ []

-- an attribute with any other key (rule A7)
abbrev pub extra : List Row
extra =
    inner text 2 (must 0)  -- key
    ∷ inner text 4 (must 1)  -- value
    ∷ []

-- the table of a record's kind; behind the kinds of extras there is none
abbrev pub table_of : ℕ → List Row
table_of k =
    cond (eqb k kind.report) report
    (cond (eqb k kind.suite) suite
    (cond (eqb k kind.case) case
    (cond (leb k kind.case_property) property
    (cond (leb k kind.error) main
    (cond (leb k kind.skipped) skipped
    (cond (leb k kind.rerun_error) run extra))))))

-- ---- the test of a table: words and bits go up, and are words and bits of a record
abbrev pub width : Form → ℕ
width text = 2
width number = 2
width time = 2
width timestamp = 8
width uuid = 4
width flag = 0

abbrev pub width_if : Presence → ℕ → ℕ
width_if always n = n
width_if (must k) n = n
width_if (may k) n = n
width_if unkept n = 0

-- the word behind a row
abbrev pub behind : Row → ℕ
behind x = x.word + width_if x.presence (width x.form)

abbrev pub bit_of : Presence → Option ℕ
bit_of always = none
bit_of (must k) = some k
bit_of (may k) = some k
bit_of unkept = none

-- the next free bit
abbrev pub after : ℕ → Option ℕ → ℕ
after b none = b
after b (some k) = k + 1

abbrev pub fine_bit : ℕ → Option ℕ → Bool
fine_bit b none = true
fine_bit b (some k) = leb b k && leb k 31

abbrev pub fine_from : ℕ → ℕ → List Row → Bool
fine_from w b [] = leb w 32
fine_from w b (x ∷ xs) =
    leb w x.word
    && (leb (behind x) 32 && (fine_bit b (bit_of x.presence) && fine_from (behind x) (after b (bit_of x.presence)) xs))

-- words 0 and 1 are the kind and the presence bits
abbrev pub fine : List Row → Bool
fine xs = fine_from 2 0 xs
