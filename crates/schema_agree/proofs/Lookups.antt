-- Words, bits and keys that are named elsewhere are the tables', by computation: the constants of a record, the codes of writing, the
-- fields of a builder. Assumes nothing.
use Prim.Native.Nat.{ℕ, ◌^◌}
use mathlib.Core.Bool.{true, false, ◌&&◌}
use mathlib.Core.List.{List, [], ◌∷◌, map}
use mathlib.Core.Option.{Option}
use mathlib.Core.Path.{◌≡◌, refl}
use Rattle.read_content.specs.of_names.Keys as key
use Rattle.read_content.specs.of_tree_record.Words as word
use Rattle.read_content.specs.of_tree_record.Bits as bit
use Rattle.read_content.specs.of_tree_record.Kinds as kind
use Rattle.write_items.specs.inside.Slots as code
use Rattle.write_items.specs.inside.Values.{report_name, codes_of, key_name, offset_of}
use Rattle.build_draft.specs.declared.TextField.{TextField}
use Rattle.build_draft.specs.declared.TextField.TheVariants.{Classname, Message, Ty, Description, StackTrace, SystemOut, SystemErr, Hostname}
use Rattle.build_draft.specs.Parts.{counts_in, has_text, word_for, bit_for, has_times}
use Rattle.read_content.specs.of_names.Keys.{keys}
use Rattle.read_content.specs.of_schema.Schema.{Row, report, suite, case, main, skipped, run, property, extra, table_of}
use Rattle.read_content.specs.of_schema.Lookups.{text_in_of, words_in, is_among, bit_or, bits_by, may_or, has_row, in_order_of, words_agree}
use Rattle.read_content.specs.of_schema.Records.{given, fields_at}
use Rattle.read_content.specs.of_schema.Stores.{row_at}

-- ---- the constants of a record; 32 stands for no bit
report-places : words_in report ≡ word.name ∷ word.uuid ∷ word.timestamp ∷ word.time ∷ word.tests ∷ word.failures ∷ word.errors ∷ word.skipped ∷ word.disabled ∷ []
report-places = refl

report-bits : bits_by 32 report ≡ bit.name ∷ bit.uuid ∷ bit.timestamp ∷ bit.time ∷ 32 ∷ 32 ∷ 32 ∷ 32 ∷ bit.disabled ∷ []
report-bits = refl

suite-places
    : words_in suite
    ≡ word.name ∷ word.out ∷ word.err ∷ word.timestamp ∷ word.time ∷ word.tests ∷ word.failures ∷ word.errors ∷ word.skipped ∷ word.disabled ∷ word.hostname ∷ []
suite-places = refl

suite-bits : bits_by 32 suite ≡ bit.name ∷ bit.out ∷ bit.err ∷ bit.timestamp ∷ bit.time ∷ 32 ∷ 32 ∷ 32 ∷ 32 ∷ bit.disabled ∷ bit.hostname ∷ []
suite-bits = refl

case-places : words_in case ≡ word.name ∷ word.out ∷ word.err ∷ word.timestamp ∷ word.time ∷ word.classname ∷ word.assertions ∷ []
case-places = refl

case-bits : bits_by 32 case ≡ bit.name ∷ bit.out ∷ bit.err ∷ bit.timestamp ∷ bit.time ∷ bit.classname ∷ bit.assertions ∷ []
case-bits = refl

-- a row without words has that of the next; the flaky bit none
main-places : words_in main ≡ word.message ∷ word.type ∷ word.type ∷ word.type ∷ word.description ∷ 22 ∷ []
main-places = refl

main-bits : bits_by 32 main ≡ bit.message ∷ 32 ∷ 32 ∷ bit.type ∷ bit.description ∷ bit.flaky ∷ []
main-bits = refl

skipped-places : words_in skipped ≡ word.message ∷ word.type ∷ word.type ∷ word.type ∷ word.description ∷ []
skipped-places = refl

skipped-bits : bits_by 32 skipped ≡ bit.message ∷ 32 ∷ 32 ∷ bit.type ∷ bit.description ∷ []
skipped-bits = refl

run-places : words_in run ≡ word.message ∷ word.out ∷ word.err ∷ word.timestamp ∷ word.time ∷ word.type ∷ word.description ∷ word.stack_trace ∷ []
run-places = refl

run-bits : bits_by 32 run ≡ bit.message ∷ bit.out ∷ bit.err ∷ bit.timestamp ∷ bit.time ∷ bit.type ∷ bit.description ∷ bit.stack_trace ∷ []
run-bits = refl

property-places : words_in property ≡ word.name ∷ word.value ∷ []
property-places = refl

property-bits : bits_by 32 property ≡ bit.name ∷ bit.value ∷ []
property-bits = refl

extra-places : words_in extra ≡ word.key ∷ word.value ∷ []
extra-places = refl

extra-bits : bits_by 32 extra ≡ bit.key ∷ bit.value ∷ []
extra-bits = refl

-- ---- the codes of writing
abbrev tables : List (List Row)
tables = report ∷ suite ∷ case ∷ main ∷ skipped ∷ run ∷ property ∷ []

-- the byte strings of `write_document`, `write_suite`, `write_case`, `write_status` (twice), `write_run` and `write_status`
pub code-strings
    : map codes_of tables
    ≡ (16 ∷ 6 ∷ 9 ∷ 7 ∷ 8 ∷ 10 ∷ 3 ∷ 4 ∷ 5 ∷ [])
    ∷ (1 ∷ 6 ∷ 9 ∷ 8 ∷ 7 ∷ 10 ∷ 4 ∷ 5 ∷ 15 ∷ [])
    ∷ (1 ∷ 2 ∷ 11 ∷ 4 ∷ 5 ∷ [])
    ∷ (12 ∷ 13 ∷ [])
    ∷ (12 ∷ 13 ∷ [])
    ∷ (4 ∷ 5 ∷ 12 ∷ 13 ∷ [])
    ∷ (1 ∷ 14 ∷ [])
    ∷ []
code-strings = refl

-- the name and the presence bit of each code
abbrev coded : List ℕ → List (List ℕ × ℕ)
coded cs = map (λ (c : ℕ). (key_name c, code.bit_of c)) cs

abbrev rowed : List Row → List (List ℕ × ℕ)
rowed xs = map (λ (x : Row). (text_in_of key.table x.key, may_or code.always x.presence)) xs

pub codes-agree : map (λ (xs : List Row). coded (codes_of xs)) tables ≡ map (λ (xs : List Row). rowed (in_order_of xs)) tables
unfolding key_name keys code.bit_of
codes-agree = refl

-- the word of a text or number
pub code-words-agree : map (λ (xs : List Row). words_agree offset_of (codes_of xs) (in_order_of xs)) tables ≡ map (λ (xs : List Row). true) tables
unfolding offset_of
code-words-agree = refl

-- what stands for no bit is none, and a report's name has no other key's code
pub always-free : map (λ (xs : List Row). is_among code.always (bits_by 33 xs)) tables ≡ map (λ (xs : List Row). false) tables
always-free = refl

pub report-name-free : text_in_of key.table report_name ≡ []
report-name-free = refl

-- ---- the fields of a builder (rule B4): the kinds of records that have a text, at its word with its bit
abbrev kinds : List ℕ
kinds = 1 ∷ 2 ∷ 3 ∷ 4 ∷ 5 ∷ 6 ∷ 7 ∷ 8 ∷ 9 ∷ 10 ∷ 11 ∷ 12 ∷ 13 ∷ 14 ∷ []

-- what is no attribute has key 0
abbrev key_for : TextField → ℕ
key_for Classname = key.classname
key_for Message = key.message
key_for Ty = key.type
key_for Description = 0
key_for StackTrace = 0
key_for SystemOut = 0
key_for SystemErr = 0
key_for Hostname = key.hostname

text-kinds : (f : TextField) → map (λ (n : ℕ). has_text n f) kinds ≡ map (λ (n : ℕ). has_row (table_of n) (key_for f) (word_for f) (bit_for f)) kinds
text-kinds Classname = refl
text-kinds Message = refl
text-kinds Ty = refl
text-kinds Description = refl
text-kinds StackTrace = refl
text-kinds SystemOut = refl
text-kinds SystemErr = refl
text-kinds Hostname = refl

times-kinds
    : map has_times kinds
    ≡ map (λ (n : ℕ). has_row (table_of n) key.timestamp word.timestamp bit.timestamp && has_row (table_of n) key.time word.time bit.time) kinds
times-kinds = refl

-- a case's assertions and a suite's `disabled`
number-kinds : has_row (table_of kind.case) key.assertions word.assertions bit.assertions && has_row (table_of kind.suite) key.disabled word.disabled bit.disabled ≡ true
number-kinds = refl

-- the counts that a builder raises (rule B8)
abbrev count_rows : (r : List ℕ) → ℕ × ℕ × ℕ × ℕ × Option ℕ
count_rows r = let c = (fields_at suite r).1.1.1.1.1 in (c.0, c.1.0, c.1.1.0, c.1.1.1.0, c.1.1.1.1.0)

counts-agree : (r : List ℕ) → let c = counts_in r in (c.tests, c.failures, c.errors, c.skipped, given c.presence c.disabled) ≡ count_rows r
counts-agree r = refl

-- the mask with which `build_runs` takes the flaky bit away
flaky-mask : 2 ^ bit_or 32 (row_at main 5).presence ≡ 512
flaky-mask = refl
