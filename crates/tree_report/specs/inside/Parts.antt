-- The parts that the code of a record's check is made of; the theorems of proofs/ByTable.antt and ByKind.antt tie them to the
-- tables. Definitions only.
use Rattle.std.specs.Prelude.{ℕ, ◌+◌, List, [], ◌∷◌, Bool, cond, true, ◌&&◌, ◌||◌, length, get_or, leb, eqb}
use Rattle.schema.specs.of_utf8.Characters.{boundary}
use Rattle.schema.specs.of_timestamp.Timestamp.{in_range}
use Rattle.tree_status.specs.of_tree_record.Words as word
use Rattle.tree_status.specs.of_tree_record.Bits as bit
use Rattle.tree_status.specs.of_tree_record.Kinds as kind
use Rattle.tree_status.specs.of_tree_record.Record.{mask_of}
use Rattle.schema.specs.Schema.{report, suite, case}
use Rattle.schema.specs.Records.{zero_at, good}
use Rattle.tree_report.specs.Fields.{kind_of, has_bit, moment_of}

-- a text: it ends within the texts, and its ends are no middle of a character
unfoldable pub good_text_at : List ℕ → List ℕ → ℕ → Bool
good_text_at texts r o =
    leb (get_or r o 0 + get_or r (o + 1) 0) (length texts) && (boundary texts (get_or r o 0) && boundary texts (get_or r o 0 + get_or r (o + 1) 0))

-- present with good words, or absent with words of zero
abbrev pub slot : Bool → Bool → Bool → Bool
slot present good absent = cond present good absent

abbrev pub text_slot : List ℕ → List ℕ → ℕ → ℕ → Bool
text_slot texts r k o = slot (has_bit k r) (good_text_at texts r o) (zero_at r o 2)

-- in their ranges (rule M10)
abbrev pub moment_slot : List ℕ → Bool
moment_slot r = slot (has_bit bit.timestamp r) (in_range (moment_of r)) (zero_at r word.timestamp 8)

-- rule M10
abbrev pub time_slot : List ℕ → Bool
time_slot r = slot (has_bit bit.time r) (leb (get_or r word.seconds 0) 8388607 && leb (get_or r word.time_nanos 0) 999999999) (zero_at r word.time 2)

-- no presence bits but these are set
abbrev pub bits_of : List ℕ → List ℕ → ℕ
bits_of [] r = 0
bits_of (k ∷ ks) r = cond (has_bit k r) (mask_of k) 0 + bits_of ks r

abbrev pub only_bits : List ℕ → List ℕ → Bool
only_bits ks r = eqb (get_or r word.bits 0) (bits_of ks r)

-- what every record has: a name, message or key, a timestamp, a time
unfoldable pub good_common : List ℕ → List ℕ → Bool
good_common texts r = text_slot texts r bit.name word.name && (moment_slot r && time_slot r)

-- the texts of an output, or a value
unfoldable pub good_outputs : List ℕ → List ℕ → Bool
good_outputs texts r = text_slot texts r bit.out word.out && text_slot texts r bit.err word.err

-- counts may be anything; behind a report's words 28 to 31 are free, behind a suite's, which has a host, 30 and 31
abbrev pub disabled_slot : List ℕ → Bool
disabled_slot r = slot (has_bit bit.disabled r) true (zero_at r word.disabled 2)

unfoldable pub good_counts : List ℕ → Bool
good_counts r = disabled_slot r && zero_at r 28 4

unfoldable pub good_host : List ℕ → List ℕ → Bool
good_host texts r = disabled_slot r && (text_slot texts r bit.hostname word.hostname && zero_at r 30 2)

abbrev pub report_bits : List ℕ
report_bits = bit.name ∷ bit.uuid ∷ bit.timestamp ∷ bit.time ∷ bit.disabled ∷ []

abbrev pub suite_bits : List ℕ
suite_bits = bit.name ∷ bit.out ∷ bit.err ∷ bit.timestamp ∷ bit.time ∷ bit.disabled ∷ bit.hostname ∷ []

abbrev pub case_bits : List ℕ
case_bits = bit.name ∷ bit.out ∷ bit.err ∷ bit.timestamp ∷ bit.time ∷ bit.classname ∷ bit.assertions ∷ []

abbrev pub pair_bits : List ℕ
pair_bits = bit.name ∷ bit.value ∷ []

-- failure and error
abbrev pub main_bits : List ℕ
main_bits = bit.message ∷ bit.type ∷ bit.description ∷ bit.flaky ∷ []

abbrev pub skipped_bits : List ℕ
skipped_bits = bit.message ∷ bit.type ∷ bit.description ∷ []

abbrev pub run_bits : List ℕ
run_bits = bit.message ∷ bit.out ∷ bit.err ∷ bit.timestamp ∷ bit.time ∷ bit.type ∷ bit.description ∷ bit.stack_trace ∷ []

-- by the tables of crate schema
unfoldable pub good_report : List ℕ → List ℕ → Bool
good_report texts r = good report texts r

unfoldable pub good_suite : List ℕ → List ℕ → Bool
good_suite texts r = good suite texts r

unfoldable pub good_case : List ℕ → List ℕ → Bool
good_case texts r = good case texts r

-- a property or extra has name or key and value; a main has message, type and description, and a failure or error the
-- flaky bit; a run has all texts, timestamp and time
unfoldable pub bits_for : ℕ → List ℕ
bits_for k =
    cond (leb k kind.case_property || leb kind.suite_extra k) pair_bits
    (cond (leb k kind.error) main_bits
    (cond (leb k kind.skipped) skipped_bits run_bits))

unfoldable pub good_other : List ℕ → List ℕ → Bool
good_other texts r =
    only_bits (bits_for (kind_of r)) r
    && (((leb kind.failure (kind_of r) && leb (kind_of r) kind.rerun_error) || (has_bit bit.name r && has_bit bit.value r))
    && (good_common texts r
    && (good_outputs texts r
    && (text_slot texts r bit.type word.type
    && (text_slot texts r bit.description word.description && (text_slot texts r bit.stack_trace word.stack_trace && zero_at r 24 8))))))
