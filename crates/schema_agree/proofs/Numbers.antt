-- Words and bits that checking and reading write as numbers are the tables', by computation. Assumes nothing.
use Prim.Native.Nat.{ℕ, suc, ◌+◌, ◌*◌, ◌≤◌}
use mathlib.Core.Bool.{Bool, cond, not, ◌&&◌, ◌||◌}
use mathlib.Core.List.{List, [], ◌∷◌, map}
use mathlib.Core.Path.{◌≡◌, refl}
use lib.Dec.{leb, eqb}
use lib.ListN.{get_or, drop}
use Rattle.read_content.specs.of_area.Area.{zeros}
use Rattle.read_content.specs.of_names.Names.{same_bytes}
use Rattle.read_content.specs.of_tree_record.Words as word
use Rattle.read_content.specs.of_tree_record.Bits as bit
use Rattle.read_content.specs.of_tree_record.Kinds as kind
use Rattle.read_content.specs.of_tree_record.Record.{marked}
use Rattle.read_content.specs.of_tree_report.Fields.{moment_of}
use Rattle.read_content.specs.of_read_element.inside.Held.{place_at, extra_words, Keyed}
use Rattle.read_content.specs.of_read_places.inside.Stands.{stored_key}
use Rattle.read_content.specs.of_read_attributes.inside.Elements.{missing_of}
use Rattle.read_content.specs.of_read_state.Control.{Output, out, err, trace}
use Rattle.read_content.specs.Content.{word_of, bit_of}
use Rattle.read_content.specs.of_schema.Schema.{time, timestamp, uuid, Presence, always, must, may, unkept, Row, behind, report, suite, case, main, skipped, run, property, extra, table_of}
use Rattle.read_content.specs.of_schema.Records.{is_set, value_at, fields_at, encode}
use Rattle.read_content.specs.of_schema.Texts.{fields_of}
use Rattle.read_content.specs.of_schema.Lookups.{has_row}

-- ---- the words within a field
pub moment-words : (r : List ℕ) → moment_of r ≡ value_at timestamp r word.timestamp
moment-words r = refl

pub time-words : (r : List ℕ) → value_at time r word.time ≡ record { seconds = get_or r word.seconds 0; nanos = get_or r word.time_nanos 0 }
time-words r = refl

pub uuid-words : (r : List ℕ)
    → value_at uuid r word.uuid ≡ record { a = get_or r word.uuid 0; b = get_or r (word.uuid + 1) 0; c = get_or r word.uuid_back 0; d = get_or r (word.uuid_back + 1) 0 }
uuid-words r = refl

-- ---- the first word behind a table's rows
abbrev free : ℕ → List Row → ℕ
free n [] = n
free n (x ∷ xs) = free (behind x) xs

pub free-words : map (free 2) (report ∷ suite ∷ case ∷ main ∷ skipped ∷ run ∷ property ∷ extra ∷ []) ≡ 28 ∷ 30 ∷ 22 ∷ 22 ∷ 22 ∷ 24 ∷ 6 ∷ 6 ∷ []
free-words = refl

-- ---- texts that are read from an element's content: the kinds of records that have one, at its word with its bit
abbrev kinds : List ℕ
kinds = 1 ∷ 2 ∷ 3 ∷ 4 ∷ 5 ∷ 6 ∷ 7 ∷ 8 ∷ 9 ∷ 10 ∷ 11 ∷ 12 ∷ 13 ∷ 14 ∷ []

abbrev is_run : ℕ → Bool
is_run k = leb kind.flaky_failure k && leb k kind.rerun_error

-- a suite, a case or a run (rule S12)
abbrev has_outputs : ℕ → Bool
has_outputs k = (leb kind.suite k && leb k kind.case) || is_run k

abbrev has_output : Output → ℕ → Bool
has_output o k = has_row (table_of k) 0 (word_of o) (bit_of o)

pub out-kinds : map (has_output out) kinds ≡ map has_outputs kinds
out-kinds = refl

pub err-kinds : map (has_output err) kinds ≡ map has_outputs kinds
err-kinds = refl

pub trace-kinds : map (has_output trace) kinds ≡ map is_run kinds
trace-kinds = refl

-- a status element
pub description-kinds
    : map (λ (k : ℕ). has_row (table_of k) 0 word.description bit.description) kinds ≡ map (λ (k : ℕ). leb kind.failure k && leb k kind.rerun_error) kinds
description-kinds = refl

-- ---- what may not be missing (rule A10)
abbrev lacked : Presence → ℕ → List ℕ → ℕ → ℕ
lacked always k r rest = rest
lacked (must b) k r rest = cond (eqb k 0) rest (cond (not (is_set b r)) k rest)
lacked (may b) k r rest = rest
lacked unkept k r rest = rest

abbrev missing_by : List Row → List ℕ → ℕ
missing_by [] r = 0
missing_by (x ∷ xs) r = lacked x.presence x.key r (missing_by xs r)

pub missing-kinds : (r : List ℕ) → map (λ (k : ℕ). missing_of k r) kinds ≡ map (λ (k : ℕ). missing_by (table_of k) r) kinds
missing-kinds r = refl

-- ---- an extra's record (rules A7 and A8)
pub extra-words : (k a b c d : ℕ) → extra_words k a b c d (zeros 32) ≡ encode k extra (record { start = a; size = b }, (record { start = c; size = d }, tt))
unfolding marked encode
extra-words k a b c d = refl

pub extra-place : (own text key : List ℕ) (n i : ℕ)
    → place_at own text key (suc n) i ≡ cond (same_bytes (fields_of extra text (drop (i * 32 + 32) own)).0 key) i (place_at own text key n (i + 1))
unfolding place_at
extra-place own text key n i = refl

pub extra-stored : (own text : List ℕ) (i : ℕ) → stored_key own text i ≡ (fields_of extra text (drop (i * 32 + 32) own)).0
extra-stored own text i = refl

pub extra-keyed : (n : ℕ) (r : List ℕ) (rs : List (List ℕ)) → Keyed n (r ∷ rs) → (fields_at extra r).0.start + (fields_at extra r).0.size ≤ n
extra-keyed n r rs k = k.1.0
