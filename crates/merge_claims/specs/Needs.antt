-- What stands against merging two trees, and what room the merged tree needs, in numbers of the two. Definitions only.
use Rattle.std.specs.Prelude.{ℕ, ◌+◌, ◌/◌, ◌≤◌, ◌<◌, min, cond, List, [], ◌∷◌, ◌⊎◌, length, get_or}
use Rattle.std.proofs.Math.Option.{Option, none, some}
use Rattle.tree_merge.specs.of_area.Limits.{most_records, most_bytes}
use Rattle.tree_merge.specs.of_schema.Schema.{Row, table_of}
use Rattle.tree_merge.specs.of_tree_record.Record.{kind_of}
use Rattle.tree_merge.specs.of_tree_report.Report.{Text, Duration, Report}
use Rattle.merge_listing.specs.Told.{or_nothing}
use Rattle.tree_merge.specs.Merged.{nanos_in}
use Rattle.tree_merge.specs.Moved.{has_text}
use Rattle.tree_merge.specs.Answer.{below_report}

-- ---- 17 (rules C3, J4 and J9)
-- the sum passes the limit of a count
abbrev pub Past : ℕ → ℕ → Type 0
Past m n = 18446744073709551615 < m + n

-- a missing count of disabled tests counts 0
abbrev pub CountsPast : Report → Report → Type 0
CountsPast p q =
    let c = p.counts in
    let d = q.counts in
    Past c.tests d.tests
    ⊎ (Past c.failures d.failures
    ⊎ (Past c.errors d.errors ⊎ (Past c.skipped d.skipped ⊎ Past (or_nothing c.disabled) (or_nothing d.disabled))))

-- ---- 22 (rules J5 and J9): 8,388,608 seconds, in nanoseconds; a missing time counts 0
abbrev pub nanos_or : Option Duration → ℕ
nanos_or none = 0
nanos_or (some d) = nanos_in d

abbrev pub TimePast : Report → Report → Type 0
TimePast p q = 8388608000000000 ≤ nanos_or p.time + nanos_or q.time

-- ---- 12 (rules J7 and J10): the merged report's record, and each live record but the two reports'
abbrev pub records_needed : (first second : List ℕ) → ℕ
records_needed first second = 1 + (length (below_report first) + length (below_report second))

abbrev pub RecordsShort : (first second : List ℕ) (words : ℕ) → Type 0
RecordsShort first second words = min (words / 32) most_records < records_needed first second

-- ---- 13 (rules J8 and J10): the lengths of all texts, also of those that share bytes
abbrev pub texts_by : List Row → List ℕ → ℕ
texts_by [] r = 0
texts_by (x ∷ xs) r = cond (has_text x r) (get_or r (x.word + 1) 0) 0 + texts_by xs r

abbrev pub text_bytes : List (List ℕ) → ℕ
text_bytes [] = 0
text_bytes (r ∷ rs) = texts_by (table_of (kind_of r)) r + text_bytes rs

abbrev pub name_bytes : Option Text → ℕ
name_bytes none = 0
name_bytes (some s) = length s

-- of the reports only the first's name is kept
abbrev pub bytes_needed : Report → (first second : List ℕ) → ℕ
bytes_needed p first second = name_bytes p.name + (text_bytes (below_report first) + text_bytes (below_report second))

abbrev pub BytesShort : Report → (first second : List ℕ) (bytes : ℕ) → Type 0
BytesShort p first second bytes = min bytes most_bytes < bytes_needed p first second
