-- The merged tree by the words of two, as the code finds it. Definitions only.
use Rattle.std.specs.Prelude.{ℕ, ◌+◌, ◌*◌, ◌≤◌, cond, List, [], ◌++◌, ◌≡◌, leb, length}
use Rattle.clearing.specs.of_area.Answer.{Answer, gives, refuses}
use Rattle.clearing.specs.of_area.Area.{zeros}
use Rattle.clearing.specs.of_area.Limits.{most_words, most_bytes}
use Rattle.clearing.specs.of_refusal.declared.Cause.TheVariants as cause
use Rattle.merge_records.specs.of_schema.Stores.{splice}
use Rattle.merge_records.specs.of_list_sums.inside.Rows.{records_in}
use Rattle.merge_records.specs.of_tree_record.Record.{live, has_bit, text_at}
use Rattle.merge_records.specs.of_tree_report.ReportOf.{only}
use Rattle.merge_records.specs.of_tree_counts.declared.Counts.{Counts}
use Rattle.merge_records.specs.of_tree_counts.Counts.{added, are_counts}
use Rattle.merge_head.specs.of_build_draft.Parts.{counts_in}
use Rattle.merge_head.specs.inside.Head.{first_of, nanos_in, name_size, head_of}
use Rattle.merge_limits.specs.inside.Limits.{room_by}
use Rattle.merge_records.specs.inside.Copied.{below_in, sizes_in, texts_for, records_for}

unfoldable pub report_in : List ℕ → List ℕ
report_in words = first_of (only live (records_in words))

unfoldable pub name_text : (text r : List ℕ) → List ℕ
name_text text r = cond (has_bit 0 r) (text_at text r 2) []

abbrev pub sums_of : (a b : List ℕ) → Counts
sums_of a b = added (counts_in (report_in a)) (counts_in (report_in b))

abbrev pub nanos_for : (a b : List ℕ) → ℕ
nanos_for a b = nanos_in (report_in a) + nanos_in (report_in b)

-- the two trees' records, behind the report's; their texts, behind its name
unfoldable pub rows_for : (a s b t : List ℕ) → ℕ → List ℕ
rows_for a s b t fill = records_for s fill (below_in a) ++ records_for t (fill + length (texts_for s (below_in a))) (below_in b)

unfoldable pub row_texts_for : (a s b t : List ℕ) → List ℕ
row_texts_for a s b t = texts_for s (below_in a) ++ texts_for t (below_in b)

unfoldable pub tree_texts : (a s b t : List ℕ) → List ℕ
tree_texts a s b t = name_text s (report_in a) ++ row_texts_for a s b t

unfoldable pub tree_words : (a s b t : List ℕ) → List ℕ
tree_words a s b t = head_of (report_in a) (report_in b) (sums_of a b) (nanos_for a b) (zeros 32) ++ rows_for a s b t (length (name_text s (report_in a)))

-- ---- 17, then 22, then 12, then 13
unfoldable pub room_for : (a b : List ℕ) (words bytes : ℕ) → Answer (Unit {0})
room_for a b words bytes = room_by (length (below_in a) + length (below_in b)) (name_size (report_in a) + sizes_in (below_in a) + sizes_in (below_in b)) words bytes

unfoldable pub used_answer : (a b : List ℕ) (words bytes : ℕ) → Answer (Unit {0})
used_answer a b words bytes =
    cond (are_counts (sums_of a b)) (cond (leb 8388608000000000 (nanos_for a b)) (refuses cause.TimeLimit) (room_for a b words bytes)) (refuses cause.CountLimit)

-- what is left in an area of n zeros
abbrev pub left_by : Answer (Unit {0}) → ℕ → List ℕ → List ℕ
left_by (gives u) n f = splice 0 f (zeros n)
left_by (refuses c) n f = zeros n

-- ---- what the code needs to know of the trees
pub record Sized (a s b t : List ℕ) : Type 0 where
  pub texts : name_size (report_in a) + sizes_in (below_in a) + sizes_in (below_in b) ≡ length (tree_texts a s b t)
  pub first : length a ≤ most_words
  pub second : length b ≤ most_words

-- there is room for all of it
pub record Enough (a s b t records bytes : List ℕ) : Type 0 where
  pub words : 32 + (length (below_in a) + length (below_in b)) * 32 ≤ length records
  pub fits : length (tree_texts a s b t) ≤ length bytes
  pub most : length bytes ≤ most_bytes

-- the result areas before anything is put
pub record Zero (records bytes : List ℕ) : Type 0 where
  pub words : records ≡ zeros (length records)
  pub texts : bytes ≡ zeros (length bytes)
  pub most : length bytes ≤ most_bytes
