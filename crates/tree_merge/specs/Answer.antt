-- What merging two trees answers and leaves in the two areas (rules J1, J7 to J10 and F13). Definitions only.
use Rattle.std.specs.Prelude.{ℕ, ◌+◌, ◌/◌, min, List, [], ◌∷◌, ◌++◌, Bool, true, cond, not, ◌&&◌, length, leb, ltb}
use Rattle.std.proofs.Math.Option.{Option, none, some}
use Rattle.starts.specs.of_area.Answer.{Answer, gives, refuses}
use Rattle.starts.specs.of_area.Area.{zeros, laid}
use Rattle.starts.specs.of_area.Limits.{most_records, most_bytes}
use Rattle.tree_counts.specs.of_refusal.Refusal.{Outcome, accepted, refused, late}
use Rattle.tree_counts.specs.of_refusal.declared.Cause.TheVariants as cause
use Rattle.starts.specs.of_utf8.Characters.{joined}
use Rattle.starts.specs.of_schema.Elements.{report_fields}
use Rattle.starts.specs.of_schema.Schema.{report}
use Rattle.starts.specs.of_schema.Texts.{stored_in, record_at}
use Rattle.tree_counts.specs.Counts.{is_count}
use Rattle.starts.specs.of_tree_record.Kinds as kind
use Rattle.starts.specs.of_tree_report.Encode.{Encoding}
use Rattle.starts.specs.of_tree_report.Fields.{live, is_report}
use Rattle.starts.specs.of_tree_report.Layout.{layout, records_of, used_text}
use Rattle.starts.specs.of_tree_report.Report.{Duration, Counts, Report}
use Rattle.starts.specs.of_tree_report.ReportOf.{only, report_of}
use Rattle.tree_merge.specs.Merged.{merged_report}
use Rattle.tree_merge.specs.Moved.{texts_in, moved_from}

-- ---- the merged tree
abbrev pub both_by : {A : Type 0} → (A → A → A) → Option A → Option A → Option A
both_by f none b = none
both_by f (some a) none = none
both_by f (some a) (some b) = some (f a b)

-- of the reports of two trees; there is one wherever both are layouts
unfoldable pub merged_of : (first first_text_of second second_text_of : List ℕ) → Option Report
merged_of first first_text_of second second_text_of = both_by merged_report (report_of first first_text_of) (report_of second second_text_of)

-- the report's record, which stands before all else, and its texts
abbrev pub head_of : Option Report → List (List ℕ)
head_of none = []
head_of (some m) = record_at kind.report 0 report (report_fields m) ∷ []

abbrev pub head_texts : Option Report → List ℕ
head_texts none = []
head_texts (some m) = stored_in report (report_fields m)

-- a tree's live records, without its report
abbrev pub is_below : List ℕ → Bool
is_below r = live r && not (is_report r)

abbrev pub below_report : List ℕ → List (List ℕ)
below_report words = only is_below (records_of words)

-- one report's record, then the first's records, then the second's, none dead; texts behind one another in the order of records and
-- words, also those that share bytes (rules J7 and J8)
unfoldable pub merged_tree : (first first_text_of second second_text_of : List ℕ) → Encoding
merged_tree first first_text_of second second_text_of =
    let m = merged_of first first_text_of second second_text_of in
    let s = used_text first_text_of in
    let t = used_text second_text_of in
    let fill = length (head_texts m) in
    record {
      records = head_of m ++ (moved_from s fill (below_report first) ++ moved_from t (fill + length (texts_in s (below_report first))) (below_report second));
      texts = head_texts m ++ (texts_in s (below_report first) ++ texts_in t (below_report second));
    }

-- ---- the answer
abbrev pub if_any : {A : Type 0} → (A → Bool) → Option A → Bool
if_any p none = true
if_any p (some a) = p a

-- no sum passes the limit of a count (rule C3)
abbrev pub are_counts : Counts → Bool
are_counts c =
    is_count c.tests && (is_count c.failures && (is_count c.errors && (is_count c.skipped && if_any is_count c.disabled)))

abbrev pub counts_fit : Report → Bool
counts_fit m = are_counts m.counts

-- under 8,388,608 seconds (rule V4)
abbrev pub is_time : Duration → Bool
is_time d = ltb d.seconds 8388608

abbrev pub time_fits : Report → Bool
time_fits m = if_any is_time m.time

-- 17, then 22 (rule J9)
unfoldable pub limited : Option Report → Answer (Unit {0}) → Answer (Unit {0})
limited m a = cond (if_any counts_fit m) (cond (if_any time_fits m) a (refuses cause.TimeLimit)) (refuses cause.CountLimit)

-- 12, then 13: areas of so many words and bytes, of which those up to the limits are used (rule J10)
unfoldable pub placed : Encoding → ℕ → ℕ → Answer (Unit {0})
placed e words bytes =
    cond (leb (length e.records) (min (words / 32) most_records))
    (cond (leb (length e.texts) (min bytes most_bytes)) (gives tt) (refuses cause.TextFull))
    (refuses cause.RecordsSpent)

-- 15 of the first tree, then of the second (rule J1)
unfoldable pub merge_answer : (first first_text_of second second_text_of : List ℕ) (words bytes : ℕ) → Answer (Unit {0})
merge_answer first first_text_of second second_text_of words bytes =
    cond (layout first first_text_of)
    (cond (layout second second_text_of)
    (limited (merged_of first first_text_of second second_text_of) (placed (merged_tree first first_text_of second second_text_of) words bytes))
    (refuses cause.NotLayout))
    (refuses cause.NotLayout)

abbrev pub outcome_of : Answer (Unit {0}) → Outcome (Unit {0})
outcome_of (gives u) = accepted u
outcome_of (refuses c) = refused (late c)

abbrev pub merged : (first first_text_of second second_text_of : List ℕ) (words bytes : ℕ) → Outcome (Unit {0})
merged first first_text_of second second_text_of words bytes = outcome_of (merge_answer first first_text_of second second_text_of words bytes)

-- ---- the areas afterwards: the merged tree with zeros behind it, or zeros throughout at a refusal (rule F13)
abbrev pub left_for : Answer (Unit {0}) → ℕ → List ℕ → List ℕ
left_for (gives u) n f = laid (zeros n) f
left_for (refuses c) n f = zeros n

unfoldable pub records_left : (first first_text_of second second_text_of : List ℕ) (words bytes : ℕ) → List ℕ
records_left first first_text_of second second_text_of words bytes =
    left_for (merge_answer first first_text_of second second_text_of words bytes) words (joined (merged_tree first first_text_of second second_text_of).records)

unfoldable pub text_left : (first first_text_of second second_text_of : List ℕ) (words bytes : ℕ) → List ℕ
text_left first first_text_of second second_text_of words bytes =
    left_for (merge_answer first first_text_of second second_text_of words bytes) bytes (merged_tree first first_text_of second second_text_of).texts
