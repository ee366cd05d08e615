-- What a layout is, docs/TREE.md. Definitions only.
use Rattle.std.specs.Prelude.{ℕ, zero, suc, ◌+◌, ◌*◌, ◌/◌, List, [], ◌∷◌, Bool, true, false, cond, not, ◌&&◌, ◌||◌, length, get_or, take, drop, leb, eqb}
use Rattle.schema.specs.of_utf8.Utf8.{utf8}
use Rattle.schema.specs.of_text_filter.Filter.{unfiltered}
use Rattle.schema.specs.of_area.Limits.{most_words, most_bytes}
use Rattle.tree_status.specs.of_tree_record.Bits as bit
use Rattle.tree_status.specs.of_tree_record.Kinds as kind
use Rattle.tree_status.specs.declared.Tally.{Tally}
use Rattle.tree_status.specs.Status.{no_status, tallied, ruled}
use Rattle.schema.specs.Schema.{table_of}
unfoldable pub use Rattle.schema.specs.Records.{good}
pub use Rattle.schema.specs.Records.{all_zero, zero_at}
use Rattle.tree_report.specs.Fields.{kind_of, live, is_report, is_suite, is_case, is_suite_property, is_case_property, is_suite_extra, is_case_extra, has_bit}

-- beyond the limits an area isn't used (rule M1)
abbrev pub used_words : List ℕ → List ℕ
used_words words = take most_words words

abbrev pub used_text : List ℕ → List ℕ
used_text text = take most_bytes text

-- ---- the text area
-- the texts: what stands before the first zero byte
abbrev pub filled : List ℕ → List ℕ
filled [] = []
filled (b ∷ s) = cond (eqb b 0) [] (b ∷ filled s)

-- UTF-8 without filtered characters (rule M10); zero bytes behind them
unfoldable pub good_text : List ℕ → Bool
good_text text = utf8 (filled text) && (unfiltered (filled text) && all_zero (drop (length (filled text)) text))

-- ---- one record
-- rules M8 and M10: what the table of its kind says; a dead record keeps its kind with 16 more, and nothing else of it is looked at
unfoldable pub good_record : List ℕ → List ℕ → Bool
good_record texts r =
    cond (live r)
    (leb (kind_of r) kind.case_extra && good (table_of (kind_of r)) texts r)
    (leb (kind.dead + kind.report) (kind_of r) && leb (kind_of r) (kind.dead + kind.case_extra))

abbrev pub all_good : List ℕ → List (List ℕ) → Bool
all_good texts [] = true
all_good texts (r ∷ rs) = good_record texts r && all_good texts rs

-- ---- the order of the live records
-- what is open: nothing (0), the report (1), a suite (2), a case (3); whether the open element's extras may follow;
-- whether the suite's and the case's properties are still to come (0), at hand (1) or over (2); the open case's status
-- elements, and whether its main has the flaky bit
pub record Open : Type 0 where
  pub level : ℕ
  pub extras : Bool
  pub suite_list_of : ℕ
  pub case_list : ℕ
  pub tally : Tally
  pub flagged : Bool

abbrev pub nothing : Open
nothing = record { level = 0; extras = false; suite_list_of = 0; case_list = 0; tally = no_status; flagged = false }

-- a list of properties that is at hand is over once another record comes
abbrev pub over : ℕ → ℕ
over n = cond (eqb n 1) 2 n

-- an open case may end: its status elements are ruled, and only a failure or error without runs has the flaky bit (rule M10)
unfoldable pub may_end : Open → Bool
may_end o = ruled o.tally && (not o.flagged || eqb (o.tally.flaky + o.tally.reruns) 0)

-- whether a live record may stand here
unfoldable pub may_follow : Open → List ℕ → Bool
may_follow o r =
    cond (is_report r) (eqb o.level 0)
    (cond (is_suite r) (leb 1 o.level && may_end o)
    (cond (is_case r) (leb 2 o.level && may_end o)
    (cond (is_suite_extra r) (eqb o.level 2 && o.extras)
    (cond (is_case_extra r) (eqb o.level 3 && o.extras)
    (cond (is_suite_property r) (leb 2 o.level && (may_end o && leb o.suite_list_of 1))
    (cond (is_case_property r) (eqb o.level 3 && leb o.case_list 1)
    (eqb o.level 3)))))))

abbrev pub opened : ℕ → ℕ → Open
opened level suite_list_of = record { level = level; extras = true; suite_list_of = suite_list_of; case_list = 0; tally = no_status; flagged = false }

-- what is open behind it
unfoldable pub following : Open → List ℕ → Open
following o r =
    cond (is_report r) (opened 1 0)
    (cond (is_suite r) (opened 2 0)
    (cond (is_case r) (opened 3 (over o.suite_list_of))
    (cond (is_suite_extra r || is_case_extra r) o
    (cond (is_suite_property r) (record { level = 2; extras = false; suite_list_of = 1; case_list = 0; tally = no_status; flagged = false })
    (cond (is_case_property r) (record { level = 3; extras = false; suite_list_of = o.suite_list_of; case_list = 1; tally = o.tally; flagged = o.flagged })
    (record { level = 3; extras = false; suite_list_of = o.suite_list_of; case_list = over o.case_list; tally = tallied o.tally (kind_of r); flagged = o.flagged || has_bit bit.flaky r }))))))

unfoldable pub good_order : Open → List (List ℕ) → Bool
good_order o [] = leb 1 o.level && may_end o
good_order o (r ∷ rs) = cond (live r) (may_follow o r && good_order (following o r) rs) (good_order o rs)

-- ---- the whole
-- records stop at the first whose kind is 0
unfoldable pub records_from : ℕ → List ℕ → List (List ℕ)
records_from zero words = []
records_from (suc n) words = cond (eqb (get_or words 0 0) 0) [] (take 32 words ∷ records_from n (drop 32 words))

unfoldable pub records_of : List ℕ → List (List ℕ)
records_of words = records_from (length (used_words words) / 32) words

-- rule M8
unfoldable pub layout : List ℕ → List ℕ → Bool
layout words text =
    let rs = records_of words in
    good_text (used_text text)
    && (all_good (filled (used_text text)) rs
    && (good_order nothing rs && all_zero (drop (length rs * 32) (used_words words))))
