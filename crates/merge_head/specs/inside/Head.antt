-- The record of a merged report by the words of two. Definitions only.
use Rattle.std.specs.Prelude.{ℕ, ◌+◌, ◌*◌, ◌/◌, ◌%◌, List, [], ◌∷◌, Bool, cond, not, ◌&&◌, ◌||◌, get_or, set}
use Rattle.tree_merge.specs.of_instant.Instant.{instant_of}
use Rattle.tree_merge.specs.of_span.inside.Span.{sooner}
use Rattle.tree_values.specs.of_tree_record.Words as word
use Rattle.tree_values.specs.of_tree_record.Bits as bit
use Rattle.tree_values.specs.of_tree_record.Kinds as kind
use Rattle.tree_values.specs.of_tree_record.Record.{has_bit}
use Rattle.tree_merge.specs.of_tree_stamp.Stamp.{cut_moment}
use Rattle.tree_values.specs.of_tree_put.Put.{put_text, put_moment, put_time}
use Rattle.tree_merge.specs.of_tree_counts.declared.Counts.{Counts}
use Rattle.build_counts.specs.of_build_draft.Parts.{put_counts}

abbrev pub first_of : List (List ℕ) → List ℕ
first_of [] = []
first_of (r ∷ rs) = r

-- a time in nanoseconds, 0 where it is missing
unfoldable pub nanos_in : List ℕ → ℕ
nanos_in r = cond (has_bit bit.time r) (get_or r word.seconds 0 * 1000000000 + get_or r word.time_nanos 0) 0

unfoldable pub name_size : List ℕ → ℕ
name_size a = cond (has_bit bit.name a) (get_or a 3 0) 0

unfoldable pub put_name : List ℕ → List ℕ → List ℕ
put_name a s = cond (has_bit bit.name a) (put_text word.name bit.name 0 (get_or a 3 0) s) s

unfoldable pub is_earlier : (b a : List ℕ) → Bool
is_earlier b a = sooner (instant_of (cut_moment b)) (instant_of (cut_moment a))

-- the second's timestamp is the one
unfoldable pub is_second : (a b : List ℕ) → Bool
is_second a b = has_bit bit.timestamp b && (not (has_bit bit.timestamp a) || is_earlier b a)

unfoldable pub put_stamp : List ℕ → List ℕ → List ℕ
put_stamp r s = cond (has_bit bit.timestamp r) (put_moment (cut_moment r) s) s

unfoldable pub put_start : (a b s : List ℕ) → List ℕ
put_start a b s = cond (is_second a b) (put_stamp b s) (put_stamp a s)

unfoldable pub put_total : (a b : List ℕ) → ℕ → List ℕ → List ℕ
put_total a b nanos s = cond (has_bit bit.time a || has_bit bit.time b) (put_time (nanos / 1000000000, nanos % 1000000000) s) s

unfoldable pub head_of : (a b : List ℕ) → Counts → ℕ → List ℕ → List ℕ
head_of a b counts nanos s = put_counts counts (put_total a b nanos (put_start a b (put_name a (set s word.kind kind.report))))
