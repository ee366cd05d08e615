-- What an order is answered with, and what is left in the three areas (rules O1, O2, O7 and F13). Definitions only.
use Rattle.std.specs.Prelude.{ℕ, ◌/◌, List, cond, length, ltb}
use Rattle.write_answer.specs.of_area.Answer.{Answer, gives, refuses}
use Rattle.write_answer.specs.of_refusal.Refusal.{Outcome}
use Rattle.write_answer.specs.of_refusal.declared.Cause.TheVariants as cause
use Rattle.write_answer.specs.of_write_report.Written.{written}
use Rattle.write_answer.specs.of_write_table.Laid.{Table, laid_out, fits}
use Rattle.write_answer.specs.Answer.{Sizes, outcome_of, left_for}
use Rattle.order_report.specs.declared.Order.{Order}
use Rattle.order_report.specs.Rehearsal.{stated, rehearsal}

-- rule O1
abbrev pub most_cases : ℕ
most_cases = 4096

-- rule O7
unfoldable pub ordered_table : Order → Table
ordered_table o = laid_out (written (rehearsal o))

abbrev pub sizes_of : Table → Sizes
sizes_of t = record { events = length t.events / 5; attributes = length t.attributes / 5; bytes = length t.bytes }

-- 23: too many cases; then 24: the kinds are more than the cases; then 16: areas of so many words, words and bytes too short (rules O1, O2 and O7)
unfoldable pub order_answer : Order → ℕ → ℕ → ℕ → Answer Sizes
order_answer o events attributes bytes =
    cond (ltb most_cases o.cases) (refuses cause.TooManyCases)
    (cond (ltb o.cases (stated o)) (refuses cause.NoSuchReport)
    (cond (fits (ordered_table o) events attributes bytes) (gives (sizes_of (ordered_table o))) (refuses cause.OutputFull)))

abbrev pub ordered : Order → ℕ → ℕ → ℕ → Outcome Sizes
ordered o events attributes bytes = outcome_of (order_answer o events attributes bytes)

-- the areas afterwards (rule O7)
unfoldable pub events_ordered : Order → ℕ → ℕ → ℕ → List ℕ
events_ordered o events attributes bytes = left_for (order_answer o events attributes bytes) events (ordered_table o).events

unfoldable pub attributes_ordered : Order → ℕ → ℕ → ℕ → List ℕ
attributes_ordered o events attributes bytes = left_for (order_answer o events attributes bytes) attributes (ordered_table o).attributes

unfoldable pub bytes_ordered : Order → ℕ → ℕ → ℕ → List ℕ
bytes_ordered o events attributes bytes = left_for (order_answer o events attributes bytes) bytes (ordered_table o).bytes
