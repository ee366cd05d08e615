-- What writing leaves in areas is the report's own table, and reading that leaves the report. Assumes nothing.
use Prim.Native.Nat.{ℕ, ◌-◌, ◌*◌, ◌/◌, min, ◌≤◌}
use mathlib.Core.Bool.{Bool, true, cond, ◌&&◌}
use mathlib.Core.List.{List}
use mathlib.Core.Option.{Option, some}
use mathlib.Core.Path.{◌≡◌, refl, sym, ap, ◌∙◌}
use native.Mathlib.Omega.{arith}
use borrow.Author.Tests.{leb-true}
use lib.Dec.{leb}
use lib.ListN.{length, take}
use lib.Seq.{take_at}
use Rattle.write_answer.specs.of_area.Answer.{Answer, gives, refuses}
use Rattle.write_answer.specs.of_area.Area.{zeros}
use Rattle.write_answer.specs.of_area.Limits.{most_entries, most_bytes}
use Rattle.write_answer.proofs.of_area.Laying.{laid-zeros}
use Rattle.write_answer.specs.of_tree_report.Report.{Report}
use Rattle.write_answer.specs.of_tree_report.Layout.{layout}
use Rattle.write_answer.specs.of_tree_report.ReportOf.{report_of}
use Rattle.write_answer.proofs.of_tree_report.EncodeLists.{and_left, and_right}
use Rattle.write_answer.specs.of_write_report.Written.{written}
use Rattle.write_answer.specs.of_write_table.Laid.{Table, items_of, laid_out, fits}
use Rattle.write_resolved.proofs.Sizes.{length-events, length-attributes}
use Rattle.write_answer.specs.Answer.{Sizes, written_or, events_of, table_of, writing_answer, left_for, events_left, attributes_left, bytes_left}
use Rattle.round_trip.proofs.OwnTable.{own_events, own_attributes, own_bytes}
use Rattle.write_answer.specs.of_refusal.declared.Cause.TheVariants as cause

-- the numbers of a report's events, attributes and bytes
abbrev pub sizes_of : Report → Sizes
sizes_of r = record { events = length (own_events r) / 5; attributes = length (own_attributes r) / 5; bytes = length (own_bytes r) }

events-whole : (r : Report) → length (own_events r) / 5 * 5 ≡ length (own_events r)
unfolding laid_out
events-whole r = let h = length-events 0 0 (items_of (written r)) in omega arith

attributes-whole : (r : Report) → length (own_attributes r) / 5 * 5 ≡ length (own_attributes r)
unfolding laid_out
attributes-whole r = let h = length-attributes 0 (items_of (written r)) in omega arith

-- the part of an area that is in use
used : (a : Answer Sizes) (s : Sizes) (n : ℕ) (f : List ℕ) (k : ℕ) → a ≡ gives s → length f ≤ n → k ≡ length f → take k (left_for a n f) ≡ f
used a s n f k e h l =
    ap (λ (x : Answer Sizes). take k (left_for x n f)) e ∙ ap (take k) (laid-zeros n f h) ∙ take_at f (zeros (n - length f)) k (sym l)

module _ (words text : List ℕ) (r : Report) (whole : layout words text ≡ true) (holds : report_of words text ≡ some r) (e a b : ℕ) (f : fits (laid_out (written r)) e a b ≡ true) where
  table-own : table_of words text ≡ laid_out (written r)
  unfolding table_of events_of
  table-own = ap (λ (q : Option Report). laid_out (written_or q)) holds

  -- writing a report that fits is accepted, with the sizes of its table
  pub write-accepts : writing_answer words text e a b ≡ gives (sizes_of r)
  unfolding writing_answer
  write-accepts =
      ap (λ (t : Table). cond (layout words text) (cond (fits t e a b) (gives (record { events = length t.events / 5; attributes = length t.attributes / 5; bytes = length t.bytes }))
      (refuses cause.OutputFull)) (refuses cause.NotLayout)) table-own
      ∙ ap (λ (q : Bool). cond q (cond (fits (laid_out (written r)) e a b) (gives (sizes_of r)) (refuses cause.OutputFull)) (refuses cause.NotLayout)) whole
      ∙ ap (λ (q : Bool). cond q (gives (sizes_of r)) (refuses cause.OutputFull)) f

  abbrev events_fit : Bool
  events_fit = leb (length (own_events r)) (min e (most_entries * 5))

  abbrev attributes_fit : Bool
  attributes_fit = leb (length (own_attributes r)) (min a (most_entries * 5))

  abbrev bytes_fit : Bool
  bytes_fit = leb (length (own_bytes r)) (min b most_bytes)

  events-in : length (own_events r) ≤ e
  events-in = let h = leb-true (length (own_events r)) (min e (most_entries * 5)) (and_left events_fit (attributes_fit && bytes_fit) f) in omega arith

  attributes-in : length (own_attributes r) ≤ a
  attributes-in = let h = leb-true (length (own_attributes r)) (min a (most_entries * 5)) (and_left attributes_fit bytes_fit (and_right events_fit (attributes_fit && bytes_fit) f)) in omega arith

  bytes-in : length (own_bytes r) ≤ b
  bytes-in = let h = leb-true (length (own_bytes r)) (min b most_bytes) (and_right attributes_fit bytes_fit (and_right events_fit (attributes_fit && bytes_fit) f)) in omega arith

  -- the event words in use are those of the report's own table
  pub events-used : take ((sizes_of r).events * 5) (events_left words text e a b) ≡ own_events r
  unfolding events_left
  events-used =
      ap (λ (t : Table). take ((sizes_of r).events * 5) (left_for (writing_answer words text e a b) e t.events)) table-own
      ∙ used (writing_answer words text e a b) (sizes_of r) e (own_events r) ((sizes_of r).events * 5) write-accepts events-in (events-whole r)

  -- the attribute words in use are those of the report's own table
  pub attributes-used : take ((sizes_of r).attributes * 5) (attributes_left words text e a b) ≡ own_attributes r
  unfolding attributes_left
  attributes-used =
      ap (λ (t : Table). take ((sizes_of r).attributes * 5) (left_for (writing_answer words text e a b) a t.attributes)) table-own
      ∙ used (writing_answer words text e a b) (sizes_of r) a (own_attributes r) ((sizes_of r).attributes * 5) write-accepts attributes-in (attributes-whole r)

  -- the bytes in use are those of the report's own table
  pub bytes-used : take (sizes_of r).bytes (bytes_left words text e a b) ≡ own_bytes r
  unfolding bytes_left
  bytes-used =
      ap (λ (t : Table). take (sizes_of r).bytes (left_for (writing_answer words text e a b) b t.bytes)) table-own
      ∙ used (writing_answer words text e a b) (sizes_of r) b (own_bytes r) (sizes_of r).bytes write-accepts bytes-in refl
