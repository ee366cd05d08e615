-- A plain report's own table is read back with areas that suffice. Assumes nothing.
use Prim.Native.Nat.{ℕ, ◌*◌, ◌/◌, min, ◌≤◌}
use mathlib.Core.Bool.{Bool, true, ◌&&◌}
use mathlib.Core.List.{List}
use mathlib.Core.Option.{some}
use mathlib.Core.Path.{◌≡◌, ap, ◌∙◌}
use native.Mathlib.Omega.{arith}
use borrow.Author.Tests.{leb-true}
use lib.Dec.{leb}
use lib.ListN.{length}
use Rattle.write_answer.specs.of_area.Limits.{most_entries, most_records, most_bytes}
use Rattle.write_answer.specs.of_refusal.Refusal.{accepted}
use Rattle.write_answer.specs.of_table.Event.{Event, resolve}
use Rattle.write_answer.specs.of_table.Table.{table_of}
use Rattle.write_answer.specs.of_tree_report.Report.{Report}
use Rattle.write_answer.specs.of_tree_report.Encode.{rows_of}
use Rattle.write_answer.specs.of_tree_report.Layout.{layout}
use Rattle.write_answer.specs.of_tree_report.ReportOf.{report_of}
use Rattle.write_answer.proofs.of_tree_report.EncodeLists.{and_right}
use Rattle.round_report.specs.of_read_element.Outcome.{rooms_of, unlimited}
use Rattle.round_report.specs.of_read_machine.Machine.{Machine, run, begin}
use Rattle.round_report.specs.of_read_machine.Reading.{Read, read_as, reading}
use Rattle.round_report.proofs.of_read_machine.TreeReading.{reading-layout, reading-report, resolve-fair}
use Rattle.write_answer.specs.of_write_report.Written.{written}
use Rattle.write_answer.specs.of_write_table.Laid.{laid_out}
use Rattle.write_resolved.proofs.Resolved.{resolve-written, table-written}
use Rattle.round_report.specs.of_round_elements.Plain.{plain, sound}
use Rattle.round_report.specs.of_round_rooms.inside.Sums.{pieces}
use Rattle.round_report.proofs.of_round_rooms.Sufficing.{run-suffices, reading-roomy}
use Rattle.round_report.proofs.of_round_rooms.Written.{pieces-written}
use Rattle.round_report.proofs.PlainParts.{conditions}
use Rattle.round_report.proofs.Reports.{run-back}

-- the words and bytes of a report's table
abbrev pub own_events : Report → List ℕ
own_events r = (laid_out (written r)).events

abbrev pub own_attributes : Report → List ℕ
own_attributes r = (laid_out (written r)).attributes

abbrev pub own_bytes : Report → List ℕ
own_bytes r = (laid_out (written r)).bytes

pub own-passes : (r : Report) → plain r ≡ true → table_of (own_events r) (own_attributes r) (own_bytes r) ≡ accepted tt
own-passes r p = table-written r (most_entries * 5) (most_entries * 5) most_bytes (conditions r p).fits

-- a plain report's table stays within the limits (rule W15)
pub own-bytes : (r : Report) → plain r ≡ true → length (own_bytes r) ≤ most_bytes
own-bytes r p =
    let e : Bool = leb (length (own_events r)) (min (most_entries * 5) (most_entries * 5)) in
    let a : Bool = leb (length (own_attributes r)) (min (most_entries * 5) (most_entries * 5)) in
    let b : Bool = leb (length (own_bytes r)) (min most_bytes most_bytes) in
    let h = leb-true (length (own_bytes r)) (min most_bytes most_bytes) (and_right a b (and_right e (a && b) (conditions r p).fits)) in
    omega arith

-- areas that suffice for the report's table
pub record Roomy (r : Report) (words text scratch : ℕ) : Type 0 where
  pub records : length (rows_of r) ≤ min (words / 32) most_records
  pub texts : length (own_bytes r) ≤ min text most_bytes
  pub pieces : length (own_bytes r) ≤ min scratch most_bytes

module _ (r : Report) (s : sound r ≡ true) (p : plain r ≡ true) {words text scratch : ℕ} (room : Roomy r words text scratch) where
  abbrev es : List Event
  es = resolve (own_events r) (own_attributes r) (own_bytes r)

  abbrev last : Machine
  last = (run-back r s p).0

  ran-free : run unlimited es begin ≡ accepted last
  ran-free = ap (λ (l : List Event). run unlimited l begin) (resolve-written r) ∙ (run-back r s p).1

  records-in : length last.content.records ≤ min (words / 32) most_records
  records-in = let h = (run-back r s p).3 in let n = room.records in omega arith

  texts-in : length last.content.texts ≤ min text most_bytes
  texts-in = let h = (run-back r s p).4 in let n = room.texts in omega arith

  pieces-in : pieces es ≤ min scratch most_bytes
  pieces-in =
      let e : pieces es ≡ pieces (written r) = ap pieces (resolve-written r) in
      let h = pieces-written r in
      let n = room.pieces in
      omega arith

  ran : run (rooms_of words text scratch) es begin ≡ accepted last
  ran = run-suffices es last (min (words / 32) most_records) (min text most_bytes) (min scratch most_bytes) ran-free records-in texts-in pieces-in

  own-reading : reading (own_events r) (own_attributes r) (own_bytes r) words text scratch ≡ read_as words text scratch (accepted last)
  own-reading = reading-roomy (own_events r) (own_attributes r) (own_bytes r) words text scratch last (own-passes r p) ran-free records-in texts-in pieces-in

  -- reading a report's own table with areas that suffice is accepted
  pub own-accepted : (reading (own_events r) (own_attributes r) (own_bytes r) words text scratch).outcome ≡ accepted tt
  unfolding read_as
  own-accepted = ap (λ (q : Read). q.outcome) own-reading

  -- what reading a report's own table leaves is a layout
  pub own-layout : layout (reading (own_events r) (own_attributes r) (own_bytes r) words text scratch).words (reading (own_events r) (own_attributes r) (own_bytes r) words text scratch).text ≡ true
  unfolding read_as
  own-layout = ap (λ (q : Read). layout q.words q.text) own-reading ∙ reading-layout words text scratch es last (resolve-fair (own_events r) (own_attributes r) (own_bytes r)) ran

  -- the report that this layout holds is the one that was written
  pub own-report : report_of (reading (own_events r) (own_attributes r) (own_bytes r) words text scratch).words (reading (own_events r) (own_attributes r) (own_bytes r) words text scratch).text ≡ some r
  unfolding read_as
  own-report =
      ap (λ (q : Read). report_of q.words q.text) own-reading ∙ reading-report words text scratch es last (resolve-fair (own_events r) (own_attributes r) (own_bytes r)) ran ∙ (run-back r s p).2
