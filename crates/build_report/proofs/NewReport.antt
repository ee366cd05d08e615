-- A new report, without and with a name. Assumes nothing.
use Prim.Native.Nat.{ℕ, ◌+◌}
use mathlib.Core.Bool.{Bool, true}
use mathlib.Core.List.{List, [], ◌∷◌}
use mathlib.Core.Option.{none, some}
use mathlib.Core.Path.{◌≡◌, refl, ap}
use lib.Dec.{leb}
use lib.ListN.{length}
use Rattle.tree_placed.specs.of_area.Area.{zeros}
use Rattle.tree_placed.specs.of_refusal.Refusal.{nowhere, Outcome, accepted}
use Rattle.tree_placed.specs.of_refusal.declared.Cause.{Cause}
use Rattle.tree_placed.specs.of_refusal.declared.Cause.TheVariants as cause
use Rattle.tree_placed.specs.of_utf8.Utf8.{utf8}
use Rattle.tree_placed.specs.of_text_filter.Filter.{filtered, unfiltered}
use Rattle.tree_placed.proofs.of_text_filter.Filtering.{utf8-filtered, unfiltered-filtered}
use Rattle.tree_placed.specs.of_tree_record.Kinds as kind
use Rattle.tree_placed.specs.of_tree_put.Put.{put_text}
use Rattle.tree_placed.specs.of_tree_report.Report.{Text}
use Rattle.tree_placed.specs.of_tree_report.inside.Cells.{Row, written, fits_row, report_row}
use Rattle.tree_placed.proofs.of_tree_report.EncodeLists.{both, done, more}
use Rattle.tree_placed.specs.inside.Placed.{Placed, record_of_it, records_in}
use Rattle.tree_placed.specs.inside.Changed.{blank_places, blank_placed, with_first_of}
use Rattle.build_draft.specs.declared.Builder.{Builder}
use Rattle.build_draft.specs.Draft.{Draft, no_builder, ◌>>=◌, room_for, bytes_for, on_record_of, with_builder}
use Rattle.build_draft.specs.Parts.{taking, put_at, naming}
use Rattle.build_draft.specs.Calls as call
use Rattle.build_report.specs.Operations as report
use Rattle.build_report.specs.Stands.{Stored, Stands, Comes, gives, Stand}
use Rattle.build_report.specs.Builders.{text_tests}
use Rattle.build_report.proofs.Holding.{holding-marks, holding-more, one_more_record, more_bytes}
use Rattle.build_report.proofs.Storing.{stored, stored-text, record-at}
use Rattle.build_report.proofs.Becoming.{becomes_on, first-becomes}
use Rattle.build_report.proofs.Fitting.{first_fits}
use Rattle.build_report.proofs.Calling.{taken_draft, then-then, given-then, comes-same, comes-taking, comes-naming, comes-last}
use Rattle.build_report.proofs.Marks.{marked-none}
use Rattle.build_report.proofs.Spots.{spot-report}
use Rattle.build_report.proofs.Naming.{empty-held, same-records}

-- the builder of a report without a name
abbrev first : Builder
first = call.marks 0 nowhere nowhere nowhere (one_more_record no_builder)

abbrev start : ℕ → ℕ → Draft
start words bytes = record { builder = no_builder; words = zeros words; text = zeros bytes }

-- a report's row without a value has a record without one
abbrev unnamed_placed : Placed
unnamed_placed = record { places = blank_places; row = report_row (report.report_named none) }

unnamed-record : records_in (blank_placed kind.report ∷ []) ≡ records_in (unnamed_placed ∷ [])
unfolding record_of_it
unnamed-record = refl

unnamed-fits : fits_row (report_row (report.report_named none)) ≡ true
unfolding fits_row
unnamed-fits = refl

module _ (words bytes : ℕ) where
  -- with one record, and nothing open
  begun : leb 1 (room_for (zeros words)) ≡ true → Stands first (taken_draft kind.report (start words bytes)).words (zeros bytes) (report.report_named none)
  begun l =
      let h = holding-more kind.report l (empty-held words bytes) in
      let k = same-records h unnamed-record (more (record { first = tt; out = tt; err = tt; second = tt; third = tt; fourth = tt; seventh = tt }) done) in
      record {
        stored = stored (report.report_named none) (holding-marks k refl refl) refl (both unnamed-fits refl);
        marks = marked-none (report.report_named none) refl refl refl refl refl;
      }

  -- what follows, with the report without a name
  comes-unnamed : {Q : Draft → Type 0} {ts : List (Bool × Cause)} (f : Draft → Outcome Draft)
      → ((words' : List ℕ) → Stands first words' (zeros bytes) (report.report_named none) → Comes Q ts (f (record { builder = first; words = words'; text = zeros bytes })))
      → Comes Q ((leb 1 (room_for (zeros words)), cause.RecordsSpent) ∷ ts) (call.unnamed_report words bytes >>= f)
  unfolding call.unnamed_report
  comes-unnamed f h =
      let g : Draft → Outcome Draft = λ d. accepted (with_builder d (call.marks 0 nowhere nowhere nowhere d.builder)) in
      comes-same (then-then (taking kind.report (start words bytes)) g f)
      (comes-taking (start words bytes) (λ d. g d >>= f) kind.report (leb 1 (room_for (zeros words))) refl
      (λ l. comes-same (given-then (with_builder (taken_draft kind.report (start words bytes)) first) f) (h (taken_draft kind.report (start words bytes)).words (begun l))))

  pub unnamed_report : Comes (Stand (report.report_named none)) ((leb 1 (room_for (zeros words)), cause.RecordsSpent) ∷ []) (call.unnamed_report words bytes)
  unnamed_report = comes-last (call.unnamed_report words bytes) (comes-unnamed (λ d. accepted d) (λ words' s. gives s))

-- ---- a name
named : (v : Text) (b : Builder) (words text : List ℕ) → Stands b words text (report.report_named none) → utf8 v ≡ true → unfiltered v ≡ true → leb (b.bytes + length v) (bytes_for text) ≡ true
    → Stored (more_bytes (length v) b) (on_record_of 0 (put_text 2 0 b.bytes (length v)) words) (put_at b.bytes v text) (report.report_named (some v))
named v b words text n u c l =
    let s = n.stored in
    let row : Row = report_row (report.report_named none) in
    let t = spot-report (report.report_named none) (report.report_named (some v)) refl in
    stored-text s t v u c l (put_text 2 0 b.bytes (length v)) (first_fits row unnamed-fits (written v) (both u c))
    (λ p e h k. becomes_on (first-becomes h b.bytes v k) (ap (with_first_of (written v)) e))

pub new_report : (name : List ℕ) (words bytes : ℕ)
    → Comes (Stand (report.report_named (some (filtered name)))) ((leb 1 (room_for (zeros words)), cause.RecordsSpent) ∷ text_tests 0 name (zeros bytes) []) (call.new_report name words bytes)
unfolding call.new_report
new_report name words bytes =
    comes-unnamed words bytes (naming name) (λ words' s.
    let d : Draft = record { builder = first; words = words'; text = zeros bytes } in
    comes-last (naming name d)
    (comes-naming d (λ e. accepted e) name (record-at s.stored (spot-report (report.report_named none) (report.report_named none) refl))
    (λ u l. gives (record {
      stored = named (filtered name) first words' (zeros bytes) s (utf8-filtered name u) (unfiltered-filtered name) l;
      marks = marked-none (report.report_named (some (filtered name))) refl refl refl refl refl;
    }))))
