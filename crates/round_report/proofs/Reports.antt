-- A plain report is read back from its written events. Assumes nothing.
use Prim.Native.Nat.{ℕ, suc, ◌+◌, ◌≤◌}
use mathlib.Core.Bool.{true, false, cond}
use mathlib.Core.List.{List, [], ◌∷◌, ◌++◌, append_assoc, append-nil}
use mathlib.Core.Option.{Option, some}
use mathlib.Core.Path.{◌≡◌, sym, ap, subst, ◌∙◌}
use native.Mathlib.Omega.{arith}
use borrow.Author.Tests.{lt-ltb}
use lib.Dec.{eqb}
use lib.ListN.{length}
use Rattle.round_rooms.specs.of_names.Bytes.{bytes}
use Rattle.round_rooms.specs.of_refusal.Refusal.{Outcome, accepted}
use Rattle.round_rooms.specs.of_table.Event.{Start, Event, Tag, Eof}
use Rattle.round_rooms.specs.of_tree_report.Report.{Report}
use Rattle.round_rooms.specs.of_tree_report.Fields.{kind_of, live}
use Rattle.round_rooms.specs.of_tree_report.Encode.{rows_of}
use Rattle.round_rooms.specs.of_tree_report.Layout.{nothing, following}
use Rattle.round_rooms.specs.of_tree_report.ReportOf.{only, report_from}
use Rattle.round_rooms.proofs.of_tree_report.EncodeLists.{more, only-all}
use Rattle.round_rooms.specs.of_read_element.Outcome.{◌>>=◌, unlimited}
use Rattle.round_rooms.specs.of_read_element.Attributes.{read_element}
use Rattle.round_rooms.proofs.of_read_element.TreeOutcome.{Holds, held}
use Rattle.round_rooms.specs.of_read_state.Control.{top, finished, pass, open_report}
use Rattle.round_rooms.specs.of_read_content.Content.{Content}
use Rattle.round_rooms.specs.of_read_machine.Machine.{Machine, run, begin}
use Rattle.round_rooms.specs.of_read_machine.Reading.{deserialize}
use Rattle.round_rooms.proofs.of_read_machine.TreeOrder.{only-kind}
use Rattle.round_rooms.specs.of_write_report.Written.{declaration, end_tag, indent, each, report_attributes, serialize_test_suite, serialize_report, numbered, written}
use Rattle.round_rooms.specs.of_write_table.Laid.{laid_out}
use Rattle.round_case.specs.of_round_elements.Plain.{plain, sound}
use Rattle.round_case.specs.of_round_elements.inside.Opened.{Lasting, ReportShown, Opened}
use Rattle.round_case.specs.of_round_elements.inside.Read.{Leads, settled, Stands}
use Rattle.round_case.proofs.of_round_elements.Places.{report-later}
use Rattle.round_case.proofs.of_round_elements.Elements.{report-opened}
use Rattle.round_rooms.specs.inside.Sums.{pieces}
use Rattle.round_rooms.specs.Needs.{most_records_of, most_text_of}
use Rattle.round_rooms.proofs.AlikeSteps.{Within}
use Rattle.round_rooms.proofs.Sparing.{run-takes}
use Rattle.round_rooms.proofs.Written.{text-written}
use Rattle.round_case.proofs.Opening.{no_pairs}
use Rattle.round_report.proofs.PlainParts.{PlainReport, plain-parts}
use Rattle.round_report.proofs.Leading.{leads_one, leads-then, Goes, goes_then, goes_on, numbered-append}
use Rattle.round_report.proofs.Reading.{Reads, goes-reads}
use Rattle.round_report.proofs.Acting.{Held, behind_act, place_of}
use Rattle.round_report.proofs.Shown.{SuitesShown}
use Rattle.round_report.proofs.Decoding.{suites-live, suites-read}
use Rattle.round_report.proofs.Fair.{written-ended}
use Rattle.round_report.proofs.Order.{path-first}
use Rattle.round_report.proofs.Counting.{suites-count}
use Rattle.round_report.proofs.SuiteBack.{AtTop, Suites}
use Rattle.round_report.proofs.SuiteBack as suites
use Rattle.round_report.proofs.ReportTags.{declared, declaration-goes, report-starts, report-ends, tail-goes, eof-step}

-- ---- its records are read as the report
report-decoded : (texts main : List ℕ) (rows : List (List ℕ)) (r : Report) → ReportShown texts main r
    → SuitesShown texts rows r.suites → Lasting texts (λ t. report_from t (only live (main ∷ rows))) (some r)
report-decoded texts main rows r h ss z =
    let k = h.blank.kind in
    let alive : live main ≡ true = lt-ltb (kind_of main) 16 (omega arith) in
    let name = h.name z in
    let uuid = h.uuid in
    let timestamp = h.timestamp in
    let time = h.time in
    let counts = h.counts in
    let below = suites-read z ss in
    ap (report_from (texts ++ z)) (only-all live (more {x = main} alive (suites-live ss)))
    ∙ (λ i. some (record { name = name i; uuid = uuid i; timestamp = timestamp i; time = time i; counts = counts i; suites = below i }))

-- ---- its events, part by part
abbrev first_number : Report → ℕ
first_number r = cond (eqb (length (report_attributes r)) 0) 0 0

abbrev next_number : Report → ℕ
next_number r = 0 + 0 + length (report_attributes r)

abbrev starts_with : Report → List Event
starts_with r = Tag Start (bytes "testsuites") (first_number r) (report_attributes r) ∷ []

abbrev within : Report → List Event
within r = numbered (next_number r) (each serialize_test_suite r.suites)

abbrev ends_with : List Event
ends_with = end_tag (bytes "testsuites") ∷ Eof ∷ indent ∷ []

written-parts : (r : Report) → written r ≡ (declaration ∷ []) ++ (starts_with r ++ (within r ++ ends_with))
unfolding written serialize_report numbered declaration
written-parts r =
    ap (λ (l : List Event). declaration ∷ (starts_with r ++ l)) (numbered-append (next_number r) (each serialize_test_suite r.suites) ends_with)

-- ---- the machine at the end
run_end : (es : List Event) (c : Content) (i : ℕ) (s t : Machine) → Leads es s t → Held finished i c t → run unlimited es s ≡ accepted (behind_act (pass finished) c t)
unfolding run
run_end es c i s t l h = ap (λ (x : List Event). run unlimited x s) (sym (append-nil es)) ∙ l [] ∙ eof-step i c t h

module _ (r : Report) (g : PlainReport r) where
  abbrev opened : Opened 1 (λ t x. ReportShown t x r) [] [] [] (read_element unlimited (place_of (open_report false) declared) 1 (first_number r) (report_attributes r) [] [])
  opened = report-opened (place_of (open_report false) declared) (first_number r) [] [] r g.row g.time g.timestamp

  started : Goes (starts_with r) declared (AtTop (opened.main ∷ []) opened.added)
  started =
      goes_on (report-starts (first_number r) (report_attributes r) opened)
      (λ t h. (0, subst (λ (l : List (List ℕ)). Stands top 0 (opened.main ∷ l) opened.added t) (no_pairs opened.pairs) h))

  suites-back : Reads (starts_with r ++ within r) declared AtTop (Suites r.suites) (opened.main ∷ []) opened.added
  suites-back =
      goes-reads AtTop (Suites r.suites) (opened.main ∷ []) opened.added (starts_with r) (within r) declared started
      (suites.suites-read (next_number r) g.suites (opened.main ∷ []) opened.added)

  abbrev records : List (List ℕ)
  records = opened.main ∷ suites-back.rows

  abbrev texts : List ℕ
  texts = opened.added ++ suites-back.added

  ended : Goes ((starts_with r ++ within r) ++ ends_with) declared (λ t. (i : ℕ) × Held finished i (settled records texts) t)
  ended =
      goes_then (starts_with r ++ within r) ends_with declared suites-back.goes λ t h.
      goes_then (end_tag (bytes "testsuites") ∷ []) (Eof ∷ indent ∷ []) t (report-ends h.0 records texts t h.1) λ u k.
      goes_on (tail-goes h.0 (settled records texts) u k) λ v l. (h.0, l)

  written-leads : Leads (written r) begin ended.after
  written-leads =
      subst (λ (es : List Event). Leads es begin ended.after)
      (ap (λ (l : List Event). declaration ∷ l) (append_assoc (starts_with r) (within r) ends_with) ∙ sym (written-parts r))
      (leads-then (declaration ∷ []) ((starts_with r ++ within r) ++ ends_with) begin declared ended.after (leads_one declaration begin declared declaration-goes) ended.leads)

  abbrev last : Machine
  last = behind_act (pass finished) (settled records texts) ended.after

  last-run : run unlimited (written r) begin ≡ accepted last
  last-run = run_end (written r) (settled records texts) ended.holds.0 begin ended.after written-leads ended.holds.1

  last-shown : ReportShown texts opened.main r
  last-shown = report-later opened.added suites-back.added opened.main opened.shown

  last-report : report_from texts (only live records) ≡ some r
  last-report =
      ap (λ (t : List ℕ). report_from t (only live records)) (sym (append-nil texts)) ∙ report-decoded texts opened.main suites-back.rows r last-shown suites-back.read []

  records-many : length records ≡ length (rows_of r)
  records-many =
      let w = (written-ended r last last-run).order in
      let k = opened.shown.blank.kind in
      ap suc (suites-count suites-back.read (following nothing (only-kind (kind_of opened.main))) w.to w.holds.ends (path-first (omega arith) w.path).1)

  texts-many : length texts ≤ length (laid_out (written r)).bytes
  texts-many =
      let h = held (subst (Holds (λ (t : Machine). Within (0 + most_records_of (written r)) (0 + (0 + 0) + most_text_of (written r)) (0 + 0 + pieces (written r)) t.content))
      last-run (run-takes (written r))) in
      omega (arith, h.bytes, text-written r)

-- the machine that reading ends with
pub run-back : (r : Report) → sound r ≡ true → plain r ≡ true
    → (s : Machine) × (run unlimited (written r) begin ≡ accepted s) × (report_from s.content.texts (only live s.content.records) ≡ some r) × (length s.content.records ≡ length (rows_of r))
    × (length s.content.texts ≤ length (laid_out (written r)).bytes)
run-back r s p = let g = plain-parts r s p in (last r g, last-run r g, last-report r g, records-many r g, texts-many r g)

-- the round trip: a sound and plain report, written and read with no limit on areas, is the report
pub read_back : (r : Report) → sound r ≡ true → plain r ≡ true → deserialize (written r) ≡ accepted (some r)
unfolding deserialize ◌>>=◌
read_back r s p =
    let h = run-back r s p in
    ap (λ (o : Outcome Machine). o >>= λ m. accepted (report_from m.content.texts (only live m.content.records))) h.1 ∙ ap (λ (x : Option Report). accepted x) h.2
