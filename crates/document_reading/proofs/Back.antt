-- A plain report is read back from its XML document's events. Assumes nothing.
use Prim.Native.Nat.{◌≤◌}
use mathlib.Core.Bool.{true, false}
use mathlib.Core.List.{List}
use mathlib.Core.Path.{◌≡◌, refl, sym, ap, subst, ◌∙◌}
use native.Mathlib.Omega.{arith}
use lib.ListN.{length}
use Rattle.read_spelling.specs.of_refusal.Refusal.{Outcome, accepted}
use Rattle.xml_grammar.specs.of_table.Event.{Event}
use Rattle.read_spelling.specs.of_tree_report.Report.{Report}
use Rattle.read_spelling.specs.of_tree_report.Encode.{rows_of}
use Rattle.read_spelling.proofs.of_tree_report.EncodeLists.{Each}
use Rattle.read_spelling.specs.of_read_element.Outcome.{◌>>=◌, unlimited}
use Rattle.read_spelling.specs.of_read_machine.Machine.{Machine}
use Rattle.read_spelling.proofs.of_read_machine.TreeInvariant.{FairEvent}
use Rattle.read_spelling.proofs.of_read_machine.TreeReading.{resolve-fair}
use Rattle.read_spelling.specs.of_read_report.Deserialize.{Used, Reader, steps, begin, deserialize_in, deserialize}
use Rattle.read_spelling.proofs.of_read_report.Alike.{Alike, both}
use Rattle.read_spelling.proofs.of_read_report.Refinement.{Final, runs-in}
use Rattle.write_resolved.specs.of_write_report.Written.{written}
use Rattle.write_resolved.specs.of_write_table.Laid.{laid_out}
use Rattle.write_resolved.proofs.Resolved.{resolve-written}
use Rattle.round_report.specs.of_round_elements.Plain.{plain, sound}
use Rattle.round_report.proofs.Reports.{run-back}
use Rattle.document_events.specs.inside.Respelt.{Respelt}
use Rattle.document_reading.proofs.Calmed.{calm-written}
use Rattle.document_reading.proofs.Simulating.{respelt-steps}

-- the reader that a report's own events end with, and what it took
pub record Read (r : Report) (end : Reader) : Type 0 where
  pub report : end.draft.report ≡ r
  pub records : end.draft.used.records ≡ length (rows_of r)
  pub text : end.draft.used.text ≤ length (laid_out (written r)).bytes

fair-written : (r : Report) → Each FairEvent (written r)
fair-written r = subst (Each FairEvent) (resolve-written r) (resolve-fair (laid_out (written r)).events (laid_out (written r)).attributes (laid_out (written r)).bytes)

ended : {s : Machine} {n : Outcome Reader} → Alike Final (accepted s) n → (y : Reader) × (n ≡ accepted y) × Final s y
ended (both {b = y} f) = (y, refl, f)

written_read : (r : Report) → sound r ≡ true → plain r ≡ true → (end : Reader) × (steps unlimited (written r) begin ≡ accepted end) × Read r end
written_read r s p =
    let h = run-back r s p in
    let e = ended (subst (λ (o : Outcome Machine). Alike Final o (steps unlimited (written r) begin)) h.1 (runs-in unlimited (written r) (fair-written r))) in
    let whole = e.2.whole in
    let shown = h.2 in
    let records = e.2.records in
    let texts = e.2.text in
    let rows = h.3 in
    let bytes = h.4 in
    (e.0, e.1, record { report = cc; records = sym records ∙ rows; text = omega arith })

-- a report's events from its document end alike
pub respelt-read : (r : Report) (fs : List Event) → sound r ≡ true → plain r ≡ true → Respelt false (written r) fs
    → (end : Reader) × (steps unlimited fs begin ≡ accepted end) × Read r end
respelt-read r fs s p h =
    let w = written_read r s p in
    let e = respelt-steps (written r) fs w.0 (calm-written r) h w.1 in (
      e.0,
      e.1,
      record {
        report = e.3 ∙ w.2.report;
        records = ap (λ (u : Used). u.records) e.2 ∙ w.2.records;
        text = subst (λ (u : Used). u.text ≤ length (laid_out (written r)).bytes) (sym e.2) w.2.text;
      },
    )

pub respelt-back : (r : Report) (fs : List Event) → sound r ≡ true → plain r ≡ true → Respelt false (written r) fs → deserialize fs ≡ accepted r
unfolding deserialize deserialize_in ◌>>=◌
respelt-back r fs s p h =
    let e = respelt-read r fs s p h in
    ap (λ (o : Outcome Reader). o >>= λ t. accepted t.draft.report) e.1 ∙ ap (λ (x : Report). accepted x) e.2.report
