-- The attributes that an element is written with fill its record. Assumes nothing.
use Prim.Native.Nat.{ℕ}
use mathlib.Core.Bool.{true}
use mathlib.Core.List.{List, ◌++◌, map}
use mathlib.Core.Option.{some}
use mathlib.Core.Path.{◌≡◌, refl}
use lib.ListN.{length}
use Rattle.read_machine.specs.of_refusal.Refusal.{Outcome, accepted}
use Rattle.read_machine.specs.of_names.Bytes.{bytes}
use Rattle.read_machine.specs.of_names.Names.{same_bytes, code_from}
use Rattle.read_machine.specs.of_names.Keys.{keys}
use Rattle.read_machine.specs.of_tree_record.Kinds as kind
use Rattle.write_report.specs.of_tree_report.Report.{Pair, TestRerun, Reason, TestCase, TestSuite, Report}
use Rattle.write_report.specs.of_tree_report.inside.Cells.{fits_cell, fits_moment, fits_time, of_text, written, stored, report_row, suite_row, case_row}
use Rattle.read_machine.specs.of_schema.Schema as table
use Rattle.read_machine.specs.of_schema.Lookups.{names_in}
use Rattle.read_machine.specs.of_read_keys.Roles.{role_in, report_role, suite_role, case_role, role_of}
use Rattle.read_machine.specs.of_read_element.Outcome.{Place}
use Rattle.read_machine.specs.of_read_element.Attributes.{Given}
use Rattle.write_report.specs.Written.{textual, stamped, timed, status_attributes, extra_attribute, case_attributes, suite_attributes, report_attributes}
use Rattle.round_elements.specs.Plain.{keys_of, suite_keys, case_keys}
use Rattle.round_elements.specs.inside.PlainCase.{WholeTime, WholeMoment}
use Rattle.round_elements.proofs.Rows.{blank_row}
use Rattle.round_elements.proofs.Steps.{filled, Filling, fill_end, fill-last, fill-first, fill-value, fill-second, fill-tests, fill-failures}
use Rattle.round_elements.proofs.Steps.{fill-errors, fill-skipped, fill-assertions, fill-disabled, fill-uuid, fill-moment, fill-time, fill-seventh}
use Rattle.round_elements.proofs.Shown.{report_filled, suite_filled, case_filled, run_filled, main_filled, pair_filled}
use Rattle.round_elements.proofs.Fits.{Fitting}
use Rattle.round_elements.proofs.Opening.{PropertyRoles, StatusRoles, RunRoles}

-- keys in the order of their writing
abbrev pub report_keys : List (List ℕ)
report_keys = names_in table.report

abbrev pub status_keys : List (List ℕ)
status_keys = names_in table.skipped

abbrev pub run_keys : List (List ℕ)
run_keys = names_in table.run

abbrev pub pair_keys : List (List ℕ)
pair_keys = names_in table.property

module _ {p : Place} {used : ℕ} (texts : List ℕ) where
  pub report-filled : (r : Report) → Fitting (report_row r) → WholeTime r.time → WholeMoment r.timestamp
      → Filling p used kind.report report_keys (report_attributes r) (blank_row kind.report) texts (accepted (filled (report_filled (length texts) r) (texts ++ stored (of_text r.name))))
  unfolding role_of report_role role_in keys code_from same_bytes
  report-filled r f d m =
      fill-first (bytes "name") r.name refl f.first refl
      (fill-tests (bytes "tests") r.counts.tests refl f.second refl
      (fill-skipped (bytes "skipped") r.counts.skipped refl f.fifth
      (fill-failures (bytes "failures") r.counts.failures refl f.third refl
      (fill-errors (bytes "errors") r.counts.errors refl f.fourth refl
      (fill-disabled (bytes "disabled") r.counts.disabled refl f.sixth refl
      (fill-uuid r.uuid refl f.out f.err refl refl
      (fill-moment r.timestamp refl f.timestamp m refl
      (fill-last (fill-time r.time refl f.time d refl fill_end)))))))))

  -- up to the extras
  pub suite-filled : {o : Outcome Given} (s : TestSuite) → Fitting (suite_row s) → WholeTime s.time → WholeMoment s.timestamp
      → Filling p used kind.suite (keys_of s.extra) (map extra_attribute s.extra) (suite_filled (length texts) (length (texts ++ s.name)) s) ((texts ++ s.name) ++ stored (of_text s.hostname)) o
      → Filling p used kind.suite (suite_keys ++ keys_of s.extra) (suite_attributes s) (blank_row kind.suite) texts o
  unfolding role_of suite_role role_in keys code_from same_bytes
  suite-filled s f d m w =
      fill-first (bytes "name") (some s.name) refl f.first refl
      (fill-tests (bytes "tests") s.counts.tests refl f.second refl
      (fill-skipped (bytes "skipped") s.counts.skipped refl f.fifth
      (fill-errors (bytes "errors") s.counts.errors refl f.fourth refl
      (fill-failures (bytes "failures") s.counts.failures refl f.third refl
      (fill-disabled (bytes "disabled") s.counts.disabled refl f.sixth refl
      (fill-moment s.timestamp refl f.timestamp m refl
      (fill-time s.time refl f.time d refl
      (fill-seventh (bytes "hostname") s.hostname refl f.seventh refl w))))))))

  pub case-filled : {o : Outcome Given} (c : TestCase) → Fitting (case_row c) → WholeTime c.time → WholeMoment c.timestamp
      → Filling p used kind.case (keys_of c.extra) (map extra_attribute c.extra) (case_filled (length texts) (length (texts ++ c.name)) c) ((texts ++ c.name) ++ stored (of_text c.classname)) o
      → Filling p used kind.case (case_keys ++ keys_of c.extra) (case_attributes c) (blank_row kind.case) texts o
  unfolding role_of case_role role_in keys code_from same_bytes
  case-filled c f d m w =
      fill-first (bytes "name") (some c.name) refl f.first refl
      (fill-second (bytes "classname") c.classname refl f.second refl
      (fill-assertions (bytes "assertions") c.assertions refl f.third refl
      (fill-moment c.timestamp refl f.timestamp m refl
      (fill-time c.time refl f.time d refl w))))

  pub pair-filled : {κ : ℕ} → PropertyRoles κ → (q : Pair) → fits_cell (written q.key) ≡ true → fits_cell (written q.value) ≡ true
      → Filling p used κ pair_keys (textual (bytes "name") q.key ++ textual (bytes "value") q.value) (blank_row κ) texts
      (accepted (filled (pair_filled κ (length texts) (length (texts ++ q.key)) q) ((texts ++ q.key) ++ q.value)))
  pair-filled i q f g = fill-first (bytes "name") (some q.key) i.name f refl (fill-value (bytes "value") (some q.value) i.value g refl fill_end)

  pub main-filled : {κ : ℕ} → StatusRoles κ → (m : Reason) → fits_cell (of_text m.message) ≡ true → fits_cell (of_text m.type) ≡ true
      → Filling p used κ status_keys (status_attributes m.message m.type) (blank_row κ) texts
      (accepted (filled (main_filled κ (length texts) (length (texts ++ stored (of_text m.message))) m) ((texts ++ stored (of_text m.message)) ++ stored (of_text m.type))))
  main-filled i m f g = fill-first (bytes "message") m.message i.message f refl (fill-last (fill-second (bytes "type") m.type i.type g refl fill_end))

  pub run-filled : {κ : ℕ} → RunRoles κ → (e : TestRerun) → fits_moment e.timestamp ≡ true → fits_time e.time ≡ true → fits_cell (of_text e.message) ≡ true → fits_cell (of_text e.type) ≡ true
      → WholeTime e.time → WholeMoment e.timestamp
      → Filling p used κ run_keys (stamped e.timestamp ++ (timed e.time ++ status_attributes e.message e.type)) (blank_row κ) texts
      (accepted (filled (run_filled κ (length texts) (length (texts ++ stored (of_text e.message))) e) ((texts ++ stored (of_text e.message)) ++ stored (of_text e.type))))
  run-filled i e a b f g d m =
      fill-moment e.timestamp i.timestamp a m refl
      (fill-time e.time i.time b d refl
      (fill-first (bytes "message") e.message i.status.message f refl
      (fill-last (fill-second (bytes "type") e.type i.status.type g refl fill_end))))
