-- Each element's record is read back from the attributes that it is written with. Assumes nothing.
use Prim.Native.Nat.{ℕ}
use mathlib.Core.Bool.{true}
use mathlib.Core.List.{List, [], ◌∷◌, ◌++◌, map, append_assoc}
use mathlib.Core.Option.{some}
use mathlib.Core.Path.{◌≡◌, refl, sym, subst, ◌∙◌}
use lib.ListN.{length}
use Rattle.read_machine.specs.of_names.Bytes.{bytes}
use Rattle.read_machine.specs.of_names.Names.{same_bytes}
use Rattle.read_machine.specs.of_tree_record.Kinds as kind
use Rattle.write_report.specs.of_tree_report.Report.{Pair, FlakyOrRerun, TestRerun, Reason, TestCase, TestSuite, Report}
use Rattle.write_report.specs.of_tree_report.inside.Cells.{fits_cell, fits_row, every, of_text, stored, presence, pair_row_of, run_row, case_row, suite_row, report_row, kind_of_run}
use Rattle.write_report.proofs.of_tree_report.EncodeLists.{and_left, and_right, Each, done, more}
use Rattle.write_report.proofs.of_tree_report.EncodeCells.{bit-flag}
use Rattle.read_machine.specs.of_read_element.Outcome.{Place, unlimited}
use Rattle.read_machine.specs.of_read_element.Attributes.{Given, read_element}
use Rattle.write_report.specs.Written.{textual, stamped, timed, status_attributes, case_attributes, suite_attributes, report_attributes}
use Rattle.round_elements.specs.Plain.{keys_of, suite_keys, case_keys, distinct, good_keys}
use Rattle.round_elements.specs.inside.PlainCase.{WholeTime, WholeMoment}
use Rattle.round_elements.specs.inside.Opened.{PairShown, ReportShown, SuiteShown, CaseShown, RunShown, MainShown, Opened, none as noPairs}
use Rattle.round_elements.proofs.Keys.{Fresh, fresh_start, keys-good, keys-distinct, keys-fresh}
use Rattle.round_elements.proofs.Steps.{filled}
use Rattle.round_elements.proofs.Places.{stands-new, stands-more, suite-later, case-later}
use Rattle.round_elements.proofs.Shown.{report_filled, suite_filled, case_filled, run_filled, main_filled, pair_filled, report-shown, suite-shown, case-shown, run-shown, main-shown, pair-shown}
use Rattle.round_elements.proofs.Fits.{fitting}
use Rattle.round_elements.proofs.Roles.{suite-extra, case-extra}
use Rattle.round_elements.proofs.Extras.{ExtrasRead, GoodPair, extras-read}
use Rattle.round_elements.proofs.Opening.{opened, complete-report, complete-suite, complete-case, property-roles, main-roles, run-roles}
pub use Rattle.round_elements.proofs.Opening.{IsProperty, of_suite, of_case, IsMain, is_failure, is_error, is_skipped}
use Rattle.round_elements.proofs.Filled.{report_keys, status_keys, run_keys, pair_keys, report-filled, suite-filled, case-filled, pair-filled, main-filled, run-filled}

-- no element has two own keys that are the same
report-keys : Fresh [] report_keys
unfolding same_bytes
report-keys = fresh_start report_keys refl

status-keys : Fresh [] status_keys
unfolding same_bytes
status-keys = fresh_start status_keys refl

run-keys : Fresh [] run_keys
unfolding same_bytes
run-keys = fresh_start run_keys refl

pair-keys : Fresh [] pair_keys
unfolding same_bytes
pair-keys = fresh_start pair_keys refl

suite-keys : distinct suite_keys ≡ true
unfolding same_bytes
suite-keys = refl

case-keys : distinct case_keys ≡ true
unfolding same_bytes
case-keys = refl

good-pairs : (κ : ℕ) (ps : List Pair) → every fits_row (map (pair_row_of κ) ps) ≡ true → Each GoodPair ps
good-pairs κ [] e = done
good-pairs κ (p ∷ ps) e =
    let f = fitting (pair_row_of κ p) (and_left (fits_row (pair_row_of κ p)) (every fits_row (map (pair_row_of κ) ps)) e) in
    more (record { key = f.first; value = f.out }) (good-pairs κ ps (and_right (fits_row (pair_row_of κ p)) (every fits_row (map (pair_row_of κ) ps)) e))

module _ (p : Place) (j : ℕ) (records : List (List ℕ)) (texts : List ℕ) where
  -- a report's attributes as they are written are read into a record that shows the report
  pub report-opened : (r : Report) → fits_row (report_row r) ≡ true → WholeTime r.time → WholeMoment r.timestamp
      → Opened kind.report (λ t x. ReportShown t x r) [] records texts (read_element unlimited p kind.report j (report_attributes r) records texts)
  report-opened r f d m =
      let g : Given = filled (report_filled (length texts) r) (texts ++ stored (of_text r.name)) in
      opened p j (report_attributes r) g (stored (of_text r.name)) ((report-filled texts r (fitting (report_row r) f) d m).reads.run [] j report-keys)
      (complete-report p g) refl (report-shown (length texts) r (stands-new texts r.name)) noPairs

  -- a suite's attributes as they are written are read into records that show the suite and its extras
  pub suite-opened : (s : TestSuite) → fits_row (suite_row s) ≡ true → every fits_row (map (pair_row_of kind.suite_extra) s.extra) ≡ true
      → WholeTime s.time → WholeMoment s.timestamp → good_keys suite_keys (keys_of s.extra) ≡ true
      → Opened kind.suite (λ t x. SuiteShown t x s) s.extra records texts (read_element unlimited p kind.suite j (suite_attributes s) records texts)
  suite-opened s f e d m k =
      let named : List ℕ = texts ++ s.name in
      let hosted : List ℕ = stored (of_text s.hostname) in
      let x : ℕ = length texts in
      let y : ℕ = length named in
      let ks : List (List ℕ) = keys_of s.extra in
      let start : Given = filled (suite_filled x y s) (named ++ hosted) in
      let r : List ℕ = start.main in
      let w : ExtrasRead p (length records) kind.suite start [] s.extra =
      extras-read suite-extra start [] s.extra noPairs (keys-good suite_keys ks k) (good-pairs kind.suite_extra s.extra e) (fresh_start ks (keys-distinct suite_keys ks k)) in
      let g : Given = record { main = r; extras = w.rows; texts = w.texts } in
      opened p j (suite_attributes s) g (s.name ++ (hosted ++ w.added))
      ((suite-filled texts s (fitting (suite_row s) f) d m (record { reads = w.reads })).reads.run [] j (keys-fresh suite_keys ks suite-keys k))
      (complete-suite p g (bit-flag 0 (presence (suite_filled x y s))))
      (w.grown ∙ append_assoc named hosted w.added ∙ append_assoc texts s.name (hosted ++ w.added))
      (subst (λ (t : List ℕ). SuiteShown t r s) (sym w.grown)
      (suite-later (named ++ hosted) w.added r
      (suite-shown x y s (stands-more named hosted x (some s.name) (stands-new texts (some s.name))) (stands-new named s.hostname))))
      w.shown

  -- a case's attributes as they are written are read into records that show the case and its extras
  pub case-opened : (c : TestCase) → fits_row (case_row c) ≡ true → every fits_row (map (pair_row_of kind.case_extra) c.extra) ≡ true
      → WholeTime c.time → WholeMoment c.timestamp → good_keys case_keys (keys_of c.extra) ≡ true
      → Opened kind.case (λ t x. CaseShown t x c) c.extra records texts (read_element unlimited p kind.case j (case_attributes c) records texts)
  case-opened c f e d m k =
      let named : List ℕ = texts ++ c.name in
      let classed : List ℕ = stored (of_text c.classname) in
      let x : ℕ = length texts in
      let y : ℕ = length named in
      let ks : List (List ℕ) = keys_of c.extra in
      let start : Given = filled (case_filled x y c) (named ++ classed) in
      let r : List ℕ = start.main in
      let w : ExtrasRead p (length records) kind.case start [] c.extra =
      extras-read case-extra start [] c.extra noPairs (keys-good case_keys ks k) (good-pairs kind.case_extra c.extra e) (fresh_start ks (keys-distinct case_keys ks k)) in
      let g : Given = record { main = r; extras = w.rows; texts = w.texts } in
      opened p j (case_attributes c) g (c.name ++ (classed ++ w.added))
      ((case-filled texts c (fitting (case_row c) f) d m (record { reads = w.reads })).reads.run [] j (keys-fresh case_keys ks case-keys k))
      (complete-case p g (bit-flag 0 (presence (case_filled x y c))))
      (w.grown ∙ append_assoc named classed w.added ∙ append_assoc texts c.name (classed ++ w.added))
      (subst (λ (t : List ℕ). CaseShown t r c) (sym w.grown)
      (case-later (named ++ classed) w.added r
      (case-shown x y c (stands-more named classed x (some c.name) (stands-new texts (some c.name))) (stands-new named c.classname))))
      w.shown

  -- a run's attributes as they are written are read into a record that shows the run
  pub run-opened : (family : FlakyOrRerun) (e : TestRerun) → fits_row (run_row family e) ≡ true → WholeTime e.time → WholeMoment e.timestamp
      → Opened (kind_of_run family e.kind) (λ t x. RunShown family t x e) [] records texts
      (read_element unlimited p (kind_of_run family e.kind) j (stamped e.timestamp ++ (timed e.time ++ status_attributes e.message e.type)) records texts)
  run-opened family e f d m =
      let a : List ℕ = stored (of_text e.message) in
      let b : List ℕ = stored (of_text e.type) in
      let x : ℕ = length texts in
      let y : ℕ = length (texts ++ a) in
      let i = run-roles family e.kind in
      let h = fitting (run_row family e) f in
      let g : Given = filled (run_filled (kind_of_run family e.kind) x y e) ((texts ++ a) ++ b) in
      opened p j (stamped e.timestamp ++ (timed e.time ++ status_attributes e.message e.type)) g (a ++ b)
      ((run-filled texts i e h.timestamp h.time h.first h.second d m).reads.run [] j run-keys)
      (i.status.whole p g)
      (append_assoc texts a b)
      (run-shown x y family e (stands-more (texts ++ a) b x e.message (stands-new texts e.message)) (stands-new (texts ++ a) e.type))
      noPairs

  -- a status element's message and type as they are written are read into a record that shows them
  pub main-opened : (κ : ℕ) → IsMain κ → (m : Reason) → fits_cell (of_text m.message) ≡ true → fits_cell (of_text m.type) ≡ true
      → Opened κ (λ t x. MainShown κ t x m) [] records texts (read_element unlimited p κ j (status_attributes m.message m.type) records texts)
  main-opened κ k m f h =
      let a : List ℕ = stored (of_text m.message) in
      let b : List ℕ = stored (of_text m.type) in
      let x : ℕ = length texts in
      let y : ℕ = length (texts ++ a) in
      let i = main-roles k in
      let g : Given = filled (main_filled κ x y m) ((texts ++ a) ++ b) in
      opened p j (status_attributes m.message m.type) g (a ++ b)
      ((main-filled texts i m f h).reads.run [] j status-keys)
      (i.whole p g)
      (append_assoc texts a b)
      (main-shown κ x y m (stands-more (texts ++ a) b x m.message (stands-new texts m.message)) (stands-new (texts ++ a) m.type))
      noPairs

  -- a property's name and value as they are written are read into a record that shows the pair
  pub property-opened : (κ : ℕ) → IsProperty κ → (q : Pair) → fits_row (pair_row_of κ q) ≡ true
      → Opened κ (λ t x. PairShown κ t x q) [] records texts (read_element unlimited p κ j (textual (bytes "name") q.key ++ textual (bytes "value") q.value) records texts)
  property-opened κ k q f =
      let a : List ℕ = q.key in
      let b : List ℕ = q.value in
      let x : ℕ = length texts in
      let y : ℕ = length (texts ++ a) in
      let i = property-roles k in
      let h = fitting (pair_row_of κ q) f in
      let g : Given = filled (pair_filled κ x y q) ((texts ++ a) ++ b) in
      opened p j (textual (bytes "name") q.key ++ textual (bytes "value") q.value) g (a ++ b)
      ((pair-filled texts i q h.first h.out).reads.run [] j pair-keys)
      (i.whole p g (bit-flag 0 (presence (pair_filled κ x y q))) (bit-flag 1 (presence (pair_filled κ x y q))))
      (append_assoc texts a b)
      (pair-shown κ x y q (stands-more (texts ++ a) b x (some a) (stands-new texts (some a))) (stands-new (texts ++ a) (some b)))
      noPairs
