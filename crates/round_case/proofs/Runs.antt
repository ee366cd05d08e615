-- A run is read back. Assumes nothing.
use Prim.Native.Nat.{ℕ}
use mathlib.Core.Bool.{true, false}
use mathlib.Core.List.{List, [], ◌∷◌, ◌++◌, append-nil}
use mathlib.Core.Option.{Option, none, some}
use mathlib.Core.Path.{◌≡◌, refl, sym, ap, subst}
use lib.Dec.{leb}
use lib.ListN.{length}
use Rattle.round_elements.specs.of_names.Bytes.{bytes}
use Rattle.round_elements.specs.of_names.Names.{same_bytes, code_from}
use Rattle.round_elements.specs.of_names.Tags.{tags}
use Rattle.round_elements.specs.of_trim.Trim.{trimmed}
use Rattle.round_elements.specs.of_table.Event.{Attribute, Start, End, Text as TextPiece, Indent, Event}
use Rattle.round_elements.specs.of_tree_status.declared.Tally.{Tally}
use Rattle.round_elements.specs.of_tree_status.Status.{tallied}
use Rattle.round_elements.specs.of_tree_report.Report.{Text, NonSuccessKind, failure, error, FlakyOrRerun, flaky, rerun, TestRerun}
use Rattle.round_elements.specs.of_tree_report.inside.Cells.{kind_of_run, run_row, fits_row}
use Rattle.round_elements.specs.of_read_state.Control.{case, status, at, open_status, close_status, gathers}
use Rattle.round_elements.specs.of_read_rules.Rules.{at_case, at_status, plan_at}
use Rattle.round_elements.specs.of_read_content.Content.{piece_of}
use Rattle.round_elements.specs.of_read_machine.Machine.{Machine}
use Rattle.round_elements.specs.of_write_escape.Escape.{escaped}
use Rattle.round_elements.specs.of_write_report.Written.{optional, start_tag, text_event, end_tag, indent, stamped, timed, status_attributes}
use Rattle.round_elements.specs.of_write_report.Written.{run_name, indented, run_children, serialize_output, serialize_outputs, serialize_rerun}
use Rattle.round_elements.specs.inside.PlainCase.{WholeTime, WholeMoment}
use Rattle.round_elements.specs.inside.Held.{RunHeld}
use Rattle.round_elements.proofs.Elements.{run-opened}
use Rattle.round_elements.proofs.Gathered.{run-begun, run-trace as put-trace, run_out as put-out, run-err as put-err, run-description as put-description}
use Rattle.round_case.specs.inside.Amid.{holding, Spots, in_status, Amid, Reads, Holder}
use Rattle.round_case.proofs.Following.{reads_none, reads_then}
use Rattle.round_case.proofs.Clean.{Cleans, Describes, clean-piece, trimmed-newline}
use Rattle.round_case.proofs.Outputs.{run-trace, run_out, run-err, output-held}
use Rattle.round_case.proofs.Opening.{status-opens}
use Rattle.round_case.proofs.Closing.{Gathered, status-closes}
use Rattle.round_case.proofs.Mains.{holder_as, piece-held}

-- ---- the names of runs
run-begins : (family : FlakyOrRerun) (k : NonSuccessKind) → plan_at (at case) true Start (run_name family k) ≡ open_status (kind_of_run family k) false
unfolding plan_at at_case tags code_from same_bytes
run-begins flaky failure = refl
run-begins flaky error = refl
run-begins rerun failure = refl
run-begins rerun error = refl

run_ends : (family : FlakyOrRerun) (k : NonSuccessKind) → plan_at (at status) true End (run_name family k) ≡ close_status
unfolding plan_at at_status tags code_from same_bytes
run_ends flaky failure = refl
run_ends flaky error = refl
run_ends rerun failure = refl
run_ends rerun error = refl

run-takes : (family : FlakyOrRerun) (k : NonSuccessKind) → leb 9 (kind_of_run family k) ≡ true
run-takes flaky failure = refl
run-takes flaky error = refl
run-takes rerun failure = refl
run-takes rerun error = refl

-- ---- its description: an Indent stands before the first child behind it
abbrev gap : List Event → List Event
gap [] = []
gap (e ∷ es) = indent ∷ []

abbrev gap_bytes : List Event → List ℕ
gap_bytes [] = []
gap_bytes (e ∷ es) = 10 ∷ []

abbrev lead : Option Text → List Event → List Event
lead none es = []
lead (some d) es = text_event d ∷ gap es

abbrev lead_bytes : Option Text → List Event → List ℕ
lead_bytes none es = []
lead_bytes (some d) es = d ++ gap_bytes es

lead-indented : (v : Option Text) (es : List Event) → indented v es ≡ lead v es ++ es
lead-indented none es = refl
lead-indented (some d) [] = refl
lead-indented (some d) (e ∷ es) = refl

lead-gathered : (v : Option Text) (es : List Event) → Describes v → Gathered v (lead_bytes v es)
lead-gathered none es c = refl
lead-gathered (some d) [] c = ap trimmed (append-nil d)
lead-gathered (some d) (e ∷ es) c = trimmed-newline d c.0.good

module _ {tally : Tally} {base : List ℕ} {xs : List (List ℕ)} {spots : Spots} {Shown : List ℕ → List ℕ → Type 0} where
  gap-held : {n : ℕ} {s : Machine} (d : List ℕ) (es : List Event) → Holder status tally base xs [] d spots Shown s → Reads n (gap es) s (Holder status tally base xs [] (d ++ gap_bytes es) spots Shown)
  unfolding gathers piece_of
  gap-held {s = s} d [] h = reads_none (subst (λ (x : List ℕ). Holder status tally base xs [] x spots Shown s) (sym (append-nil d)) h)
  gap-held d (e ∷ es) h = piece-held h Indent (10 ∷ []) (10 ∷ []) refl refl

  lead-held : {n : ℕ} {s : Machine} (v : Option Text) (es : List Event) → Describes v → Holder status tally base xs [] [] spots Shown s
      → Reads n (lead v es) s (Holder status tally base xs [] (lead_bytes v es) spots Shown)
  unfolding gathers
  lead-held none es c h = reads_none h
  lead-held (some d) es c h = reads_then (text_event d ∷ []) (gap es) (piece-held h TextPiece (escaped d) d refl (clean-piece c.0)) (λ j t g. gap-held d es g)

-- ---- its stack trace and outputs
pub record RunClean (family : FlakyOrRerun) (e : TestRerun) : Type 0 where
  pub fits : fits_row (run_row family e) ≡ true
  pub time : WholeTime e.time
  pub timestamp : WholeMoment e.timestamp
  pub trace : Cleans e.stack_trace
  pub out : Cleans e.system_out
  pub err : Cleans e.system_err
  pub description : Describes e.description

module _ {family : FlakyOrRerun} {e : TestRerun} (c : RunClean family e) {tally : Tally} {base : List ℕ} {xs : List (List ℕ)} {spots : Spots}
    (there : spots.status_at_of ≡ length xs) (taken : leb 9 spots.status_kind_of ≡ true) where
  children-held : {n : ℕ} {d : List ℕ} {s : Machine} → Holder status tally base xs [] d spots (RunHeld family e none none none none) s
      → Reads n (run_children e) s (Holder status tally base xs [] d spots (RunHeld family e e.stack_trace e.system_out e.system_err none))
  unfolding serialize_outputs
  children-held h =
      reads_then (optional (serialize_output (bytes "stackTrace")) e.stack_trace) (serialize_outputs e.system_out e.system_err)
      (output-held run-trace xs [] there taken (λ v. RunHeld family e v none none none) (λ t u r k. put-trace u r t k) e.stack_trace c.trace h) (λ j s h.
      reads_then (optional (serialize_output (bytes "system-out")) e.system_out) (optional (serialize_output (bytes "system-err")) e.system_err)
      (output-held run_out xs [] there taken (λ v. RunHeld family e e.stack_trace v none none) (λ t u r k. put-out u r t k) e.system_out c.out h) (λ j s h.
      output-held run-err xs [] there taken (λ v. RunHeld family e e.stack_trace e.system_out v none) (λ t u r k. put-err u r t k) e.system_err c.err h))

  body-held : {n : ℕ} {s : Machine} → Holder status tally base xs [] [] spots (RunHeld family e none none none none) s
      → Reads n (indented e.description (run_children e)) s
      (Holder status tally base xs [] (lead_bytes e.description (run_children e)) spots (RunHeld family e e.stack_trace e.system_out e.system_err none))
  body-held {n} {s} h =
      let v : Option Text = e.description in
      let es : List Event = run_children e in
      subst (λ (l : List Event). Reads n l s (Holder status tally base xs [] (lead_bytes v es) spots (RunHeld family e e.stack_trace e.system_out e.system_err none))) (sym (lead-indented v es))
      (reads_then (lead v es) es (lead-held v es c.description h) (λ j t g. children-held g))

-- ---- one run
module _ {family : FlakyOrRerun} {e : TestRerun} (c : RunClean family e) where
  pub run-reads : {n : ℕ} {s : Machine} {tally : Tally} {records : List (List ℕ)} {texts : List ℕ} {spots : Spots} → Amid (at case) tally (holding records texts [] []) spots s
      → Reads n (serialize_rerun family e) s
      (Holder case (tallied tally (kind_of_run family e.kind)) texts records [] [] (in_status spots (length records) (kind_of_run family e.kind))
      (RunHeld family e e.stack_trace e.system_out e.system_err e.description))
  unfolding serialize_rerun
  run-reads {records = records} {texts = texts} a =
      let κ : ℕ = kind_of_run family e.kind in
      let name : List ℕ = run_name family e.kind in
      let body : List Event = indented e.description (run_children e) in
      let xs : List Attribute = stamped e.timestamp ++ (timed e.time ++ status_attributes e.message e.type) in
      reads_then (start_tag name xs ∷ []) (body ++ (end_tag name ∷ []))
      (status-opens Start false name κ xs (run-begins family e.kind) (λ p j. run-opened p j records texts family e c.fits c.time c.timestamp) a) (λ j t h.
      reads_then body (end_tag name ∷ []) (body-held c refl (run-takes family e.kind) (holder_as h (λ x r y. run-begun y))) (λ j t h.
      status-closes (RunHeld family e e.stack_trace e.system_out e.system_err) (λ x t r y. put-description t r x y) name e.description c.description
      (lead-gathered e.description (run_children e) c.description) (run_ends family e.kind) refl h))
