-- `set_classname`, `set_message` and the other setters of a text, as operations on the report. Assumes nothing.
use Prim.Native.Nat.{ℕ}
use mathlib.Core.Bool.{Bool, true, false, ◌&&◌}
use mathlib.Core.List.{List, [], ◌∷◌}
use mathlib.Core.Path.{◌≡◌, sym, ap}
use lib.ListN.{length}
use Rattle.tree_placed.specs.of_refusal.Refusal.{accepted}
use Rattle.tree_placed.specs.of_refusal.declared.Cause.TheVariants as cause
use Rattle.tree_placed.specs.of_utf8.Utf8.{utf8}
use Rattle.tree_placed.specs.of_text_filter.Filter.{filtered, unfiltered}
use Rattle.tree_placed.proofs.of_text_filter.Filtering.{unfiltered-filtered, utf8-filtered}
use Rattle.build_draft.specs.of_text_lossy.LossyText.{lossy_text}
use Rattle.build_draft.proofs.of_text_lossy.Storing.{lossy-stored}
use Rattle.tree_placed.specs.of_tree_put.Put.{put_text}
use Rattle.tree_placed.specs.of_tree_report.Report.{Text, Report}
use Rattle.tree_placed.proofs.of_tree_report.EncodeLists.{and_right}
use Rattle.build_draft.specs.declared.Builder.{Builder}
use Rattle.build_draft.specs.declared.Element.{Element}
use Rattle.build_draft.specs.declared.TextField.{TextField}
use Rattle.build_draft.specs.Draft.{Draft, kind_at, mark_of}
use Rattle.build_draft.specs.Parts.{putting, has_text, word_for, bit_for, is_output}
use Rattle.build_draft.specs.Calls as call
use Rattle.build_report.specs.Operations as report
use Rattle.build_report.specs.Operations.{target_of, kind_of_target}
use Rattle.build_report.specs.Stands.{Marked, Stands, Comes, gives, Stand}
use Rattle.build_report.specs.Builders.{fits_text, text_tests}
use Rattle.build_report.proofs.PlaceOf.{place-of}
use Rattle.build_report.proofs.PlaceReads.{reads}
use Rattle.build_report.proofs.Coming.{comes-tests}
use Rattle.build_report.proofs.Holding.{more_bytes}
use Rattle.build_report.proofs.Storing.{rows-many, record-at, row_fits, stored-text}
use Rattle.build_report.proofs.Becoming.{with_text, becomes_on, text-becomes}
use Rattle.build_report.proofs.Fitting.{text-fits}
use Rattle.build_report.proofs.Calling.{put_draft, comes-putting, comes-lossy, comes-last}
use Rattle.build_report.proofs.Targets.{Altered, text-test}
use Rattle.build_report.proofs.TargetTexts.{text-altered}

-- the bytes that are used don't matter for the marks
pub marks-more : {b : Builder} {r : Report} (n : ℕ) → Marked b r → Marked (more_bytes n b) r
marks-more n m = record { report = m.report; suite = m.suite; case = m.case; main = m.main }

module _ {b : Builder} {words text : List ℕ} {r : Report} (h : Stands b words text r) where
  -- a text that is stored for a field of record i
  text-stands : {i : ℕ} {r' : Report} (f : TextField) (v : Text) → Altered b r i (with_text f v) r' → utf8 v ≡ true → unfiltered v ≡ true → fits_text b.bytes v text ≡ true
      → Stand r' (put_draft i (word_for f) (bit_for f) v (record { builder = b; words = words; text = text }))
  text-stands f v a u c l =
      let s = h.stored in
      record {
        stored =
            stored-text s a.spot v u c l (put_text (word_for f) (bit_for f) b.bytes (length v)) (text-fits a.row (row_fits s a.spot) f v u c)
            (λ p e i x. becomes_on (text-becomes i b.bytes v x f) (ap (with_text f v) e));
        marks = marks-more (length v) a.marks;
      }

  -- the record of a setter that the element has, with its field changed
  text_of : (e : Element) (f : TextField) (v : Text) → has_text (kind_of_target (target_of e r)) f ≡ true → Altered b r (mark_of b e) (with_text f v) (report.set_text (target_of e r) f v r)
  text_of e f v t = text-altered r h.marks v f (place-of r h.marks (sym (rows-many h.stored)) e) t

  setter_test : (e : Element) (f : TextField) → has_text (kind_at words (mark_of b e)) f ≡ has_text (kind_of_target (target_of e r)) f
  setter_test e f = text-test h.stored f (reads r (place-of r h.marks (sym (rows-many h.stored)) e))

  pub set_text : (e : Element) (f : TextField) (s : List ℕ)
      → Comes (Stand (report.set_text (target_of e r) f (filtered s) r))
      ((has_text (kind_of_target (target_of e r)) f, cause.NotLayout) ∷ text_tests b.bytes s text [])
      (call.set_text e f s (record { builder = b; words = words; text = text }))
  unfolding call.set_text
  set_text e f s =
      let d : Draft = record { builder = b; words = words; text = text } in
      let i : ℕ = mark_of b e in
      comes-tests (has_text (kind_at words i) f) (has_text (kind_of_target (target_of e r)) f) cause.NotLayout (setter_test e f)
      (λ t. let a = text_of e f (filtered s) t in
      comes-last (putting i (word_for f) (bit_for f) false s d)
      (comes-putting d (λ g. accepted g) i (word_for f) (bit_for f) s (record-at h.stored a.spot)
      (λ u l. gives (text-stands f (filtered s) a (utf8-filtered s u) (unfiltered-filtered s) l))))

  pub set_output_lossy : (e : Element) (f : TextField) (s : List ℕ)
      → Comes (Stand (report.set_text (target_of e r) f (lossy_text s) r))
      ((is_output f && has_text (kind_of_target (target_of e r)) f, cause.NotLayout) ∷ (fits_text b.bytes (lossy_text s) text, cause.TextFull) ∷ [])
      (call.set_output_lossy e f s (record { builder = b; words = words; text = text }))
  unfolding call.set_output_lossy
  set_output_lossy e f s =
      let d : Draft = record { builder = b; words = words; text = text } in
      let i : ℕ = mark_of b e in
      comes-tests (is_output f && has_text (kind_at words i) f) (is_output f && has_text (kind_of_target (target_of e r)) f) cause.NotLayout (ap (λ (t : Bool). is_output f && t) (setter_test e f))
      (λ t. let a = text_of e f (lossy_text s) (and_right (is_output f) (has_text (kind_of_target (target_of e r)) f) t) in
      comes-last (putting i (word_for f) (bit_for f) true s d)
      (comes-lossy d (λ g. accepted g) i (word_for f) (bit_for f) s (record-at h.stored a.spot)
      (λ l. gives (text-stands f (lossy_text s) a (lossy-stored s).0 (lossy-stored s).1 l))))
