-- The report that a layout holds: there is one, it is sound, and it has no more rows than a layout may have records.
-- Assumes nothing.
use Prim.Native.Nat.{ℕ, suc, ◌*◌, ◌≤◌}
use mathlib.Core.Bool.{true}
use mathlib.Core.List.{List, [], ◌∷◌}
use mathlib.Core.Option.{some}
use mathlib.Core.Path.{◌≡◌, sym, ap, subst, ◌∙◌}
use native.Mathlib.Omega.{arith}
use lib.ListN.{length}
use Rattle.tree_layout.specs.of_area.Limits.{most_records}
use Rattle.tree_layout.specs.of_tree_report.Report.{Report}
use Rattle.tree_layout.specs.of_tree_report.Fields.{live}
use Rattle.tree_layout.specs.of_tree_report.Layout.{used_text, filled, good_text, records_of, layout}
use Rattle.tree_layout.specs.of_tree_report.ReportOf.{only, report_from, report_of}
use Rattle.tree_layout.specs.of_tree_report.Encode.{rows_of}
use Rattle.tree_layout.specs.of_tree_report.inside.Cells as cells
use Rattle.tree_layout.proofs.of_tree_report.CellFits.{rows_fit}
use Rattle.tree_layout.proofs.of_tree_report.EncodeLists.{Each, more, each_on}
use Rattle.round_elements.specs.Plain.{sound}
use Rattle.round_sound.specs.Words.{are_words}
use Rattle.round_sound.proofs.Lists.{each-every, each-only}
use Rattle.round_sound.proofs.Rows.{Fits, Fine, report_at_of, report-fits}
use Rattle.round_sound.proofs.Counting.{many-length, suites-many}
use Rattle.round_sound.proofs.Areas.{records-limit, Begun, text-good, records-fine, records-begun}

-- ---- the report from its live records
module _ (text : List ℕ) where
  report-same : (r : List ℕ) (rs : List (List ℕ)) (p : Report) → report_from text (r ∷ rs) ≡ some p → report_at_of text r rs ≡ p
  report-same r rs p e = cc

  none_left : (p : Report) → report_from text [] ≡ some p → ⊥
  none_left p e = let z : ◌≡◌ {A = ℕ} 0 1 = cc in omega arith

  rows-many : (rs : List (List ℕ)) (p : Report) → report_from text rs ≡ some p → length (rows_of p) ≤ length rs
  rows-many [] p e = absurd (none_left p e)
  rows-many (r ∷ rs) p e = subst (λ (q : Report). length (rows_of q) ≤ suc (length rs)) (report-same r rs p e) (let h = suites-many text rs in omega arith)

  rows-sound : good_text text ≡ true → (rs : List (List ℕ)) (b : Begun rs) (p : Report) → Each (Fine (filled text)) rs → report_from text (only live rs) ≡ some p → sound p ≡ true
  unfolding sound
  rows-sound good rs b p f e =
      let g : Each (Fine (filled text)) (b.top ∷ b.behind) = subst (Each (Fine (filled text))) b.whole (each_on (λ r h. h.0) (each-only live f)) in
      let same : report_at_of text b.top b.behind ≡ p = report-same b.top b.behind p (ap (report_from text) (sym b.whole) ∙ e) in
      subst (λ (q : Report). sound q ≡ true) same (sym (rows_fit (report_at_of text b.top b.behind)) ∙ each-every cells.fits_row (whole g))
    where
      whole : Each (Fine (filled text)) (b.top ∷ b.behind) → Each Fits (cells.rows_of (report_at_of text b.top b.behind))
      whole (more h hs) = report-fits text good b.top b.behind b.report h hs

module _ (words text : List ℕ) where
  -- a layout holds a report
  pub layout-report : layout words text ≡ true → (r : Report) × (report_of words text ≡ some r)
  unfolding report_of
  layout-report e =
      let b = records-begun words text e in
      (report_at_of (used_text text) b.top b.behind, ap (report_from (used_text text)) b.whole)

  -- the report that a layout holds is sound, as the round trip asks
  pub layout-sound : (r : Report) → are_words words ≡ true → layout words text ≡ true → report_of words text ≡ some r → sound r ≡ true
  unfolding report_of
  layout-sound r w e h = rows-sound (used_text text) (text-good words text e) (records_of words) (records-begun words text e) r (records-fine words text e w) h

  -- also where the areas are no layout
  pub report-rows : (r : Report) → report_of words text ≡ some r → (length (rows_of r) ≤ most_records) × (length (rows_of r) * 32 ≤ length words)
  unfolding report_of
  report-rows r h =
      let n = rows-many (used_text text) (only live (records_of words)) r h in
      let m = many-length live (records_of words) in
      let l = (records-limit words).0 in
      let k = (records-limit words).1 in
      (omega arith, omega arith)

  -- the report that a layout holds has no more rows than a layout may have records
  pub layout-rows : (r : Report) → layout words text ≡ true → report_of words text ≡ some r → length (rows_of r) ≤ most_records
  layout-rows r e h = (report-rows r h).0

  pub layout-room : (r : Report) → layout words text ≡ true → report_of words text ≡ some r → length (rows_of r) * 32 ≤ length words
  layout-room r e h = (report-rows r h).1
