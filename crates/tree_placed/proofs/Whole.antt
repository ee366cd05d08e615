-- A report is held wherever its texts stand. Assumes nothing.
use Prim.Native.Nat.{ℕ, ◌-◌, ◌*◌, ◌≤◌}
use mathlib.Core.Bool.{true, false}
use mathlib.Core.List.{List, [], ◌∷◌, ◌++◌}
use mathlib.Core.Option.{some}
use mathlib.Core.Path.{◌≡◌, refl, sym, ap, ap₂, subst, ◌∙◌}
use lib.Dec.{eqb}
use lib.ListN.{length, drop, length-map}
use Rattle.tree_put.proofs.of_area.Laying.{laid-zeros}
use Rattle.tree_put.specs.of_area.Area.{zeros, laid}
use Rattle.tree_put.specs.of_utf8.Characters.{joined}
use Rattle.tree_put.specs.of_utf8.Utf8.{utf8}
use Rattle.tree_report.specs.of_text_filter.Filter.{unfiltered}
use Rattle.tree_report.specs.Encode as row
use Rattle.tree_report.specs.inside.Cells.{Row, every, fits_row, rows_of}
use Rattle.tree_report.specs.Fields.{kind_of, live}
use Rattle.tree_report.specs.Layout.{used_words, used_text, all_zero, filled, good_text, all_good, nothing, good_order, records_of, layout}
use Rattle.tree_report.specs.Report.{Report}
use Rattle.tree_report.specs.ReportOf.{only, report_from, report_of}
use Rattle.tree_report.proofs.CellFits.{rows_alike, rows_fit}
use Rattle.tree_report.proofs.EncodeAreas.{Whole, records-of, zeros-behind}
use Rattle.tree_report.proofs.EncodeGood.{Known, known-rows}
use Rattle.tree_report.proofs.EncodeKinds.{suite_kinds, report-kinds}
use Rattle.tree_report.proofs.EncodeLists.{both, Each, done, more, every-each, Beside, ended, beside}
use Rattle.tree_report.proofs.EncodeOrder.{order-good}
use Rattle.tree_report.proofs.EncodeReading as reading
use Rattle.tree_report.proofs.EncodeShown.{Shows, heads, missed}
use Rattle.tree_report.proofs.EncodeText.{take-area, filled-texts, good-texts}
use Rattle.tree_placed.specs.inside.Placed.{Placed, record_of_it, records_in, rows_in, InTexts}
use Rattle.tree_placed.proofs.Putting.{record-length}
use Rattle.tree_placed.proofs.Records.{Placing, all-placing, shown-placed, good_placed}

-- ---- placed records of these rows show them, and are good if they fit
module _ (texts : List ℕ) where
  all_shown : (ps : List Placed) {rows : List row.Row} → Each Known rows → Beside Placing rows (rows_in ps) → Each (InTexts texts) ps → (z : List ℕ) → Shows (texts ++ z) rows (records_in ps)
  all_shown [] (more {xs = xs} k ks) x11 _ z = elim x11 [ ]
  all_shown (p ∷ ps) done x9 _ z = elim x9 [ ]
  all_shown [] done ended done z = ended
  all_shown (p ∷ ps) (more k ks) (beside b bs) (more h hs) z = beside (shown-placed b p.places h k z) (all_shown ps ks bs hs z)

  all-good : (ps : List Placed) {rows : List row.Row} → Each Known rows → Each (λ r. row.fits_row r ≡ true) rows → Beside Placing rows (rows_in ps)
      → Each (InTexts texts) ps → all_good texts (records_in ps) ≡ true
  all-good [] (more {xs = xs} k ks) _ x15 _ = elim x15 [ ]
  all-good (p ∷ ps) done _ x13 _ = elim x13 [ ]
  all-good [] done done ended done = refl
  all-good (p ∷ ps) (more k ks) (more f fs) (beside b bs) (more h hs) = both (good_placed b p.places h k f) (all-good ps ks fs bs hs)

placings : (r : Report) (ps : List Placed) → rows_in ps ≡ rows_of r → Beside Placing (row.rows_of r) (rows_in ps)
placings r ps e = subst (λ (l : List Row). Beside Placing (row.rows_of r) l) (sym e) (rows_alike all-placing r)

-- the records of a report are read back, wherever its texts stand
pub report-read : (texts z : List ℕ) (r : Report) (ps : List Placed) → rows_in ps ≡ rows_of r → Each (InTexts texts) ps → report_from (texts ++ z) (only live (records_in ps)) ≡ some r
report-read texts z r ps e h = reading.report-read (texts ++ z) r (all_shown texts ps (known-rows r) (placings r ps e) h z)

-- ---- their records
pairs : (ps : List Placed) → Each (λ w. eqb (kind_of w) 0 ≡ false) (records_in ps) → Each Whole (records_in ps)
pairs [] done = done
pairs (p ∷ ps) (more k ks) = more (record-length p, k) (pairs ps ks)

-- ---- the whole
module _ (r : Report) (ps : List Placed) (texts : List ℕ) (n m : ℕ)
    (rows : rows_in ps ≡ rows_of r)
    (stand : Each (InTexts texts) ps)
    (fit : every fits_row (rows_of r) ≡ true)
    (characters : utf8 texts ≡ true)
    (clean : unfiltered texts ≡ true)
    (limit : length ps ≤ 65536)
    (room : length ps * 32 ≤ n)
    (text-limit : length texts ≤ 16777216)
    (text-room : length texts ≤ m) where
  shown : Shows (texts ++ []) (row.rows_of r) (records_in ps)
  shown = all_shown texts ps (known-rows r) (placings r ps rows) stand []

  whole : Each Whole (records_in ps)
  whole = pairs ps (missed (λ k. eqb k 0) (1 ∷ 2 ∷ suite_kinds) refl (report-kinds r) (heads shown))

  limit-records : length (records_in ps) ≤ 65536
  limit-records = rw (length-map ps record_of_it) limit

  room-records : length (records_in ps) * 32 ≤ n
  room-records = rw (length-map ps record_of_it) room

  records : records_of (laid (zeros n) (joined (records_in ps))) ≡ records_in ps
  records = records-of whole n limit-records room-records

  -- of the text area: the texts and zeros
  used : (k : ℕ) × (used_text (laid (zeros m) texts) ≡ texts ++ zeros k)
  used =
      let p = take-area texts (m - length texts) 16777216 text-limit in
      (p.0, ap used_text (laid-zeros m texts text-room) ∙ p.1)

  good : all_good texts (records_in ps) ≡ true
  good = all-good texts ps (known-rows r) (every-each row.fits_row (row.rows_of r) (sym (rows_fit r) ∙ fit)) (placings r ps rows) stand

  -- records of a report's rows, and texts in which theirs stand, are a layout, wherever each text stands
  pub placed-layout : layout (laid (zeros n) (joined (records_in ps))) (laid (zeros m) texts) ≡ true
  unfolding layout
  placed-layout =
      let k : ℕ = used.0 in
      both (ap good_text used.1 ∙ good-texts texts k characters clean)
      (both (ap₂ all_good (ap filled used.1 ∙ filled-texts texts k clean) records ∙ good)
      (both (ap (good_order nothing) records ∙ order-good r (heads shown))
      (ap (λ (rs : List (List ℕ)). all_zero (drop (length rs * 32) (used_words (laid (zeros n) (joined (records_in ps)))))) records ∙ zeros-behind whole n limit-records room-records)))

  -- the report that such a layout holds is the rows' report
  pub placed-report : report_of (laid (zeros n) (joined (records_in ps))) (laid (zeros m) texts) ≡ some r
  unfolding report_of
  placed-report =
      ap₂ (λ (t : List ℕ) (rs : List (List ℕ)). report_from t (only live rs)) used.1 records
      ∙ report-read texts (zeros used.0) r ps rows stand
