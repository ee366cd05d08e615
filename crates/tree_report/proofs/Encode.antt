-- A report that fits is laid out and read back. Assumes nothing.
use Prim.Native.Nat.{ℕ, suc, ◌+◌, ◌-◌, ◌*◌, ◌≤◌}
use mathlib.Core.Bool.{Bool, true, false, ◌&&◌}
use mathlib.Core.List.{List, [], ◌∷◌, ◌++◌, append_assoc}
use mathlib.Core.Option.{some}
use mathlib.Core.Path.{◌≡◌, refl, sym, ap, ap₂, ◌∙◌}
use borrow.Author.Tests.{leb-true}
use lib.Dec.{leb, eqb}
use lib.ListN.{length, drop, length-append}
use Rattle.schema.proofs.of_area.Laying.{laid-zeros}
use Rattle.schema.specs.of_area.Area.{zeros}
use Rattle.schema.proofs.of_utf8.Rules.{utf8_append}
use Rattle.schema.specs.of_utf8.Utf8.{utf8}
use Rattle.schema.specs.of_text_filter.Filter.{unfiltered}
use Rattle.schema.specs.Records as records
use Rattle.schema.specs.Texts as texts
use Rattle.schema.proofs.TextLaws.{utf8-all, record-back, record-good}
use Rattle.schema.proofs.RecordLaws.{length-encode, marks-placed, clean-append, clean_all}
use Rattle.tree_report.specs.Encode.{Row, texts_of, record_at, stored_in, records_at, every, fits_row, rows_of, encode, words_of, text_of, fits}
use Rattle.tree_report.specs.Fields.{kind_of, live}
use Rattle.tree_report.specs.Layout.{used_words, used_text, all_zero, filled, good_text, all_good, nothing, good_order, records_of, layout}
use Rattle.tree_report.specs.Report.{Report}
use Rattle.tree_report.specs.ReportOf.{only, report_from, report_of}
use Rattle.tree_report.proofs.EncodeAreas.{Whole, records-of, zeros-behind}
use Rattle.tree_report.proofs.EncodeGood.{Known, known-rows}
use Rattle.tree_report.proofs.EncodeKinds.{suite_kinds, report-kinds}
use Rattle.tree_report.proofs.EncodeLists.{both, and_left, and_right, Each, done, more, every-each, ended, beside}
use Rattle.tree_report.proofs.EncodeOrder.{order-good}
use Rattle.tree_report.proofs.EncodeReading.{report-read}
use Rattle.tree_report.proofs.EncodeShown.{Headed, Shows, heads, missed}
use Rattle.tree_report.proofs.EncodeText.{take-area, filled-texts, good-texts}

-- ---- rows that fit
abbrev pub Fit : Row → Type 0
Fit row = fits_row row ≡ true

-- the texts of rows that fit are UTF-8
pub rows-utf8 : {rows : List Row} → Each Fit rows → utf8 (stored_in rows) ≡ true
unfolding fits_row
rows-utf8 done = refl
rows-utf8 (more {x = r} {xs = rows} f fs) = utf8_append (texts_of r) (stored_in rows) (utf8-all r.table r.fields f) ∙ rows-utf8 fs

rows-clean : {rows : List Row} → Each Fit rows → unfiltered (stored_in rows) ≡ true
unfolding fits_row
rows-clean done = refl
rows-clean (more {x = r} {xs = rows} f fs) = clean-append (texts_of r) (stored_in rows) (clean_all r.table r.fields f) (rows-clean fs)

-- ---- their records show them, and are good
head-shown : (fill : ℕ) (row : Row) → Headed row (record_at fill row)
unfolding texts.record_at records.encode
head-shown fill row = record { kind = refl; bits = ap records.flags_of (marks-placed fill 0 row.table row.fields) }

-- the texts of these rows stand behind others, which are fill bytes
abbrev Standing : List ℕ → ℕ → List ℕ → List Row → Type 0
Standing texts fill before rows = (texts ≡ before ++ stored_in rows) × (length before ≡ fill)

standing-next : {texts : List ℕ} {fill : ℕ} (before : List ℕ) (row : Row) (rows : List Row) → Standing texts fill before (row ∷ rows)
    → Standing texts (fill + length (texts_of row)) (before ++ texts_of row) rows
standing-next before row rows s = (
  s.0 ∙ sym (append_assoc before (texts_of row) (stored_in rows)),
  length-append before (texts_of row) ∙ ap (λ (n : ℕ). n + length (texts_of row)) s.1,
)

module _ (texts : List ℕ) where
  rows-shown : (z : List ℕ) {rows : List Row} {fill : ℕ} (before : List ℕ) → Each Known rows → Each Fit rows → Standing texts fill before rows → Shows (texts ++ z) rows (records_at fill rows)
  unfolding fits_row
  rows-shown z before done done s = ended
  rows-shown z {fill = fill} before (more {x = r} {xs = rows} k ks) (more f fs) s =
      beside (record {
        head = head-shown fill r;
        fields = record-back r.table k.tested r.kind fill r.fields f texts before (stored_in rows) (s.0, s.1, rows-utf8 fs) z;
      }) (rows-shown z (before ++ texts_of r) ks fs (standing-next before r rows s))

  rows-good : {rows : List Row} {fill : ℕ} (before : List ℕ) → Each Known rows → Each Fit rows → Standing texts fill before rows → all_good texts (records_at fill rows) ≡ true
  unfolding fits_row
  rows-good before done done s = refl
  rows-good {fill = fill} before (more {x = r} {xs = rows} k ks) (more f fs) s =
      both (k.passes texts (record_at fill r) (head-shown fill r).kind
      (record-good r.table k.tested r.kind fill r.fields f texts before (stored_in rows) (s.0, s.1, rows-utf8 fs)))
      (rows-good (before ++ texts_of r) ks fs (standing-next before r rows s))

-- ---- the whole
length-records : (rows : List Row) (fill : ℕ) → length (records_at fill rows) ≡ length rows
length-records [] fill = refl
length-records (r ∷ rows) fill = ap suc (length-records rows (fill + length (texts_of r)))

whole-records : {rows : List Row} (fill : ℕ) → Each Known rows → Each (λ w. eqb (kind_of w) 0 ≡ false) (records_at fill rows) → Each Whole (records_at fill rows)
unfolding texts.record_at
whole-records fill done done = done
whole-records fill (more {x = r} k ks) (more q qs) =
    more (length-encode r.table k.tested r.kind (texts.placed_at fill r.table r.fields), q) (whole-records (fill + length (texts_of r)) ks qs)

-- what `fits` says
record Fitting (r : Report) (n m : ℕ) : Type 0 where
  limit : length (rows_of r) ≤ 65536
  room : length (rows_of r) * 32 ≤ n
  text-limit : length (stored_in (rows_of r)) ≤ 16777216
  text-room : length (stored_in (rows_of r)) ≤ m
  each_row : Each Fit (rows_of r)

fitting : (r : Report) (n m : ℕ) → fits r n m ≡ true → Fitting r n m
unfolding fits
fitting r n m e =
    let rows : List Row = rows_of r in
    let size : ℕ = length (stored_in rows) in
    let rest3 : Bool = leb size m && every fits_row rows in
    let rest2 : Bool = leb size 16777216 && rest3 in
    let rest1 : Bool = leb (length rows * 32) n && rest2 in
    let e1 : rest1 ≡ true = and_right (leb (length rows) 65536) rest1 e in
    let e2 : rest2 ≡ true = and_right (leb (length rows * 32) n) rest2 e1 in
    let e3 : rest3 ≡ true = and_right (leb size 16777216) rest3 e2 in
    record {
      limit = leb-true (length rows) 65536 (and_left (leb (length rows) 65536) rest1 e);
      room = leb-true (length rows * 32) n (and_left (leb (length rows * 32) n) rest2 e1);
      text-limit = leb-true size 16777216 (and_left (leb size 16777216) rest3 e2);
      text-room = leb-true size m (and_left (leb size m) (every fits_row rows) e3);
      each_row = every-each fits_row rows (and_right (leb size m) (every fits_row rows) e3);
    }

module _ (r : Report) (n m : ℕ) (f : Fitting r n m) where
  abbrev rows : List Row
  rows = rows_of r

  abbrev stored : List ℕ
  stored = stored_in rows

  standing : Standing stored 0 [] rows
  standing = (refl, refl)

  shown : (z : List ℕ) → Shows (stored ++ z) rows (records_at 0 rows)
  shown z = rows-shown stored z [] (known-rows r) f.each_row standing

  -- the areas: the texts and zeros, and the records
  used : (k : ℕ) × (used_text (text_of r m) ≡ stored ++ zeros k)
  unfolding text_of encode
  used =
      let p = take-area stored (m - length stored) 16777216 f.text-limit in
      (p.0, ap used_text (laid-zeros m stored f.text-room) ∙ p.1)

  limit-records : length (records_at 0 rows) ≤ 65536
  limit-records = rw (length-records rows 0) f.limit

  room-records : length (records_at 0 rows) * 32 ≤ n
  room-records = rw (length-records rows 0) f.room

  whole : Each Whole (records_at 0 rows)
  whole = whole-records 0 (known-rows r) (missed (λ k. eqb k 0) (1 ∷ 2 ∷ suite_kinds) refl (report-kinds r) (heads (shown [])))

  held : records_of (words_of r n) ≡ records_at 0 rows
  unfolding words_of encode
  held = records-of whole n limit-records room-records

  fitting-layout : layout (words_of r n) (text_of r m) ≡ true
  unfolding layout words_of encode
  fitting-layout =
      let k : ℕ = used.0 in
      let c = rows-clean f.each_row in
      both (ap good_text used.1 ∙ good-texts stored k (rows-utf8 f.each_row) c)
      (both (ap₂ all_good (ap filled used.1 ∙ filled-texts stored k c) held ∙ rows-good stored [] (known-rows r) f.each_row standing)
      (both (ap (good_order nothing) held ∙ order-good r (heads (shown [])))
      (ap (λ (rs : List (List ℕ)). all_zero (drop (length rs * 32) (used_words (words_of r n)))) held ∙ zeros-behind whole n limit-records room-records)))

  fitting-report : report_of (words_of r n) (text_of r m) ≡ some r
  unfolding report_of
  fitting-report =
      ap₂ (λ (t : List ℕ) (rs : List (List ℕ)). report_from t (only live rs)) used.1 held ∙ report-read (stored ++ zeros used.0) r (shown (zeros used.0))

-- every report that fits is held by its areas, whatever their lengths
pub encode-layout : (r : Report) (n m : ℕ) → fits r n m ≡ true → layout (words_of r n) (text_of r m) ≡ true
encode-layout r n m e = fitting-layout r n m (fitting r n m e)

pub encode-report : (r : Report) (n m : ℕ) → fits r n m ≡ true → report_of (words_of r n) (text_of r m) ≡ some r
encode-report r n m e = fitting-report r n m (fitting r n m e)
