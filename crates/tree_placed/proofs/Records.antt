-- The record of each element by cells, wherever its texts stand, is its table's: it shows the fields, and is good in a layout. Assumes nothing.
use Prim.Native.Nat.{ℕ}
use mathlib.Core.Bool.{Bool, true, false, cond}
use mathlib.Core.List.{List, ◌∷◌, ◌++◌}
use mathlib.Core.Option.{Option, none, some}
use mathlib.Core.Path.{◌≡◌, refl, sym, ap, ◌∙◌}
use lib.Dec.{eqb}
use lib.ListN.{length, get_or}
use Rattle.tree_put.specs.of_area.Area.{zeros}
use Rattle.tree_put.specs.of_timestamp.declared.Moment.{Moment}
use Rattle.tree_put.specs.of_uuids.declared.Words.{Words}
use Rattle.tree_put.specs.of_tree_record.Kinds as kind
use Rattle.tree_report.specs.of_schema.Schema.{text, number, time, timestamp, uuid, may, fine}
use Rattle.tree_report.specs.of_schema.Schema as table
use Rattle.tree_report.specs.of_schema.Records.{Fields, Span, is_some, flags_of, slot_words, marks_from, encode, good}
use Rattle.tree_report.specs.of_schema.Texts.{place_slot, fields_of}
use Rattle.tree_report.specs.of_schema.Elements as named
use Rattle.tree_report.proofs.of_schema.RecordLaws.{placed_by, marks-by, GivenStands, StandBy, anywhere-back, anywhere-good}
use Rattle.tree_report.specs.Report.{Text, Duration, Pair, FlakyOrRerun, TestRerun, Reason, TestCase, TestSuite, Report}
use Rattle.tree_report.specs.Fields.{kind_of, given}
use Rattle.tree_report.specs.Layout.{good_record}
use Rattle.tree_report.specs.ReportOf.{pair_of, reason_of, run_of}
use Rattle.tree_report.specs.Encode as row
use Rattle.tree_report.specs.inside.Cells.{first_word, second_word, is_given, of_text, of_number, uuid_front, uuid_back, moment_or_zero, time_or_zero, low_word, high_word, presence, Row}
use Rattle.tree_report.specs.inside.Cells.{kind_of_run, pair_row_of, main_row, run_row, case_row, suite_row, report_row}
use Rattle.tree_report.proofs.EncodeCells.{back-hidden}
use Rattle.tree_report.proofs.EncodeGood.{Known}
use Rattle.tree_report.proofs.EncodeReading.{given-flag}
use Rattle.tree_report.proofs.EncodeReading as reading
use Rattle.tree_report.proofs.EncodeShown.{Headed, Shown}
use Rattle.tree_report.proofs.CellFits.{Alike}
use Rattle.tree_placed.specs.inside.Placed.{Places, Placed, record_of_it, StandsAt, InTexts}

abbrev pub row_at : Places → Row → Placed
row_at q r = record { places = q; row = r }

-- where the text at a word starts
abbrev pub start_in : Places → ℕ → ℕ
start_in q w =
    cond (eqb w 2) q.first
    (cond (eqb w 4) q.out
    (cond (eqb w 6) q.err
    (cond (eqb w 18) q.second
    (cond (eqb w 20) q.third
    (cond (eqb w 22) q.fourth
    (cond (eqb w 28) q.seventh 0))))))

-- ---- presence
given-text : (v : Option Text) → is_given (of_text v) ≡ is_some v
given-text none = refl
given-text (some v) = refl

given-number : (v : Option ℕ) → is_given (of_number v) ≡ is_some v
given-number none = refl
given-number (some v) = refl

given-uuid : (v : Option Words) → is_given (uuid_front v) ≡ is_some v
given-uuid none = refl
given-uuid (some v) = refl

-- ---- words
module _ (k x : ℕ) where
  text-words : (v : Option Text) (l : List ℕ) → first_word x (of_text v) ∷ second_word (of_text v) ∷ l ≡ slot_words (may k) text (place_slot x (may k) text v) ++ l
  text-words none l = refl
  text-words (some v) l = refl

  number-words : (v : Option ℕ) (y : ℕ) (l : List ℕ) → first_word y (of_number v) ∷ second_word (of_number v) ∷ l ≡ slot_words (may k) number (place_slot x (may k) number v) ++ l
  number-words none y l = refl
  number-words (some v) y l = refl

  time-words : (v : Option Duration) (l : List ℕ) → (time_or_zero v).seconds ∷ (time_or_zero v).nanos ∷ l ≡ slot_words (may k) time (place_slot x (may k) time v) ++ l
  time-words none l = refl
  time-words (some v) l = refl

  moment-words : (v : Option Moment) (l : List ℕ)
      → (moment_or_zero v).year ∷ (moment_or_zero v).month ∷ (moment_or_zero v).day ∷ (moment_or_zero v).hour ∷ (moment_or_zero v).minute ∷ (moment_or_zero v).second ∷ (moment_or_zero v).nanos ∷ (moment_or_zero v).offset ∷ l
      ≡ slot_words (may k) timestamp (place_slot x (may k) timestamp v) ++ l
  moment-words none l = refl
  moment-words (some v) l = refl

  uuid-words : (v : Option Words) (y : ℕ) (l : List ℕ)
      → first_word x (uuid_front v) ∷ second_word (uuid_front v) ∷ first_word y (uuid_back v) ∷ second_word (uuid_back v) ∷ l ≡ slot_words (may k) uuid (place_slot x (may k) uuid v) ++ l
  uuid-words none y l = refl
  uuid-words (some v) y l = refl

-- the words of a number that is always there
abbrev counted : ℕ → List ℕ → List ℕ
counted n l = low_word n ∷ high_word n ∷ l

flag-words : (x : ℕ) (b : Bool) (l : List ℕ) → l ≡ slot_words (may 9) table.flag (place_slot x (may 9) table.flag (given b tt)) ++ l
flag-words x true l = refl
flag-words x false l = refl

-- ---- texts
stands-text : (texts : List ℕ) (x : ℕ) (v : Option Text) → StandsAt texts x (of_text v) → GivenStands texts x text v
stands-text texts x none h = tt
stands-text texts x (some v) h = h

-- ---- a row by cells that comes to the same words and texts as this row
pub record Placing (r : row.Row) (c : Row) : Type 0 where
  pub words : (q : Places) → record_of_it (row_at q c) ≡ encode r.kind r.table (placed_by (start_in q) r.table r.fields)
  pub stand : (texts : List ℕ) (q : Places) → InTexts texts (row_at q c) → StandBy texts (start_in q) r.table r.fields

-- its presence bits, with texts placed
flags-by : (q : Places) (xs : List table.Row) (f : Fields Text xs) (n : ℕ) → n ≡ flags_of (marks_from Text 0 xs f) → n ≡ flags_of (marks_from Span 0 xs (placed_by (start_in q) xs f))
flags-by q xs f n e = e ∙ ap flags_of (sym (marks-by (start_in q) 0 xs f))

report-bits : (r : Report) → flags_of (presence (report_row r)) ≡ flags_of (marks_from Text 0 table.report (named.report_fields r))
report-bits r = rw (given-text r.name, given-uuid r.uuid, back-hidden r.uuid, given-number r.counts.disabled) refl

suite-bits : (s : TestSuite) → flags_of (presence (suite_row s)) ≡ flags_of (marks_from Text 0 table.suite (named.suite_fields s))
suite-bits s = rw (given-text s.system_out, given-text s.system_err, given-number s.counts.disabled, given-text s.hostname) refl

case-bits : (c : TestCase) → flags_of (presence (case_row c)) ≡ flags_of (marks_from Text 0 table.case (named.case_fields c))
case-bits c = rw (given-text c.system_out, given-text c.system_err, given-text c.classname, given-number c.assertions) refl

main-bits : (k : ℕ) (b : Bool) (r : Reason) → flags_of (presence (main_row k b r)) ≡ flags_of (marks_from Text 0 table.main (named.main_fields b r))
main-bits k b r = rw (given-text r.message, given-text r.type, given-text r.description, given-flag b) refl

skipped-bits : (r : Reason) → flags_of (presence (main_row kind.skipped false r)) ≡ flags_of (marks_from Text 0 table.skipped (named.skipped_fields r))
skipped-bits r = rw (given-text r.message, given-text r.type, given-text r.description) refl

run-bits : (family : FlakyOrRerun) (r : TestRerun) → flags_of (presence (run_row family r)) ≡ flags_of (marks_from Text 0 table.run (named.run_fields r))
run-bits family r =
    rw (
      given-text r.message,
      given-text r.system_out,
      given-text r.system_err,
      given-text r.type,
      given-text r.description,
      given-text r.stack_trace,
    ) refl

pub report-placing : (r : Report) → Placing (row.report_row r) (report_row r)
unfolding record_of_it encode
report-placing r =
    let c = r.counts in
    record {
      words = λ q.
          let bits = flags-by q table.report (named.report_fields r) (flags_of (presence (report_row r))) (report-bits r) in
          λ i. kind.report ∷ bits i ∷ text-words 0 q.first r.name (uuid-words 1 q.out r.uuid q.err (moment-words 3 0 r.timestamp (time-words 4 0 r.time
          (counted c.tests (counted c.failures (counted c.errors (counted c.skipped (number-words 8 0 c.disabled 0 (zeros 4) i))))) i) i) i) i;
      stand = λ texts q h. (stands-text texts q.first r.name h.first, (tt, (tt, (tt, (tt, (tt, (tt, (tt, (tt, tt)))))))));
    }

pub suite-placing : (s : TestSuite) → Placing (row.suite_row s) (suite_row s)
unfolding record_of_it encode
suite-placing s =
    let c = s.counts in
    record {
      words = λ q.
          let bits = flags-by q table.suite (named.suite_fields s) (flags_of (presence (suite_row s))) (suite-bits s) in
          λ i. kind.suite ∷ bits i ∷ q.first ∷ length s.name ∷ text-words 1 q.out s.system_out (text-words 2 q.err s.system_err (moment-words 3 0 s.timestamp
          (time-words 4 0 s.time (counted c.tests (counted c.failures (counted c.errors (counted c.skipped
          (number-words 8 0 c.disabled 0 (text-words 10 q.seventh s.hostname (zeros 2) i) i))))) i) i) i) i;
      stand = λ texts q h. (
        h.first,
        (
          stands-text texts q.out s.system_out h.out,
          (
            stands-text texts q.err s.system_err h.err,
            (tt, (tt, (tt, (tt, (tt, (tt, (tt, (stands-text texts q.seventh s.hostname h.seventh, tt)))))))),
          ),
        ),
      );
    }

pub case-placing : (c : TestCase) → Placing (row.case_row c) (case_row c)
unfolding record_of_it encode
case-placing c = record {
  words = λ q.
      let bits = flags-by q table.case (named.case_fields c) (flags_of (presence (case_row c))) (case-bits c) in
      λ i. kind.case ∷ bits i ∷ q.first ∷ length c.name ∷ text-words 1 q.out c.system_out (text-words 2 q.err c.system_err (moment-words 3 0 c.timestamp
      (time-words 4 0 c.time (text-words 5 q.second c.classname (number-words 6 q.third c.assertions q.third (zeros 10) i) i) i) i) i) i;
  stand = λ texts q h. (
    h.first,
    (
      stands-text texts q.out c.system_out h.out,
      (
        stands-text texts q.err c.system_err h.err,
        (tt, (tt, (stands-text texts q.second c.classname h.second, (tt, tt)))),
      ),
    ),
  );
}

-- a failure or error
pub main-placing : (k : ℕ) (b : Bool) (r : Reason) → Placing (record { kind = k; table = table.main; fields = named.main_fields b r }) (main_row k b r)
unfolding record_of_it encode
main-placing k b r = record {
  words = λ q.
      let bits = flags-by q table.main (named.main_fields b r) (flags_of (presence (main_row k b r))) (main-bits k b r) in
      λ i. k ∷ bits i ∷ text-words 0 q.first r.message (zeros 14 ++ text-words 5 q.second r.type (text-words 6 q.third r.description (flag-words q.fourth b (zeros 10) i) i) i) i;
  stand = λ texts q h.
      (stands-text texts q.first r.message h.first, (tt, (tt, (stands-text texts q.second r.type h.second, (stands-text texts q.third r.description h.third, (tt, tt))))));
}

pub skipped-placing : (r : Reason) → Placing (row.skipped_row r) (main_row kind.skipped false r)
unfolding record_of_it encode
skipped-placing r = record {
  words = λ q.
      let bits = flags-by q table.skipped (named.skipped_fields r) (flags_of (presence (main_row kind.skipped false r))) (skipped-bits r) in
      λ i. kind.skipped ∷ bits i ∷ text-words 0 q.first r.message (zeros 14 ++ text-words 5 q.second r.type (text-words 6 q.third r.description (zeros 10) i) i) i;
  stand = λ texts q h.
      (stands-text texts q.first r.message h.first, (tt, (tt, (stands-text texts q.second r.type h.second, (stands-text texts q.third r.description h.third, tt)))));
}

pub run-placing : (family : FlakyOrRerun) (r : TestRerun) → Placing (row.run_row family r) (run_row family r)
unfolding record_of_it encode
run-placing family r = record {
  words = λ q.
      let bits = flags-by q table.run (named.run_fields r) (flags_of (presence (run_row family r))) (run-bits family r) in
      λ i. kind_of_run family r.kind ∷ bits i ∷ text-words 0 q.first r.message (text-words 1 q.out r.system_out (text-words 2 q.err r.system_err (moment-words 3 0 r.timestamp
      (time-words 4 0 r.time (text-words 5 q.second r.type (text-words 6 q.third r.description (text-words 7 q.fourth r.stack_trace (zeros 8) i) i) i) i) i) i) i) i;
  stand = λ texts q h. (
    stands-text texts q.first r.message h.first,
    (
      stands-text texts q.out r.system_out h.out,
      (
        stands-text texts q.err r.system_err h.err,
        (tt, (tt, (stands-text texts q.second r.type h.second, (stands-text texts q.third r.description h.third, (stands-text texts q.fourth r.stack_trace h.fourth, tt))))),
      ),
    ),
  );
}

pub pair-placing : (k : ℕ) (p : Pair) → Placing (row.pair_row_of k p) (pair_row_of k p)
unfolding record_of_it encode
pair-placing k p = record { words = λ q. refl; stand = λ texts q h. (h.first, (h.out, tt)) }

pub all-placing : Alike Placing
all-placing = record {
  report = report-placing;
  suite = suite-placing;
  case = case-placing;
  pair = pair-placing;
  main = λ k b r. main-placing (row.kind_of_main k) b r;
  skipped = skipped-placing;
  run = run-placing;
}

-- ---- such a record shows the row's fields, whatever stands behind the texts, and is good if they fit
module _ {texts : List ℕ} {r : row.Row} {c : Row} (p : Placing r c) (q : Places) (h : InTexts texts (row_at q c)) where
  pub fields-placed : fine r.table ≡ true → (z : List ℕ) → fields_of r.table (texts ++ z) (record_of_it (row_at q c)) ≡ r.fields
  fields-placed f z =
      ap (fields_of r.table (texts ++ z)) (p.words q)
      ∙ anywhere-back texts r.table f r.kind (start_in q) r.fields (p.stand texts q h) z

  head-placed : Headed r (record_of_it (row_at q c))
  unfolding encode
  head-placed = record {
    kind = ap kind_of (p.words q);
    bits = ap (λ (w : List ℕ). get_or w 1 0) (p.words q) ∙ ap flags_of (marks-by (start_in q) 0 r.table r.fields);
  }

  pub shown-placed : Known r → (z : List ℕ) → Shown (texts ++ z) r (record_of_it (row_at q c))
  shown-placed k z = record { head = head-placed; fields = fields-placed k.tested z }

  pub good_placed : Known r → row.fits_row r ≡ true → good_record texts (record_of_it (row_at q c)) ≡ true
  unfolding row.fits_row
  good_placed k s =
      k.passes texts (record_of_it (row_at q c)) head-placed.kind
      (ap (good r.table texts) (p.words q) ∙ anywhere-good texts r.table k.tested r.kind (start_in q) r.fields (p.stand texts q h) s)

-- ---- what the records of elements show
pub pair-back : (kind : ℕ) (p : Pair) {texts : List ℕ} (q : Places) → InTexts texts (row_at q (pair_row_of kind p)) → (z : List ℕ) → pair_of (texts ++ z) (record_of_it (row_at q (pair_row_of kind p))) ≡ p
pair-back kind p q h z = ap (λ (f : Fields Text table.property). named.pair_of f) (fields-placed (pair-placing kind p) q h refl z)

pub reason-back : (kind : ℕ) (is_flaky : Bool) (r : Reason) {texts : List ℕ} (q : Places) → InTexts texts (row_at q (main_row kind is_flaky r))
    → (z : List ℕ) → reason_of (texts ++ z) (record_of_it (row_at q (main_row kind is_flaky r))) ≡ r
reason-back kind is_flaky r q h z = ap (λ (f : Fields Text table.main). named.main_of f) (fields-placed (main-placing kind is_flaky r) q h refl z)

pub run-back : (family : FlakyOrRerun) (e : TestRerun) {texts : List ℕ} (q : Places)
    → InTexts texts (row_at q (run_row family e)) → (z : List ℕ) → run_of (texts ++ z) (record_of_it (row_at q (run_row family e))) ≡ e
run-back family e {texts} q h z =
    reading.run-back (texts ++ z) family e (record_of_it (row_at q (run_row family e)))
    (record { head = head-placed (run-placing family e) q h; fields = fields-placed (run-placing family e) q h refl z })

pub case-back : (c : TestCase) {texts : List ℕ} (q : Places) → InTexts texts (row_at q (case_row c))
    → (z : List ℕ) → fields_of table.case (texts ++ z) (record_of_it (row_at q (case_row c))) ≡ named.case_fields c
case-back c q h z = fields-placed (case-placing c) q h refl z

pub suite-back : (s : TestSuite) {texts : List ℕ} (q : Places) → InTexts texts (row_at q (suite_row s))
    → (z : List ℕ) → fields_of table.suite (texts ++ z) (record_of_it (row_at q (suite_row s))) ≡ named.suite_fields s
suite-back s q h z = fields-placed (suite-placing s) q h refl z
