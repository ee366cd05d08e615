-- What each store makes of a record's row. Assumes nothing.
use Prim.Native.Nat.{ℕ}
use mathlib.Core.Bool.{true, false}
use mathlib.Core.List.{List, ◌++◌}
use mathlib.Core.Option.{some}
use mathlib.Core.Path.{◌≡◌, refl, ap, ◌∙◌}
use lib.Dec.{lit≤}
use lib.ListN.{length}
use Rattle.tree_placed.specs.of_timestamp.declared.Moment.{Moment}
use Rattle.tree_placed.specs.of_uuids.declared.Words.{Words}
use Rattle.tree_placed.specs.of_tree_record.Record.{marked, unmarked}
use Rattle.tree_placed.specs.of_tree_put.Put.{put_text, put_count_of, put_uuid, put_moment, put_time}
use Rattle.tree_placed.specs.of_tree_report.Report.{Text}
use Rattle.tree_placed.specs.of_tree_report.inside.Cells.{written, is_given, of_number, of_count, uuid_front, uuid_back, Row}
use Rattle.tree_placed.specs.inside.Placed.{Placed, record_of_it, StandsAt, InTexts}
use Rattle.tree_placed.specs.inside.Changed.{with_first_of, with_out, with_err, with_middle, with_timestamp, with_time, with_second, with_third, with_fourth}
use Rattle.tree_placed.specs.inside.Changed.{with_fifth, with_sixth, with_seventh, with_flaky, on_row, first_text_of, out_text, err_text, second_text_of, third_text, fourth_text, seventh_text}
use Rattle.tree_placed.proofs.Putting as put
use Rattle.tree_placed.proofs.Putting.{record-length}
use Rattle.tree_placed.proofs.Fronts.{text-fronts, number-fronts, count-fronts, moment-fronts, time-fronts, uuid-fronts, mark-fronts, unmark_fronts}
use Rattle.tree_placed.proofs.Changing as still
use Rattle.build_draft.specs.declared.TextField.{TextField}
use Rattle.build_draft.specs.declared.TextField.TheVariants as field
use Rattle.build_draft.specs.Parts.{word_for, bit_for, put_number}
use Rattle.build_report.proofs.Storing.{Becomes}

-- the row, said otherwise
pub becomes_on : {g : List ℕ → List ℕ} {texts : List ℕ} {p : Placed} {row row' : Row} → Becomes g texts p row → row ≡ row' → Becomes g texts p row'
becomes_on b e = record { after = b.after; put = b.put; row_is = b.row_is ∙ e; standing = b.standing }

-- one store behind another
pub becomes-then : {f g : List ℕ → List ℕ} {texts : List ℕ} {p : Placed} {row row' : Row} (b : Becomes f texts p row) → Becomes g texts b.after row' → Becomes (λ r. g (f r)) texts p row'
becomes-then {f} {g} b c = record { after = c.after; put = λ z. ap g (b.put z) ∙ c.put z; row_is = c.row_is; standing = c.standing }

-- the row with a text in a field's cell
abbrev pub with_text : TextField → Text → Row → Row
with_text field.Classname v r = with_second (written v) r
with_text field.Message v r = with_first_of (written v) r
with_text field.Ty v r = with_second (written v) r
with_text field.Description v r = with_third (written v) r
with_text field.StackTrace v r = with_fourth (written v) r
with_text field.SystemOut v r = with_out (written v) r
with_text field.SystemErr v r = with_err (written v) r
with_text field.Hostname v r = with_seventh (written v) r

module _ {texts : List ℕ} {p : Placed} (h : InTexts texts p) where
  -- by what it makes of the record alone, and that it touches no words behind it
  made : (q : Placed) (g : List ℕ → List ℕ) → ((z : List ℕ) → g (record_of_it p ++ z) ≡ g (record_of_it p) ++ z) → g (record_of_it p) ≡ record_of_it q → InTexts texts q → Becomes g texts p q.row
  made q g f e s = record { after = q; put = λ z. f z ∙ ap (λ (l : List ℕ). l ++ z) e; row_is = refl; standing = s }

  -- ---- a text v that stands at x
  module _ (x : ℕ) (v : Text) (s : StandsAt texts x (written v)) where
    pub first-becomes : Becomes (put_text 2 0 x (length v)) texts p (with_first_of (written v) p.row)
    first-becomes = made (first_text_of x v p) (put_text 2 0 x (length v)) (λ z. text-fronts (record_of_it p) z (record-length p) 2 0 x (length v) (lit≤ tt)) (put.put_first p x v) (still.first-in h x v s)

    pub out-becomes : Becomes (put_text 4 1 x (length v)) texts p (with_out (written v) p.row)
    out-becomes = made (out_text x v p) (put_text 4 1 x (length v)) (λ z. text-fronts (record_of_it p) z (record-length p) 4 1 x (length v) (lit≤ tt)) (put.put-out p x v) (still.out-in h x v s)

    pub err-becomes : Becomes (put_text 6 2 x (length v)) texts p (with_err (written v) p.row)
    err-becomes = made (err_text x v p) (put_text 6 2 x (length v)) (λ z. text-fronts (record_of_it p) z (record-length p) 6 2 x (length v) (lit≤ tt)) (put.put-err p x v) (still.err_in h x v s)

    pub second-becomes : Becomes (put_text 18 5 x (length v)) texts p (with_second (written v) p.row)
    second-becomes =
        made (second_text_of x v p) (put_text 18 5 x (length v)) (λ z. text-fronts (record_of_it p) z (record-length p) 18 5 x (length v) (lit≤ tt)) (put.put_second p x v) (still.second-in h x v s)

    pub third-becomes : Becomes (put_text 20 6 x (length v)) texts p (with_third (written v) p.row)
    third-becomes = made (third_text x v p) (put_text 20 6 x (length v)) (λ z. text-fronts (record_of_it p) z (record-length p) 20 6 x (length v) (lit≤ tt)) (put.put-third p x v) (still.third-in h x v s)

    pub fourth-becomes : Becomes (put_text 22 7 x (length v)) texts p (with_fourth (written v) p.row)
    fourth-becomes =
        made (fourth_text x v p) (put_text 22 7 x (length v)) (λ z. text-fronts (record_of_it p) z (record-length p) 22 7 x (length v) (lit≤ tt)) (put.put-fourth p x v) (still.fourth-in h x v s)

    pub seventh-becomes : Becomes (put_text 28 10 x (length v)) texts p (with_seventh (written v) p.row)
    seventh-becomes =
        made (seventh_text x v p) (put_text 28 10 x (length v)) (λ z. text-fronts (record_of_it p) z (record-length p) 28 10 x (length v) (lit≤ tt)) (put.put-seventh p x v) (still.seventh-in h x v s)

    pub text-becomes : (f : TextField) → Becomes (put_text (word_for f) (bit_for f) x (length v)) texts p (with_text f v p.row)
    text-becomes field.Classname = second-becomes
    text-becomes field.Message = first-becomes
    text-becomes field.Ty = second-becomes
    text-becomes field.Description = third-becomes
    text-becomes field.StackTrace = fourth-becomes
    text-becomes field.SystemOut = out-becomes
    text-becomes field.SystemErr = err-becomes
    text-becomes field.Hostname = seventh-becomes

  -- ---- a value with a presence bit
  pub moment-becomes : (m : Moment) → Becomes (put_moment m) texts p (with_timestamp (some m) p.row)
  moment-becomes m = made (on_row (with_timestamp (some m)) p) (put_moment m) (λ z. moment-fronts (record_of_it p) z (record-length p) m) (put.put-moment p m) (still.moment-in h (some m))

  pub time-becomes : (t : ℕ × ℕ) → Becomes (put_time t) texts p (with_time (some (record { seconds = t.0; nanos = t.1 })) p.row)
  time-becomes t =
      made (on_row (with_time (some (record { seconds = t.0; nanos = t.1 }))) p) (put_time t) (λ z. time-fronts (record_of_it p) z (record-length p) t) (put.put-time p t)
      (still.time-in h (some (record { seconds = t.0; nanos = t.1 })))

  pub assertions-becomes : (n : ℕ) → Becomes (put_number 20 6 n) texts p (with_third (of_number (some n)) p.row)
  assertions-becomes n =
      made (on_row (with_third (of_number (some n))) p) (put_number 20 6 n) (λ z. number-fronts (record_of_it p) z (record-length p) 6 20 n (lit≤ tt)) (put.put-assertions p n) (still.assertions-in h n)

  pub disabled-becomes : (n : ℕ) → Becomes (put_number 26 8 n) texts p (with_sixth (of_number (some n)) p.row)
  disabled-becomes n =
      made (on_row (with_sixth (of_number (some n))) p) (put_number 26 8 n) (λ z. number-fronts (record_of_it p) z (record-length p) 8 26 n (lit≤ tt))
      (put.put-disabled p n) (still.sixth-in h (of_number (some n)))

  -- ---- words without one, where the cell had none
  pub uuid-becomes : (w : Words) → is_given p.row.err ≡ false → Becomes (put_uuid w) texts p (with_middle (uuid_front (some w)) (uuid_back (some w)) p.row)
  uuid-becomes w e =
      made (on_row (with_middle (uuid_front (some w)) (uuid_back (some w))) p) (put_uuid w) (λ z. uuid-fronts (record_of_it p) z (record-length p) w) (put.put-uuid p w e) (still.uuid-in h w)

  pub tests-becomes : (n : ℕ) → is_given p.row.second ≡ false → Becomes (put_count_of 18 n) texts p (with_second (of_count n) p.row)
  tests-becomes n e = made (on_row (with_second (of_count n)) p) (put_count_of 18 n) (λ z. count-fronts (record_of_it p) z (record-length p) 18 n (lit≤ tt)) (put.put-tests p n e) (still.tests-in h n)

  pub failures-becomes : (n : ℕ) → is_given p.row.third ≡ false → Becomes (put_count_of 20 n) texts p (with_third (of_count n) p.row)
  failures-becomes n e = made (on_row (with_third (of_count n)) p) (put_count_of 20 n) (λ z. count-fronts (record_of_it p) z (record-length p) 20 n (lit≤ tt)) (put.put-failures p n e) (still.failures-in h n)

  pub errors-becomes : (n : ℕ) → is_given p.row.fourth ≡ false → Becomes (put_count_of 22 n) texts p (with_fourth (of_count n) p.row)
  errors-becomes n e = made (on_row (with_fourth (of_count n)) p) (put_count_of 22 n) (λ z. count-fronts (record_of_it p) z (record-length p) 22 n (lit≤ tt)) (put.put-errors p n e) (still.errors-in h n)

  pub skipped-becomes : (n : ℕ) → Becomes (put_count_of 24 n) texts p (with_fifth (of_count n) p.row)
  skipped-becomes n = made (on_row (with_fifth (of_count n)) p) (put_count_of 24 n) (λ z. count-fronts (record_of_it p) z (record-length p) 24 n (lit≤ tt)) (put.put-skipped p n) (still.fifth-in h (of_count n))

  -- ---- the flaky bit, and the kind
  pub flaky-becomes : Becomes (marked 9) texts p (with_flaky true p.row)
  flaky-becomes = made (on_row (with_flaky true) p) (marked 9) (λ z. mark-fronts (record_of_it p) z (record-length p) 9) (put.put-flaky p) (still.flaky-in h true)

  pub unflaky_becomes : Becomes (unmarked 9) texts p (with_flaky false p.row)
  unflaky_becomes = made (on_row (with_flaky false) p) (unmarked 9) (λ z. unmark_fronts (record_of_it p) z (record-length p) 9) (put.clear-flaky p) (still.flaky-in h false)
