-- The report that is ordered is plain and sound, so that demand 2 speaks of it. Assumes nothing.
use Prim.Native.Nat.{ℕ, ◌+◌, ◌*◌, ◌≤◌}
use mathlib.Core.Path.{◌≡◌, refl, ap, ◌∙◌}
use mathlib.Core.List.{List, [], ◌∷◌, ◌++◌, append-nil}
use mathlib.Core.Bool.{Bool, true, not, ◌&&◌}
use native.Mathlib.Omega.{arith}
use borrow.Author.Tests.{le-leb}
use lib.Dec.{leb}
use lib.ListN.{length, length-append}
use Rattle.order_report.specs.of_area.Limits.{most_records}
use Rattle.order_report.specs.of_utf8.Utf8.{utf8}
use Rattle.order_report.proofs.of_utf8.Rules.{ascii-utf8}
use Rattle.order_report.specs.of_text_filter.Filter.{unfiltered}
use Rattle.order_report.specs.of_timestamp.declared.Moment.{Moment}
use Rattle.order_report.specs.of_tree_report.Report.{Text, Duration, Reason, TestRerun, TestCase}
use Rattle.order_report.specs.of_tree_report.Encode.{Row, every, fits_row, case_rows, rows_of_each, rows_of}
use Rattle.order_report.proofs.of_tree_report.EncodeLists.{both}
use Rattle.order_report.specs.of_write_report.Written.{each, is_empty}
use Rattle.round_claims.specs.of_round_elements.Plain.{listed, cases_of, reasons_in, runs_in, runs_of, descriptions, outputs, times, timestamps, keys_of, bare}
use Rattle.round_claims.specs.of_round_elements.Plain.{whole_time, whole_moment, case_keys, good_keys, is_ruled, plain, sound}
use Rattle.round_claims.proofs.of_round_report.Parts.{every_append, each-nested}
use Rattle.order_report.specs.declared.Order.{Order}
use Rattle.order_report.specs.declared.Kind.{Kind}
use Rattle.order_report.specs.declared.Kind.TheVariants as kind
use Rattle.order_report.specs.Rehearsal.{stated, rehearsal_name, case_name, case_of, cases_from, kinds_in, rehearsal}
use Rattle.order_report.specs.Answer.{most_cases}
use Rattle.order_report.proofs.Names.{name-utf8, name-unfiltered}
use Rattle.order_report.proofs.Items.{kinds-count}
use Rattle.order_claims.proofs.Counting.{own-cases}
use Rattle.order_claims.proofs.Sizes.{order-fits}

-- ---- something of each case
module _ {A : Type 0} (f : TestCase → List A) (h : (i : ℕ) (k : Kind) → f (case_of i k) ≡ []) where
  none_from : (i : ℕ) (ks : List Kind) → each f (cases_from i ks) ≡ []
  none_from i [] = refl
  none_from i (k ∷ ks) = ap (λ (l : List A). l ++ each f (cases_from (i + 1) ks)) (h i k) ∙ none_from (i + 1) ks

  none_of : (o : Order) → each f (cases_of (rehearsal o)) ≡ []
  none_of o = ap (each f) (own-cases o) ∙ none_from 0 (kinds_in o)

module _ (p : TestCase → Bool) (h : (i : ℕ) (k : Kind) → p (case_of i k) ≡ true) where
  every-from : (i : ℕ) (ks : List Kind) → every p (cases_from i ks) ≡ true
  every-from i [] = refl
  every-from i (k ∷ ks) = both (h i k) (every-from (i + 1) ks)

  every_of : (o : Order) → every p (cases_of (rehearsal o)) ≡ true
  every_of o = ap (every p) (own-cases o) ∙ every-from 0 (kinds_in o)

-- ---- plain: there are no gathered texts, times, timestamps or extras
module _ (o : Order) where
  no-descriptions : descriptions (rehearsal o) ≡ []
  no-descriptions =
      ap (λ (l : List Text). l ++ each (λ (e : TestRerun). listed e.description) (runs_of (rehearsal o)))
      (each-nested (λ (m : Reason). listed m.description) (λ (c : TestCase). reasons_in c.status) (cases_of (rehearsal o)) ∙ none_of _ of-main o)
      ∙ each-nested (λ (e : TestRerun). listed e.description) (λ (c : TestCase). runs_in c.status) (cases_of (rehearsal o)) ∙ none_of _ of-run o
    where
      of-main : (i : ℕ) (k : Kind) → each (λ (m : Reason). listed m.description) (reasons_in (case_of i k).status) ≡ []
      of-main i kind.Failure = refl
      of-main i kind.Error = refl
      of-main i kind.Skipped = refl
      of-main i kind.Flaky = refl
      of-main i kind.Plain = refl

      of-run : (i : ℕ) (k : Kind) → each (λ (e : TestRerun). listed e.description) (runs_in (case_of i k).status) ≡ []
      of-run i kind.Failure = refl
      of-run i kind.Error = refl
      of-run i kind.Skipped = refl
      of-run i kind.Flaky = refl
      of-run i kind.Plain = refl

  abbrev out_of : TestRerun → List Text
  out_of e = listed e.stack_trace ++ (listed e.system_out ++ listed e.system_err)

  no-outputs : outputs (rehearsal o) ≡ []
  no-outputs =
      ap (λ (l : List Text). l ++ each out_of (runs_of (rehearsal o))) (none_of (λ (c : TestCase). listed c.system_out ++ listed c.system_err) (λ i k. refl) o)
      ∙ each-nested out_of (λ (c : TestCase). runs_in c.status) (cases_of (rehearsal o)) ∙ none_of _ of-run o
    where
      of-run : (i : ℕ) (k : Kind) → each out_of (runs_in (case_of i k).status) ≡ []
      of-run i kind.Failure = refl
      of-run i kind.Error = refl
      of-run i kind.Skipped = refl
      of-run i kind.Flaky = refl
      of-run i kind.Plain = refl

  no-times : times (rehearsal o) ≡ []
  no-times =
      ap (λ (l : List Duration). l ++ each (λ (e : TestRerun). listed e.time) (runs_of (rehearsal o))) (none_of (λ (c : TestCase). listed c.time) (λ i k. refl) o)
      ∙ each-nested (λ (e : TestRerun). listed e.time) (λ (c : TestCase). runs_in c.status) (cases_of (rehearsal o)) ∙ none_of _ of-run o
    where
      of-run : (i : ℕ) (k : Kind) → each (λ (e : TestRerun). listed e.time) (runs_in (case_of i k).status) ≡ []
      of-run i kind.Failure = refl
      of-run i kind.Error = refl
      of-run i kind.Skipped = refl
      of-run i kind.Flaky = refl
      of-run i kind.Plain = refl

  no-timestamps : timestamps (rehearsal o) ≡ []
  no-timestamps =
      ap (λ (l : List Moment). l ++ each (λ (e : TestRerun). listed e.timestamp) (runs_of (rehearsal o))) (none_of (λ (c : TestCase). listed c.timestamp) (λ i k. refl) o)
      ∙ each-nested (λ (e : TestRerun). listed e.timestamp) (λ (c : TestCase). runs_in c.status) (cases_of (rehearsal o)) ∙ none_of _ of-run o
    where
      of-run : (i : ℕ) (k : Kind) → each (λ (e : TestRerun). listed e.timestamp) (runs_in (case_of i k).status) ≡ []
      of-run i kind.Failure = refl
      of-run i kind.Error = refl
      of-run i kind.Skipped = refl
      of-run i kind.Flaky = refl
      of-run i kind.Plain = refl

  ruled : every (λ (c : TestCase). is_ruled c.status) (cases_of (rehearsal o)) ≡ true
  ruled = every_of (λ (c : TestCase). is_ruled c.status) by_kind o
    where
      by_kind : (i : ℕ) (k : Kind) → is_ruled (case_of i k).status ≡ true
      by_kind i kind.Failure = refl
      by_kind i kind.Error = refl
      by_kind i kind.Skipped = refl
      by_kind i kind.Flaky = refl
      by_kind i kind.Plain = refl

  keyed : every (λ (c : TestCase). good_keys case_keys (keys_of c.extra)) (cases_of (rehearsal o)) ≡ true
  keyed = every_of (λ (c : TestCase). good_keys case_keys (keys_of c.extra)) (λ i k. refl) o

module _ (o : Order) (m : o.cases ≤ most_cases) (h : stated o ≤ o.cases) where
  pub order-plain : plain (rehearsal o) ≡ true
  unfolding plain
  order-plain =
      both (ap (every bare) (ap (λ (l : List Text). l ++ outputs (rehearsal o)) (no-descriptions o) ∙ no-outputs o))
      (both (ap (every (λ (t : Text). not (is_empty t))) (no-descriptions o))
      (both (ap (every whole_time) (no-times o))
      (both (ap (every whole_moment) (no-timestamps o)) (both refl (both (keyed o) (both (ruled o) (order-fits o m h)))))))

-- ---- sound: texts are UTF-8 without filtered characters, counts have 64 bits
small : (n : ℕ) → n ≤ most_cases → leb n 18446744073709551615 ≡ true
small n h = le-leb n 18446744073709551615 (omega arith)

case-fits : (i : ℕ) (k : Kind) → every fits_row (case_rows (case_of i k)) ≡ true
unfolding fits_row
case-fits i k = go k
  where
    named : (utf8 (case_name i) && unfiltered (case_name i)) ≡ true
    named = both (name-utf8 i) (name-unfiltered i)

    go : (k : Kind) → every fits_row (case_rows (case_of i k)) ≡ true
    go kind.Failure = rw named refl
    go kind.Error = rw named refl
    go kind.Skipped = rw named refl
    go kind.Flaky = rw named refl
    go kind.Plain = rw named refl

cases_fit : (i : ℕ) (ks : List Kind) → every fits_row (rows_of_each case_rows (cases_from i ks)) ≡ true
cases_fit i [] = refl
cases_fit i (k ∷ ks) = every_append fits_row (case_rows (case_of i k)) (rows_of_each case_rows (cases_from (i + 1) ks)) (case-fits i k) (cases_fit (i + 1) ks)

rows-from : (i : ℕ) (ks : List Kind) → length (rows_of_each case_rows (cases_from i ks)) ≤ 2 * length ks
rows-from i [] = omega arith
rows-from i (k ∷ ks) =
    let a = length-append (case_rows (case_of i k)) (rows_of_each case_rows (cases_from (i + 1) ks)) in
    let b = rows-from (i + 1) ks in
    let c = of-case k in
    omega arith
  where
    of-case : (k : Kind) → length (case_rows (case_of i k)) ≤ 2
    of-case kind.Failure = omega arith
    of-case kind.Error = omega arith
    of-case kind.Skipped = omega arith
    of-case kind.Flaky = omega arith
    of-case kind.Plain = omega arith

module _ (o : Order) (m : o.cases ≤ most_cases) (h : stated o ≤ o.cases) where
  abbrev rows : List Row
  rows = rows_of_each case_rows (cases_from 0 (kinds_in o))

  pub order-sound : sound (rehearsal o) ≡ true
  unfolding sound fits_row
  order-sound =
      let t = small o.cases (omega arith) in
      let f = small o.failures (omega arith) in
      let e = small o.errors (omega arith) in
      let s = small o.skipped (omega arith) in
      rw (ascii-utf8 rehearsal_name refl, t, f, e, s, append-nil rows, cases_fit 0 (kinds_in o)) refl

  pub order-rows : length (rows_of (rehearsal o)) ≤ most_records
  order-rows =
      let a = ap length (append-nil rows) in
      let b = rows-from 0 (kinds_in o) in
      let c = kinds-count o h in
      omega arith
