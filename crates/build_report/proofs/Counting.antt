-- The counts of a report or suite: read off its record, added, put back. Assumes nothing.
use Prim.Native.Nat.{ℕ, ◌+◌, ◌*◌, ◌≤◌}
use mathlib.Core.Bool.{true, cond, ◌&&◌, ◌||◌}
use mathlib.Core.List.{List}
use mathlib.Core.Option.{Option, none, some}
use mathlib.Core.Path.{◌≡◌, refl, sym, ap, ◌∙◌}
use native.Mathlib.Nat.{mod-add-div'}
use native.Mathlib.Omega.{arith}
use borrow.Author.Tests.{leb-true, le-leb}
use lib.Dec.{leb}
use Rattle.tree_placed.specs.of_tree_report.Report.{Counts}
use Rattle.tree_placed.specs.of_tree_report.inside.Cells.{Cell, first_word, second_word, low_word, high_word, of_number, of_count, is_given, fits_cell, fits_row, presence, Row}
use Rattle.tree_placed.proofs.of_tree_report.EncodeCells.{bit-flag}
use Rattle.tree_placed.proofs.of_tree_report.EncodeLists.{both, and_left, and_right}
use Rattle.tree_placed.specs.inside.Placed.{Placed, record_of_it, InTexts}
use Rattle.tree_placed.specs.inside.Changed.{with_second, with_third, with_fourth, with_fifth, with_sixth}
use Rattle.tree_placed.specs.of_tree_put.Put.{put_count_of}
use Rattle.build_draft.specs.of_tree_counts.declared.Counts.{Counts as Numbers}
use Rattle.build_draft.specs.of_tree_counts.declared.Outcome.{Outcome}
use Rattle.build_draft.specs.of_tree_counts.declared.Outcome.TheVariants as outcome
use Rattle.build_draft.specs.of_tree_counts.Counts.{are_counts, added, case_counts}
use Rattle.build_draft.specs.Parts.{counts_in, put_counts}
use Rattle.build_report.specs.Operations.{sum_disabled, sum, one_more_of}
use Rattle.build_report.specs.Builders.{is_some, is_number, disabled_in, are_numbers}
use Rattle.build_report.proofs.Storing.{Becomes}
use Rattle.build_report.proofs.Becoming.{becomes_on, becomes-then, tests-becomes, failures-becomes, errors-becomes, skipped-becomes, disabled-becomes}
use Rattle.build_report.proofs.Fitting.{parts-fit, second_fits, third-fits, fourth-fits, fifth-fits, sixth-fits, number_fits, count_fits}

-- ---- a report's counts, as the calls have them
abbrev pub numbers_of : Counts → Numbers
numbers_of c = record { tests = c.tests; failures = c.failures; errors = c.errors; skipped = c.skipped; presence = is_some c.disabled; disabled = disabled_in c.disabled }

either : (a b : Option ℕ) → (is_some a || is_some b) ≡ is_some (sum_disabled a b)
either none none = refl
either (some m) none = refl
either none (some n) = refl
either (some m) (some n) = refl

both-disabled : (a b : Option ℕ) → cond (is_some a) (disabled_in a) 0 + cond (is_some b) (disabled_in b) 0 ≡ disabled_in (sum_disabled a b)
both-disabled none none = refl
both-disabled (some m) none = omega arith
both-disabled none (some n) = omega arith
both-disabled (some m) (some n) = refl

pub numbers-sum : (a b : Counts) → added (numbers_of a) (numbers_of b) ≡ numbers_of (sum a b)
numbers-sum a b = λ i. record {
  tests = a.tests + b.tests;
  failures = a.failures + b.failures;
  errors = a.errors + b.errors;
  skipped = a.skipped + b.skipped;
  presence = either a.disabled b.disabled i;
  disabled = both-disabled a.disabled b.disabled i;
}

pub numbers-case : (o : Outcome) → case_counts o ≡ numbers_of (one_more_of o)
numbers-case outcome.Success = refl
numbers-case outcome.Failure = refl
numbers-case outcome.Error = refl
numbers-case outcome.Skipped = refl

pub numbers-tests : (c : Counts) → are_counts (numbers_of c) ≡ are_numbers c
numbers-tests c = refl

-- ---- a row's counts
pub record Counted (c : Counts) (row : Row) : Type 0 where
  pub tests : row.second ≡ of_count c.tests
  pub failures : row.third ≡ of_count c.failures
  pub errors : row.fourth ≡ of_count c.errors
  pub skipped : row.fifth ≡ of_count c.skipped
  pub disabled : row.sixth ≡ of_number c.disabled

abbrev pub with_counts : Counts → Row → Row
with_counts c row =
    with_sixth (of_number c.disabled) (with_fifth (of_count c.skipped) (with_fourth (of_count c.errors) (with_third (of_count c.failures) (with_second (of_count c.tests) row))))

number-given : (n : Option ℕ) → is_given (of_number n) ≡ is_some n
number-given none = refl
number-given (some n) = refl

-- the words of a number give it back
whole : (n : ℕ) → low_word n + high_word n * 4294967296 ≡ n
whole n = mod-add-div' n 4294967296

count-read : (x n : ℕ) {c : Cell} → c ≡ of_count n → first_word x c + second_word c * 4294967296 ≡ n
count-read x n e = ap (λ (c : Cell). first_word x c + second_word c * 4294967296) e ∙ whole n

number_read : (x : ℕ) (d : Option ℕ) {c : Cell} → c ≡ of_number d → first_word x c + second_word c * 4294967296 ≡ disabled_in d
number_read x none e = ap (λ (c : Cell). first_word x c + second_word c * 4294967296) e
number_read x (some n) e = ap (λ (c : Cell). first_word x c + second_word c * 4294967296) e ∙ whole n

-- read off its record
pub counts-read : (p : Placed) (c : Counts) → Counted c p.row → counts_in (record_of_it p) ≡ numbers_of c
unfolding record_of_it
counts-read p c h = λ i. record {
  tests = count-read p.places.second c.tests h.tests i;
  failures = count-read p.places.third c.failures h.failures i;
  errors = count-read p.places.fourth c.errors h.errors i;
  skipped = count-read 0 c.skipped h.skipped i;
  presence = (bit-flag 8 (presence p.row) ∙ ap is_given h.disabled ∙ number-given c.disabled) i;
  disabled = number_read 0 c.disabled h.disabled i;
}

-- ---- put into its record
-- one more store, by what it makes of the row
then-on : {f g : List ℕ → List ℕ} {texts : List ℕ} {p : Placed} {row : Row} (u : Row → Row) (b : Becomes f texts p row)
    → Becomes g texts b.after (u b.after.row) → Becomes (λ r. g (f r)) texts p (u row)
then-on u b c = becomes_on (becomes-then b c) (ap u b.row_is)

module _ {texts : List ℕ} {p : Placed} (h : InTexts texts p) {a : Counts} (k : Counted a p.row) where
  four : (t f e s : ℕ) → Becomes (λ r. put_count_of 24 s (put_count_of 22 e (put_count_of 20 f (put_count_of 18 t r)))) texts p
      (with_fifth (of_count s) (with_fourth (of_count e) (with_third (of_count f) (with_second (of_count t) p.row))))
  four t f e s =
      let b1 = tests-becomes h t (ap is_given k.tests) in
      let b2 = then-on (with_third (of_count f)) b1 (failures-becomes b1.standing f (ap (λ (r : Row). is_given r.third) b1.row_is ∙ ap is_given k.failures)) in
      let b3 = then-on (with_fourth (of_count e)) b2 (errors-becomes b2.standing e (ap (λ (r : Row). is_given r.fourth) b2.row_is ∙ ap is_given k.errors)) in
      then-on (with_fifth (of_count s)) b3 (skipped-becomes b3.standing s)

  five : (t f e s : ℕ) (d : Option ℕ) → (d ≡ none → a.disabled ≡ none) → let c : Counts = record { tests = t; failures = f; errors = e; skipped = s; disabled = d } in
      Becomes (put_counts (numbers_of c)) texts p (with_counts c p.row)
  unfolding put_counts
  five t f e s none n =
      becomes_on (four t f e s)
      (λ i. with_sixth ((k.disabled ∙ ap of_number (n refl)) i) (with_fifth (of_count s) (with_fourth (of_count e) (with_third (of_count f) (with_second (of_count t) p.row)))))
  five t f e s (some m) n = then-on (with_sixth (of_number (some m))) (four t f e s) (disabled-becomes (four t f e s).standing m)

  pub counts-become : (c : Counts) → (c.disabled ≡ none → a.disabled ≡ none) → Becomes (put_counts (numbers_of c)) texts p (with_counts c p.row)
  counts-become c n = five c.tests c.failures c.errors c.skipped c.disabled n

-- a sum without `disabled` is of counts without it
pub sum-none : (a b : Option ℕ) → sum_disabled a b ≡ none → a ≡ none
sum-none none none e = refl
sum-none (some m) none e = e
sum-none none (some n) e = refl
sum-none (some m) (some n) e = let z : ◌≡◌ {A = ℕ} 0 1 = cc in absurd (omega arith)

-- ---- counts that fit
fits-number : (d : Option ℕ) → is_number (disabled_in d) ≡ true → fits_cell (of_number d) ≡ true
fits-number none e = refl
fits-number (some n) e = number_fits n e

pub counts-fit : (row : Row) (c : Counts) → fits_row row ≡ true → are_numbers c ≡ true → fits_row (with_counts c row) ≡ true
counts-fit row c f e =
    let a = and_right (is_number c.tests) (is_number c.failures && (is_number c.errors && (is_number c.skipped && is_number (disabled_in c.disabled)))) e in
    let b = and_right (is_number c.failures) (is_number c.errors && (is_number c.skipped && is_number (disabled_in c.disabled))) a in
    let d = and_right (is_number c.errors) (is_number c.skipped && is_number (disabled_in c.disabled)) b in
    let t = and_left (is_number c.tests) (is_number c.failures && (is_number c.errors && (is_number c.skipped && is_number (disabled_in c.disabled)))) e in
    let u = and_left (is_number c.failures) (is_number c.errors && (is_number c.skipped && is_number (disabled_in c.disabled))) a in
    let v = and_left (is_number c.errors) (is_number c.skipped && is_number (disabled_in c.disabled)) b in
    let w = and_left (is_number c.skipped) (is_number (disabled_in c.disabled)) d in
    let x = and_right (is_number c.skipped) (is_number (disabled_in c.disabled)) d in
    let r1 : Row = with_second (of_count c.tests) row in
    let r2 : Row = with_third (of_count c.failures) r1 in
    let r3 : Row = with_fourth (of_count c.errors) r2 in
    let r4 : Row = with_fifth (of_count c.skipped) r3 in
    let g1 = second_fits row f (of_count c.tests) (count_fits c.tests t) in
    let g2 = third-fits r1 g1 (of_count c.failures) (count_fits c.failures u) in
    let g3 = fourth-fits r2 g2 (of_count c.errors) (count_fits c.errors v) in
    let g4 = fifth-fits r3 g3 (of_count c.skipped) (count_fits c.skipped w) in
    sixth-fits r4 g4 (of_number c.disabled) (fits-number c.disabled x)

-- a row that fits has counts within the limit
fits-back : (n : ℕ) → (leb (low_word n) 4294967295 && leb (high_word n) 4294967295) ≡ true → is_number n ≡ true
fits-back n e =
    let h : high_word n ≤ 4294967295 = leb-true (high_word n) 4294967295 (and_right (leb (low_word n) 4294967295) (leb (high_word n) 4294967295) e) in
    le-leb n 18446744073709551615 (omega arith)

disabled-back : (d : Option ℕ) → fits_cell (of_number d) ≡ true → is_number (disabled_in d) ≡ true
disabled-back none e = refl
disabled-back (some n) e = fits-back n e

pub fits-counts : (row : Row) (c : Counts) → fits_row row ≡ true → Counted c row → are_numbers c ≡ true
fits-counts row c e k =
    let f = parts-fit row e in
    both (fits-back c.tests (sym (ap fits_cell k.tests) ∙ f.second))
    (both (fits-back c.failures (sym (ap fits_cell k.failures) ∙ f.third))
    (both (fits-back c.errors (sym (ap fits_cell k.errors) ∙ f.fourth))
    (both (fits-back c.skipped (sym (ap fits_cell k.skipped) ∙ f.fifth)) (disabled-back c.disabled (sym (ap fits_cell k.disabled) ∙ f.sixth)))))
