-- The name of a case: digits behind `case`, which writing leaves as they are and a layout may have. Assumes nothing.
use Prim.Native.Nat.{ℕ, ◌≤◌}
use mathlib.Core.Path.{◌≡◌, refl, ap, ◌∙◌}
use mathlib.Core.List.{List, [], ◌∷◌, ◌++◌}
use mathlib.Core.Bool.{Bool, true, not, ◌&&◌, and-eq-true_iff}
use native.Mathlib.Omega.{arith}
use borrow.Author.Tests.{ne_eqb}
use lib.ListN.{length}
use Rattle.write_answer.specs.of_names.Bytes.{bytes}
use Rattle.write_answer.specs.of_digits.Digits.{is_digit, all_digits, decimal}
use Rattle.write_answer.proofs.of_digits.Ascii.{digit-decimal}
use Rattle.write_answer.proofs.of_digits.Texts.{digits_utf8}
use Rattle.write_answer.proofs.of_digits.Printing.{places-most, length-decimal, decimal-digits}
use Rattle.write_answer.specs.of_utf8.Utf8.{utf8}
use Rattle.write_answer.proofs.of_utf8.Rules.{ascii_append}
use Rattle.write_answer.specs.of_text_filter.Filter.{unfiltered}
use Rattle.write_answer.proofs.of_text_filter.Filtering.{kept_high, unfiltered-append}
use Rattle.write_answer.specs.of_write_escape.Escape.{written, escaped}
use Rattle.order_report.specs.Rehearsal.{case_name, rehearsal_name}

-- a digit stands for itself
written-digit : (b : ℕ) → is_digit 10 b ≡ true → written b ≡ b ∷ []
unfolding written
written-digit b d =
    let h = digit-decimal b d in
    rw (ne_eqb b 0x26 (λ e. omega arith), ne_eqb b 0x3C (λ e. omega arith), ne_eqb b 0x3E (λ e. omega arith), ne_eqb b 0x27 (λ e. omega arith), ne_eqb b 0x22 (λ e. omega arith)) refl

escaped-digits : (s : List ℕ) → all_digits 10 s ≡ true → escaped s ≡ s
escaped-digits [] e = refl
escaped-digits (b ∷ s) e =
    let p = (and-eq-true_iff (is_digit 10 b) (all_digits 10 s)).0 e in
    ap (λ (l : List ℕ). l ++ escaped s) (written-digit b p.0) ∙ ap (λ (l : List ℕ). b ∷ l) (escaped-digits s p.1)

unfiltered-digits : (s : List ℕ) → all_digits 10 s ≡ true → unfiltered s ≡ true
unfiltered-digits [] e = refl
unfiltered-digits (b ∷ s) e =
    let p = (and-eq-true_iff (is_digit 10 b) (all_digits 10 s)).0 e in
    let h = digit-decimal b p.0 in
    ap (λ (t : Bool). not t && unfiltered s) (kept_high b (omega arith)) ∙ unfiltered-digits s p.1

module _ (i : ℕ) where
  pub escaped-name : escaped (case_name i) ≡ case_name i
  unfolding written
  escaped-name = ap (λ (l : List ℕ). bytes "case" ++ l) (escaped-digits (decimal i) (decimal-digits i))

  pub name-utf8 : utf8 (case_name i) ≡ true
  name-utf8 = ascii_append (bytes "case") (decimal i) refl ∙ digits_utf8 10 (decimal i) (decimal-digits i)

  pub name-unfiltered : unfiltered (case_name i) ≡ true
  name-unfiltered = unfiltered-append (bytes "case") (decimal i) ∙ unfiltered-digits (decimal i) (decimal-digits i)

  pub name-length : length (case_name i) ≤ 24
  name-length = let p = length-decimal i in let q = places-most i in omega arith

pub escaped-rehearsal : escaped rehearsal_name ≡ rehearsal_name
unfolding written
escaped-rehearsal = refl
