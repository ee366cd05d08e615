-- The parts in which an order is put are what its report is written as. Assumes nothing.
use Prim.Native.Nat.{ℕ, ◌+◌, ◌-◌, ◌≤◌}
use mathlib.Core.Path.{◌≡◌, refl, sym, ap, ◌∙◌}
use mathlib.Core.List.{List, [], ◌∷◌, ◌++◌, append_assoc, append-nil}
use mathlib.Core.Bool.{Bool, false, cond}
use native.Mathlib.Omega.{arith}
use borrow.Author.Tests.{eq-eqb, ne_eqb}
use lib.Dec.{eqb}
use lib.ListN.{length, replicate, length-append, length-replicate}
use Rattle.write_answer.specs.of_names.Bytes.{bytes}
use Rattle.write_answer.specs.of_names.Tags.{tags}
use Rattle.write_answer.specs.of_names.Keys.{keys}
use Rattle.write_answer.specs.of_names.Tags as tag
use Rattle.write_answer.specs.of_digits.Digits.{decimal}
use Rattle.write_answer.specs.of_table.Kinds as event
use Rattle.write_answer.specs.of_table.Event.{Attribute, Event, TagKind, Start, Empty, Tag, Eof}
use Rattle.write_answer.specs.of_tree_report.Report.{TestCase}
use Rattle.write_answer.specs.of_write_report.Written.{each, is_empty, element, start_tag, end_tag, indent, suite_attributes, report_attributes, declaration, serialize_properties, serialize_outputs, serialize_status}
use Rattle.write_answer.specs.of_write_report.Written.{case_attributes, serialize_rerun, serialize_elements, serialize_test_case, serialize_test_suite, serialize_report, written}
use Rattle.write_answer.specs.of_write_table.Laid.{Item, entry, pair, tag_number, items_of}
use Rattle.write_answer.proofs.of_write_table.Writing.{items_append}
use Rattle.write_items.specs.inside.Values.{tag_name, key_name}
use Rattle.write_items.specs.inside.Document.{tail_items}
use Rattle.write_items.proofs.Lists.{empty-each}
use Rattle.write_items.proofs.Tags.{element-parts}
use Rattle.write_items.proofs.Documents.{items-numbered}
use Rattle.order_report.specs.declared.Order.{Order}
use Rattle.order_report.specs.declared.Kind.{Kind}
use Rattle.order_report.specs.declared.Kind.TheVariants as kind
use Rattle.order_report.specs.Rehearsal.{stated, case_of, cases_from, kinds_in, suite_of, rehearsal}
use Rattle.order_report.specs.inside.Items.{opening_items, main_items, flaky_items, case_items, cases_items, report_items, suite_tag_items, head_items}
use Rattle.order_report.proofs.Names.{escaped-name, escaped-rehearsal}

-- ---- one case of each kind
module _ (i : ℕ) where
  pub plain-items : opening_items event.empty i ≡ case_items i kind.Plain
  unfolding case_items serialize_test_case serialize_properties serialize_elements serialize_outputs items_of tag_name tags key_name keys
  plain-items = ap (λ (v : List ℕ). entry event.empty (bytes "testcase") 1 ∷ pair (bytes "name") v ∷ []) (sym (escaped-name i))

  abbrev with-main : List ℕ → List ℕ → List Item
  with-main name v =
      entry event.start (bytes "testcase") 1 ∷ pair (bytes "name") v ∷ entry event.empty name 0 ∷ entry event.end (bytes "testcase") 0 ∷ []

  pub failure-items : main_items tag.failure i ≡ case_items i kind.Failure
  unfolding case_items serialize_test_case serialize_properties serialize_elements serialize_status serialize_outputs items_of tag_name tags key_name keys
  failure-items = ap (with-main (bytes "failure")) (sym (escaped-name i))

  pub error-items : main_items tag.error i ≡ case_items i kind.Error
  unfolding case_items serialize_test_case serialize_properties serialize_elements serialize_status serialize_outputs items_of tag_name tags key_name keys
  error-items = ap (with-main (bytes "error")) (sym (escaped-name i))

  pub skipped-items : main_items tag.skipped i ≡ case_items i kind.Skipped
  unfolding case_items serialize_test_case serialize_properties serialize_elements serialize_status serialize_outputs items_of tag_name tags key_name keys
  skipped-items = ap (with-main (bytes "skipped")) (sym (escaped-name i))

  abbrev with-run : List ℕ → List Item
  with-run v =
      entry event.start (bytes "testcase") 1
      ∷ pair (bytes "name") v
      ∷ entry event.start (bytes "flakyFailure") 0
      ∷ entry event.end (bytes "flakyFailure") 0
      ∷ entry event.end (bytes "testcase") 0
      ∷ []

  pub flaky-items : flaky_items i ≡ case_items i kind.Flaky
  unfolding case_items serialize_test_case serialize_properties serialize_elements serialize_rerun serialize_outputs items_of tag_name tags key_name keys
  flaky-items = ap with-run (sym (escaped-name i))

-- ---- cases one behind the other
pub no_cases : (i : ℕ) → cases_items i [] ≡ []
unfolding cases_items items_of
no_cases i = refl

pub next-case : (i : ℕ) (k : Kind) (ks : List Kind) → cases_items i (k ∷ ks) ≡ case_items i k ++ cases_items (i + 1) ks
unfolding cases_items case_items
next-case i k ks = items_append (serialize_test_case (case_of i k)) (each serialize_test_case (cases_from (i + 1) ks))

pub cases_append : (i : ℕ) (ks js : List Kind) → cases_items i (ks ++ js) ≡ cases_items i ks ++ cases_items (i + length ks) js
cases_append i [] js =
    let z : i ≡ i + 0 = omega arith in
    ap (λ (n : ℕ). cases_items n js) z ∙ ap (λ (l : List Item). l ++ cases_items (i + 0) js) (sym (no_cases i))
cases_append i (k ∷ ks) js =
    let z : i + 1 + length ks ≡ i + length (k ∷ ks) = omega arith in
    next-case i k (ks ++ js)
    ∙ ap (λ (l : List Item). case_items i k ++ l) (cases_append (i + 1) ks js ∙ ap (λ (n : ℕ). cases_items (i + 1) ks ++ cases_items n js) z)
    ∙ sym (append_assoc (case_items i k) (cases_items (i + 1) ks) (cases_items (i + length (k ∷ ks)) js))
    ∙ ap (λ (l : List Item). l ++ cases_items (i + length (k ∷ ks)) js) (sym (next-case i k ks))

-- n cases of one kind, and those behind them
some-cases : (i n j : ℕ) (k : Kind) (js : List Kind) → i + n ≡ j → cases_items i (replicate (j - i) k) ++ cases_items j js ≡ cases_items i (replicate n k ++ js)
some-cases i n j k js e =
    let z : j - i ≡ n = omega arith in
    let l = length-replicate {A = Kind} n k in
    let w : j ≡ i + length (replicate n k) = omega arith in
    ap (λ (m : ℕ). cases_items i (replicate m k) ++ cases_items j js) z
    ∙ ap (λ (m : ℕ). cases_items i (replicate n k) ++ cases_items m js) w
    ∙ sym (cases_append i (replicate n k) js)

-- ---- all cases of an order: kind by kind, from where one ends to where the next ends
module _ (o : Order) where
  abbrev plains : List Kind
  plains = replicate (o.cases - stated o) kind.Plain

  abbrev from-flaky : List Kind
  from-flaky = replicate o.flaky kind.Flaky ++ plains

  abbrev from-skipped : List Kind
  from-skipped = replicate o.skipped kind.Skipped ++ from-flaky

  abbrev from-errors : List Kind
  from-errors = replicate o.errors kind.Error ++ from-skipped

  module _ (a b c : ℕ) (p : a ≡ o.failures + o.errors) (q : b ≡ a + o.skipped) (r : c ≡ b + o.flaky) where
    pub kinds-items : cases_items 0 (replicate (o.failures - 0) kind.Failure)
        ++ (cases_items o.failures (replicate (a - o.failures) kind.Error)
        ++ (cases_items a (replicate (b - a) kind.Skipped)
        ++ (cases_items b (replicate (c - b) kind.Flaky) ++ cases_items c (replicate (o.cases - c) kind.Plain))))
        ≡ cases_items 0 (kinds_in o)
    unfolding kinds_in
    kinds-items =
        let z : c ≡ stated o = omega arith in
        let last : cases_items c (replicate (o.cases - c) kind.Plain) ≡ cases_items c plains = ap (λ (n : ℕ). cases_items c (replicate (o.cases - n) kind.Plain)) z in
        ap (λ (l : List Item). cases_items 0 (replicate (o.failures - 0) kind.Failure) ++ l)
        (ap (λ (l : List Item). cases_items o.failures (replicate (a - o.failures) kind.Error) ++ l)
        (ap (λ (l : List Item). cases_items a (replicate (b - a) kind.Skipped) ++ l)
        (ap (λ (l : List Item). cases_items b (replicate (c - b) kind.Flaky) ++ l) last
        ∙ some-cases b o.flaky c kind.Flaky plains (sym r))
        ∙ some-cases a o.skipped b kind.Skipped from-flaky (sym q))
        ∙ some-cases o.failures o.errors a kind.Error from-skipped (sym p))
        ∙ some-cases 0 o.failures o.failures kind.Failure from-errors (omega arith)

  pub kinds-count : stated o ≤ o.cases → length (kinds_in o) ≡ o.cases
  unfolding kinds_in
  kinds-count h =
      let f = length-replicate {A = Kind} o.failures kind.Failure in
      let e = length-replicate {A = Kind} o.errors kind.Error in
      let s = length-replicate {A = Kind} o.skipped kind.Skipped in
      let k = length-replicate {A = Kind} o.flaky kind.Flaky in
      let p = length-replicate {A = Kind} (o.cases - stated o) kind.Plain in
      let w = length-append (replicate o.failures kind.Failure) from-errors in
      let x = length-append (replicate o.errors kind.Error) from-skipped in
      let y = length-append (replicate o.skipped kind.Skipped) from-flaky in
      let z = length-append (replicate o.flaky kind.Flaky) plains in
      omega arith

-- ---- tags
module _ (o : Order) where
  abbrev suite-counts : List Item
  suite-counts =
      pair (bytes "tests") (decimal o.cases)
      ∷ pair (bytes "skipped") (decimal o.skipped)
      ∷ pair (bytes "errors") (decimal o.errors)
      ∷ pair (bytes "failures") (decimal o.failures)
      ∷ []

  suite-tag : (k : TagKind) → suite_tag_items (tag_number k) o ≡ items_of (Tag k (bytes "testsuite") 0 (suite_attributes (suite_of o)) ∷ [])
  unfolding items_of tag_name tags key_name keys
  suite-tag k = ap (λ (v : List ℕ). entry (tag_number k) (bytes "testsuite") 5 ∷ pair (bytes "name") v ∷ suite-counts) (sym escaped-rehearsal)

  abbrev report-counts : List Item
  report-counts =
      pair (bytes "tests") (decimal o.cases)
      ∷ pair (bytes "skipped") (decimal o.skipped)
      ∷ pair (bytes "failures") (decimal o.failures)
      ∷ pair (bytes "errors") (decimal o.errors)
      ∷ []

  abbrev front : List Event
  front = declaration ∷ start_tag (bytes "testsuites") (report_attributes (rehearsal o)) ∷ []

  pub head-parts : (entry event.other (bytes "xml version=\"1.0\" encoding=\"UTF-8\"") 0 ∷ []) ++ report_items o ≡ head_items o
  unfolding items_of declaration
  head-parts = refl

  head-items : head_items o ≡ items_of front
  unfolding items_of declaration tag_name tags key_name keys
  head-items =
      ap (λ (v : List ℕ). items_of (declaration ∷ []) ++ (entry event.start (bytes "testsuites") 5 ∷ pair (bytes "name") v ∷ report-counts)) (sym escaped-rehearsal)

-- ---- the suite: Empty without cases (rules O6 and W3)
element-some : (name : List ℕ) (attributes : List Attribute) (es : List Event) → is_empty (element name attributes es) ≡ false
element-some name attributes [] = refl
element-some name attributes (e ∷ es) = refl

case-some : (c : TestCase) → is_empty (serialize_test_case c) ≡ false
unfolding serialize_test_case
case-some c =
    element-some (bytes "testcase") (case_attributes c) (serialize_properties c.properties ++ (serialize_elements c.status ++ serialize_outputs c.system_out c.system_err))

empty-from : (i : ℕ) (ks : List Kind) → is_empty (cases_from i ks) ≡ eqb (length ks) 0
empty-from i [] = refl
empty-from i (k ∷ ks) = sym (ne_eqb (length (k ∷ ks)) 0 (λ e. omega arith))

module _ (o : Order) (h : stated o ≤ o.cases) where
  abbrev inside : List Event
  inside = each serialize_test_case (cases_from 0 (kinds_in o))

  inside-empty : eqb o.cases 0 ≡ is_empty (inside ++ [])
  inside-empty =
      ap (λ (n : ℕ). eqb n 0) (sym (kinds-count o h))
      ∙ sym (empty-from 0 (kinds_in o))
      ∙ sym (empty-each serialize_test_case case-some (cases_from 0 (kinds_in o)))
      ∙ ap is_empty (sym (append-nil inside))

  abbrev alone : List Item
  alone = suite_tag_items event.empty o

  abbrev whole : List Item
  whole = suite_tag_items event.start o ++ (cases_items 0 (kinds_in o) ++ (entry event.end (tag_name tag.testsuite) 0 ∷ []))

  suite-items : cond (eqb o.cases 0) alone whole ≡ items_of (serialize_test_suite (suite_of o))
  unfolding serialize_test_suite serialize_properties serialize_outputs cases_items items_of tag_name tags
  suite-items = element-parts (bytes "testsuite") (suite_attributes (suite_of o)) [] inside [] inside-empty (suite-tag o Empty) (suite-tag o Start) refl refl

  pub empty-suite : o.cases ≡ 0 → alone ≡ items_of (serialize_test_suite (suite_of o))
  empty-suite e = sym (ap (λ (b : Bool). cond b alone whole) (eq-eqb o.cases 0 e)) ∙ suite-items

  pub full-suite : (o.cases ≡ 0 → ⊥) → whole ≡ items_of (serialize_test_suite (suite_of o))
  full-suite e = sym (ap (λ (b : Bool). cond b alone whole) (ne_eqb o.cases 0 e)) ∙ suite-items

-- ---- the report
module _ (o : Order) where
  abbrev suite : List Event
  suite = serialize_test_suite (suite_of o)

  abbrev tail : List Event
  tail = end_tag (bytes "testsuites") ∷ Eof ∷ indent ∷ []

  tail-items : tail_items ≡ items_of tail
  unfolding items_of tag_name tags
  tail-items = refl

  pub report-items : head_items o ++ (items_of suite ++ tail_items) ≡ items_of (written (rehearsal o))
  unfolding written serialize_report
  report-items =
      rw (head-items o, tail-items)
      (ap (λ (l : List Item). items_of (front o) ++ l) (sym (items_append suite tail) ∙ ap (λ (l : List Event). items_of (l ++ tail)) (sym (append-nil suite)))
      ∙ sym (items_append (front o) ((suite ++ []) ++ tail))
      ∙ sym (items-numbered 0 (front o ++ ((suite ++ []) ++ tail))))
