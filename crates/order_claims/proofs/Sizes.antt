-- How many events, attributes and bytes an order's table has at most: less than the limits. Assumes nothing.
use Prim.Native.Nat.{ℕ, ◌+◌, ◌*◌, ◌≤◌, min}
use mathlib.Core.Path.{◌≡◌, refl, sym}
use mathlib.Core.List.{List, [], ◌∷◌, ◌++◌}
use mathlib.Core.Bool.{true}
use native.Mathlib.Omega.{arith}
use native.Mathlib.Decide.{dec_le}
use borrow.Author.Tests.{le-leb}
use lib.ListN.{length, length-append}
use Rattle.order_report.specs.of_area.Limits.{most_entries, most_bytes}
use Rattle.order_report.specs.of_names.Bytes.{bytes}
use Rattle.order_report.specs.of_names.Tags.{tags}
use Rattle.order_report.specs.of_names.Keys.{keys}
use Rattle.order_report.specs.of_names.Tags as tag
use Rattle.order_report.specs.of_digits.Digits.{decimal}
use Rattle.order_report.proofs.of_digits.Printing.{places-most, length-decimal}
use Rattle.order_report.specs.of_table.Kinds as event
use Rattle.order_report.specs.of_write_report.Written.{declaration, serialize_test_suite, written}
use Rattle.order_report.specs.of_write_table.Laid.{Item, entry, pair, items_of, laid_bytes, laid_out, fits}
use Rattle.order_report.proofs.of_write_table.Filling.{entries, pairs, length-events, length-attributes}
use Rattle.order_report.specs.of_write_items.inside.Values.{tag_name, key_name}
use Rattle.order_report.specs.of_write_items.inside.Document.{tail_items}
use Rattle.order_report.specs.declared.Order.{Order}
use Rattle.order_report.specs.declared.Kind.{Kind}
use Rattle.order_report.specs.declared.Kind.TheVariants as kind
use Rattle.order_report.specs.Rehearsal.{stated, case_name, kinds_in, suite_of, rehearsal}
use Rattle.order_report.specs.Answer.{most_cases}
use Rattle.order_report.specs.inside.Items.{opening_items, main_items, flaky_items, case_items, cases_items, suite_tag_items, head_items}
use Rattle.order_report.proofs.Names.{name-length}
use Rattle.order_report.proofs.Items.{plain-items, failure-items, error-items, skipped-items, flaky-items, no_cases, next-case, kinds-count, empty-suite, full-suite, report-items}

-- at most e events, a attributes and b bytes
pub record Within (e a b : ℕ) (is : List Item) : Type 0 where
  pub events : entries is ≤ e
  pub attributes : pairs is ≤ a
  pub bytes : length (laid_bytes is) ≤ b

-- ---- items one behind the other
entries_append : (is js : List Item) → entries (is ++ js) ≡ entries is + entries js
unfolding entries
entries_append [] js = omega arith
entries_append (entry k s n ∷ is) js = let h = entries_append is js in omega arith
entries_append (pair key value ∷ is) js = entries_append is js

pairs-append : (is js : List Item) → pairs (is ++ js) ≡ pairs is + pairs js
unfolding pairs
pairs-append [] js = omega arith
pairs-append (entry k s n ∷ is) js = pairs-append is js
pairs-append (pair key value ∷ is) js = let h = pairs-append is js in omega arith

bytes-append : (is js : List Item) → length (laid_bytes (is ++ js)) ≡ length (laid_bytes is) + length (laid_bytes js)
unfolding laid_bytes
bytes-append [] js = omega arith
bytes-append (entry k s n ∷ is) js =
    let h = bytes-append is js in
    let p = length-append s (laid_bytes (is ++ js)) in
    let q = length-append s (laid_bytes is) in
    omega arith
bytes-append (pair key value ∷ is) js =
    let h = bytes-append is js in
    let p = length-append (key ++ value) (laid_bytes (is ++ js)) in
    let q = length-append (key ++ value) (laid_bytes is) in
    omega arith

nothing : Within 0 0 0 []
unfolding entries pairs laid_bytes
nothing = record { events = omega arith; attributes = omega arith; bytes = omega arith }

one_entry : (k : ℕ) (s : List ℕ) (n b : ℕ) → length s ≤ b → Within 1 0 b (entry k s n ∷ [])
unfolding entries pairs laid_bytes
one_entry k s n b h = let p = length-append s [] in record { events = omega arith; attributes = omega arith; bytes = omega arith }

one-pair : (key value : List ℕ) (b c : ℕ) → length key ≤ b → length value ≤ c → Within 0 1 (b + c) (pair key value ∷ [])
unfolding entries pairs laid_bytes
one-pair key value b c h l =
    let p = length-append (key ++ value) [] in
    let q = length-append key value in
    record { events = omega arith; attributes = omega arith; bytes = omega arith }

with-more : {e a b e' a' b' : ℕ} {is js : List Item} → Within e a b is → Within e' a' b' js → Within (e + e') (a + a') (b + b') (is ++ js)
with-more {is = is} {js = js} v w =
    let p = entries_append is js in
    let q = pairs-append is js in
    let r = bytes-append is js in
    let p₁ = v.events in
    let p₂ = w.events in
    let q₁ = v.attributes in
    let q₂ = w.attributes in
    let r₁ = v.bytes in
    let r₂ = w.bytes in
    record { events = omega arith; attributes = omega arith; bytes = omega arith }

-- the same items, said otherwise; and a larger bound
within_same : {e a b : ℕ} {is js : List Item} → Within e a b is → is ≡ js → Within e a b js
within_same v p = record { events = rw (sym p) v.events; attributes = rw (sym p) v.attributes; bytes = rw (sym p) v.bytes }

within-less : {e a b e' a' b' : ℕ} {is : List Item} → Within e a b is → e ≤ e' → a ≤ a' → b ≤ b' → Within e' a' b' is
within-less v p q r =
    let p₁ = v.events in
    let q₁ = v.attributes in
    let r₁ = v.bytes in
    record { events = omega arith; attributes = omega arith; bytes = omega arith }

decimal-most : (n : ℕ) → length (decimal n) ≤ 20
decimal-most n = let p = length-decimal n in let q = places-most n in omega arith

-- ---- one case
module _ (i : ℕ) where
  opening : (k : ℕ) → Within 1 1 36 (opening_items k i)
  unfolding tag_name tags key_name keys
  opening k = with-more (one_entry k (bytes "testcase") 1 8 (omega arith)) (one-pair (bytes "name") (case_name i) 4 24 (omega arith) (name-length i))

  closing : Within 1 0 8 (entry event.end (tag_name tag.testcase) 0 ∷ [])
  unfolding tag_name tags
  closing = one_entry event.end (bytes "testcase") 0 8 (omega arith)

  of-main : (code : ℕ) → length (tag_name code) ≤ 12 → Within 3 1 56 (main_items code i)
  of-main code h = with-more (opening event.start) (with-more (one_entry event.empty (tag_name code) 0 12 h) closing)

  of-flaky : Within 4 1 68 (flaky_items i)
  unfolding tag_name tags
  of-flaky =
      with-more (opening event.start) (with-more (one_entry event.start (bytes "flakyFailure") 0 12 (omega arith)) (with-more (one_entry event.end (bytes "flakyFailure") 0 12 (omega arith)) closing))

  failure-name : length (tag_name tag.failure) ≤ 12
  unfolding tag_name tags
  failure-name = omega arith

  error-name : length (tag_name tag.error) ≤ 12
  unfolding tag_name tags
  error-name = omega arith

  skipped-name : length (tag_name tag.skipped) ≤ 12
  unfolding tag_name tags
  skipped-name = omega arith

  of-case : (k : Kind) → Within 4 1 68 (case_items i k)
  of-case kind.Failure = within-less (within_same (of-main tag.failure failure-name) (failure-items i)) (omega arith) (omega arith) (omega arith)
  of-case kind.Error = within-less (within_same (of-main tag.error error-name) (error-items i)) (omega arith) (omega arith) (omega arith)
  of-case kind.Skipped = within-less (within_same (of-main tag.skipped skipped-name) (skipped-items i)) (omega arith) (omega arith) (omega arith)
  of-case kind.Flaky = within_same of-flaky (flaky-items i)
  of-case kind.Plain = within-less (within_same (opening event.empty) (plain-items i)) (omega arith) (omega arith) (omega arith)

of-cases : (i : ℕ) (ks : List Kind) → Within (4 * length ks) (length ks) (68 * length ks) (cases_items i ks)
of-cases i [] = within_same nothing (sym (no_cases i))
of-cases i (k ∷ ks) = within-less (within_same (with-more (of-case i k) (of-cases (i + 1) ks)) (sym (next-case i k ks))) (omega arith) (omega arith) (omega arith)

-- ---- the whole
module _ (o : Order) where
  count-item : (code n : ℕ) → length (key_name code) ≤ 10 → Within 0 1 30 (pair (key_name code) (decimal n) ∷ [])
  count-item code n h = one-pair (key_name code) (decimal n) 10 20 h (decimal-most n)

  of_suite-tag : (k : ℕ) → Within 1 5 142 (suite_tag_items k o)
  unfolding tag_name tags key_name keys
  of_suite-tag k =
      with-more (one_entry k (bytes "testsuite") 5 9 (omega arith))
      (with-more (with-more (one-pair (bytes "name") (bytes "rehearsal") 4 9 (omega arith) (omega arith))
      (with-more (count-item 6 o.cases (omega arith)) (count-item 9 o.skipped (omega arith))))
      (with-more (count-item 8 o.errors (omega arith)) (count-item 7 o.failures (omega arith))))

  of-head : Within 2 5 177 (head_items o)
  unfolding items_of declaration tag_name tags key_name keys
  of-head =
      with-more (one_entry event.other (bytes "xml version=\"1.0\" encoding=\"UTF-8\"") 0 34 (omega arith))
      (with-more (one_entry event.start (bytes "testsuites") 5 10 (omega arith))
      (with-more (with-more (one-pair (bytes "name") (bytes "rehearsal") 4 9 (omega arith) (omega arith))
      (with-more (count-item 6 o.cases (omega arith)) (count-item 9 o.skipped (omega arith))))
      (with-more (count-item 7 o.failures (omega arith)) (count-item 8 o.errors (omega arith)))))

  of-tail : Within 3 0 10 tail_items
  unfolding tag_name tags
  of-tail =
      with-more (one_entry event.end (bytes "testsuites") 0 10 (omega arith)) (with-more (one_entry event.eof [] 0 0 (omega arith)) (one_entry event.indent [] 0 0 (omega arith)))

  suite-end : Within 1 0 9 (entry event.end (tag_name tag.testsuite) 0 ∷ [])
  unfolding tag_name tags
  suite-end = one_entry event.end (bytes "testsuite") 0 9 (omega arith)

  module _ (m : o.cases ≤ most_cases) (h : stated o ≤ o.cases) where
    of-suite : Within 16386 4101 278679 (items_of (serialize_test_suite (suite_of o)))
    of-suite = go (dec_le 1 o.cases)
      where
        go : Dec (1 ≤ o.cases) → Within 16386 4101 278679 (items_of (serialize_test_suite (suite_of o)))
        go (yes p) =
            let n = kinds-count o h in
            within-less (within_same (with-more (of_suite-tag event.start) (with-more (of-cases 0 (kinds_in o)) suite-end)) (full-suite o h (λ z. omega (arith, z, p))))
            (omega arith) (omega arith) (omega arith)
        go (no p) = within-less (within_same (of_suite-tag event.empty) (empty-suite o h (omega (arith, p)))) (omega arith) (omega arith) (omega arith)

    of_order : Within 16391 4106 278866 (items_of (written (rehearsal o)))
    of_order = within_same (with-more of-head (with-more of-suite of-tail)) (report-items o)

    -- the limits never decide
    pub order-fits : fits (laid_out (written (rehearsal o))) (most_entries * 5) (most_entries * 5) most_bytes ≡ true
    unfolding laid_out
    order-fits =
        let x = length-events 0 0 (items_of (written (rehearsal o))) in
        let y = length-attributes 0 (items_of (written (rehearsal o))) in
        let u = of_order.events in
        let v = of_order.attributes in
        let w = of_order.bytes in
        rw (
          le-leb (length (laid_out (written (rehearsal o))).events) (min (most_entries * 5) (most_entries * 5)) (omega arith),
          le-leb (length (laid_out (written (rehearsal o))).attributes) (min (most_entries * 5) (most_entries * 5)) (omega arith),
          le-leb (length (laid_out (written (rehearsal o))).bytes) (min most_bytes most_bytes) (omega arith),
        ) refl
