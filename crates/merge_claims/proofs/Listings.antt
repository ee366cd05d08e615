-- The listing of a merged report goes by the listings of the two. Assumes nothing.
use Prim.Native.Nat.{ℕ, ◌+◌, ◌-◌, ◌≤◌}
use mathlib.Core.Path.{◌≡◌, refl, sym, ap, ap₂, ◌∙◌}
use mathlib.Core.Bool.{Bool, true, false, cond, ◌&&◌}
use mathlib.Core.List.{List, [], ◌∷◌, ◌++◌, map, append_assoc}
use mathlib.Core.Option.{Option, none, some}
use native.Mathlib.Omega.{arith}
use borrow.Author.Tests.{leb-true, le-leb}
use lib.Dec.{leb}
use lib.ListN.{length, take}
use lib.Seq.{take_at}
use Rattle.tree_merge.specs.of_area.Answer.{Answer, gives, refuses}
use Rattle.tree_merge.specs.of_area.Area.{zeros}
use Rattle.tree_merge.proofs.of_area.Laying.{laid-zeros}
use Rattle.tree_merge.specs.of_refusal.Refusal.{accepted}
use Rattle.tree_merge.specs.of_refusal.declared.Cause.{Cause}
use Rattle.tree_merge.specs.of_refusal.declared.Cause.TheVariants as cause
use Rattle.tree_merge.specs.of_tree_counts.Counts.{is_count}
use Rattle.tree_merge.specs.of_tree_report.Report.{Counts, TestSuite, Report}
use Rattle.tree_merge.specs.of_tree_report.Layout.{layout}
use Rattle.tree_merge.proofs.of_tree_report.EncodeLists.{and_left, and_right}
use Rattle.merge_listing.specs.of_list_text.Listing.{PublicSuite, public_suite, public_part, suite_text, suite_texts, header, ending, render_public}
use Rattle.merge_listing.specs.of_list_text.Listing.{render, rendered_or, listing_of, listing_answer, outcome_of, output_for, output_of}
use Rattle.merge_listing.specs.Told.{or_nothing, InLimit}
use Rattle.merge_listing.proofs.Told.{told}
use Rattle.tree_merge.specs.Merged.{either_by, added_counts, merged_report}
use Rattle.tree_merge.specs.Answer.{if_any, counts_fit}
use Rattle.merge_claims.specs.Merging.{Tree, IsTree, Holds, Listed}

-- ---- on reports
texts-join : (xs ys : List PublicSuite) → suite_texts (xs ++ ys) ≡ suite_texts xs ++ suite_texts ys
texts-join [] ys = refl
texts-join (x ∷ xs) ys = ap (λ (l : List ℕ). suite_text x ++ l) (texts-join xs ys) ∙ sym (append_assoc (suite_text x) (suite_texts xs) (suite_texts ys))

map-join : (xs ys : List TestSuite) → map public_suite (xs ++ ys) ≡ map public_suite xs ++ map public_suite ys
map-join [] ys = refl
map-join (x ∷ xs) ys = ap (λ (l : List PublicSuite). public_suite x ∷ l) (map-join xs ys)

abbrev suites_of : Report → List ℕ
suites_of p = suite_texts (map public_suite p.suites)

merged-shown : (p q : Report) → render (merged_report p q) ≡ header p.name (added_counts p.counts q.counts) ++ ((suites_of p ++ suites_of q) ++ ending)
unfolding render render_public merged_report
merged-shown p q =
    ap (λ (l : List ℕ). header p.name (added_counts p.counts q.counts) ++ (l ++ ending))
    (ap suite_texts (map-join p.suites q.suites) ∙ texts-join (map public_suite p.suites) (map public_suite q.suites))

-- counts whose sums are counts are counts themselves
sum_left : (m n : ℕ) → is_count (m + n) ≡ true → m ≤ 18446744073709551615
sum_left m n e = let l = leb-true (m + n) 18446744073709551615 e in omega arith

sum-right : (m n : ℕ) → is_count (m + n) ≡ true → n ≤ 18446744073709551615
sum-right m n e = let l = leb-true (m + n) 18446744073709551615 e in omega arith

either-both : (x y : Option ℕ) → if_any is_count (either_by ◌+◌ x y) ≡ true → (or_nothing x ≤ 18446744073709551615) × (or_nothing y ≤ 18446744073709551615)
either-both none none e = (omega arith, omega arith)
either-both none (some n) e = (omega arith, leb-true n 18446744073709551615 e)
either-both (some m) none e = (leb-true m 18446744073709551615 e, omega arith)
either-both (some m) (some n) e = (sum_left m n e, sum-right m n e)

module _ (p q : Report) (e : counts_fit (merged_report p q) ≡ true) where
  abbrev c : Counts
  c = p.counts

  abbrev d : Counts
  d = q.counts

  abbrev any : Bool
  any = if_any is_count (either_by ◌+◌ c.disabled d.disabled)

  abbrev from_skipped : Bool
  from_skipped = is_count (c.skipped + d.skipped) && any

  abbrev from_errors : Bool
  from_errors = is_count (c.errors + d.errors) && from_skipped

  abbrev from_failures : Bool
  from_failures = is_count (c.failures + d.failures) && from_errors

  tests : is_count (c.tests + d.tests) ≡ true
  unfolding merged_report
  tests = and_left (is_count (c.tests + d.tests)) from_failures e

  e1 : from_failures ≡ true
  unfolding merged_report
  e1 = and_right (is_count (c.tests + d.tests)) from_failures e

  e2 : from_errors ≡ true
  e2 = and_right (is_count (c.failures + d.failures)) from_errors e1

  e3 : from_skipped ≡ true
  e3 = and_right (is_count (c.errors + d.errors)) from_skipped e2

  failures : is_count (c.failures + d.failures) ≡ true
  failures = and_left (is_count (c.failures + d.failures)) from_errors e1

  errors : is_count (c.errors + d.errors) ≡ true
  errors = and_left (is_count (c.errors + d.errors)) from_skipped e2

  skipped : is_count (c.skipped + d.skipped) ≡ true
  skipped = and_left (is_count (c.skipped + d.skipped)) any e3

  disabled : (or_nothing c.disabled ≤ 18446744073709551615) × (or_nothing d.disabled ≤ 18446744073709551615)
  disabled = either-both c.disabled d.disabled (and_right (is_count (c.skipped + d.skipped)) any e3)

  pub first-within : InLimit p.counts
  first-within = record {
    tests = sum_left c.tests d.tests tests;
    failures = sum_left c.failures d.failures failures;
    errors = sum_left c.errors d.errors errors;
    skipped = sum_left c.skipped d.skipped skipped;
    disabled = disabled.0;
  }

  pub second-within : InLimit q.counts
  second-within = record {
    tests = sum-right c.tests d.tests tests;
    failures = sum-right c.failures d.failures failures;
    errors = sum-right c.errors d.errors errors;
    skipped = sum-right c.skipped d.skipped skipped;
    disabled = disabled.1;
  }

-- two pairs of reports with equal listings, none of whose sums passes the limit
pub merged-alike : (p q r s : Report) → counts_fit (merged_report p q) ≡ true → counts_fit (merged_report r s) ≡ true
    → render p ≡ render r → render q ≡ render s → render (merged_report p q) ≡ render (merged_report r s)
unfolding render
merged-alike p q r s e f g h =
    let a = told (public_part p) (public_part r) (first-within p q e) (first-within r s f) g in
    let b = told (public_part q) (public_part s) (second-within p q e) (second-within r s f) h in
    let x = a.0 in
    let y = a.1 in
    let z = a.2 in
    let v = b.1 in
    let w = b.2 in
    merged-shown p q ∙ (λ i. header (x i) (added_counts (y i) (v i)) ++ ((z i ++ w i) ++ ending)) ∙ sym (merged-shown r s)

-- ---- on trees
not-given : (c : Cause) (k : ℕ) → outcome_of (refuses c) ≡ accepted k → ⊥
not-given c k e = let z : ◌≡◌ {A = ℕ} 0 1 = cc in omega arith

given-same : (j k : ℕ) → outcome_of (gives j) ≡ accepted k → j ≡ k
given-same j k e = cc

-- two fronts of an area that are as long as each other
front_same : (x y z w : List ℕ) → length x ≡ length y → x ++ z ≡ y ++ w → x ≡ y
front_same x y z w l e = sym (take_at x z (length x) refl) ∙ ap (take (length x)) e ∙ take_at y w (length x) (sym l)

abbrev answer_by : Bool → Bool → List ℕ → Answer ℕ
answer_by tree room f = cond tree (cond room (gives (length f)) (refuses cause.OutputFull)) (refuses cause.NotLayout)

listed_by : (tree room : Bool) (f x : List ℕ) (n : ℕ) → room ≡ leb (length f) n → outcome_of (answer_by tree room f) ≡ accepted (length x)
    → output_for (answer_by tree room f) n f ≡ x ++ zeros (n - length x) → (tree ≡ true) × (x ≡ f)
listed_by false room f x n r e g = absurd (not-given cause.NotLayout (length x) e)
listed_by true false f x n r e g = absurd (not-given cause.OutputFull (length x) e)
listed_by true true f x n r e g =
    let l = given-same (length f) (length x) e in
    (refl, sym (front_same f x (zeros (n - length f)) (zeros (n - length x)) l (sym (laid-zeros n f (leb-true (length f) n (sym r))) ∙ g)))

module _ (a : Tree) where
  abbrev f : List ℕ
  f = listing_of a.words a.text

  -- a listing is that of a tree, and of its report
  pub listed-tree : (x : List ℕ) → Listed a x → IsTree a × (x ≡ listing_of a.words a.text)
  unfolding listing_answer output_of
  listed-tree x h = listed_by (layout a.words a.text) (leb (length f) h.output) f x h.output refl h.answer h.area

  pub tree-listed : IsTree a → Listed a (listing_of a.words a.text)
  unfolding listing_answer output_of
  tree-listed e =
      let l : leb (length f) (length f) ≡ true = le-leb (length f) (length f) (omega arith) in
      record {
        output = length f;
        answer = ap₂ (λ (t r : Bool). outcome_of (answer_by t r f)) e l;
        area = ap₂ (λ (t r : Bool). output_for (answer_by t r f) (length f) f) e l ∙ laid-zeros (length f) f (omega arith);
      }

  pub report-listing : (p : Report) → Holds a p → listing_of a.words a.text ≡ render p
  unfolding listing_of
  report-listing p e = ap rendered_or e
