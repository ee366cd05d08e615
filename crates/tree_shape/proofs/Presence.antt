-- Kinds of a record, in the terms of the code. Assumes nothing.
use Prim.Native.Nat.{ℕ, ◌≤◌, ◌<◌}
use mathlib.Core.Bool.{◌&&◌}
use mathlib.Core.List.{List}
use mathlib.Core.Path.{◌≡◌, refl}
use native.Mathlib.Nat.{le_of_eq}
use borrow.Author.Tests.{lt-ltb, le-ltb, ne_eqb}
use lib.Dec.{leb}
use lib.ListN.{length, get_or}
use lib.Seq.{take_all}
use Rattle.tree_moments.specs.of_tree_report.Layout.{good_record}
use Rattle.tree_moments.specs.of_tree_report.inside.Parts.{good_report, good_suite, good_case, good_other}
use Rattle.tree_moments.proofs.of_tree_report.ByKind.{record-parts}
use Rattle.tree_shape.specs.inside.Records.{is_record}

-- a record by its kind
module _ (texts r : List ℕ) where
  pub dead-record : 16 ≤ get_or r 0 0 → (leb 17 (get_or r 0 0) && leb (get_or r 0 0) 30) ≡ good_record texts r
  unfolding good_record
  dead-record h = rw (le-ltb (get_or r 0 0) 16 h) refl

  -- the code's test of a report's record is the layout's
  pub report-record : get_or r 0 0 ≡ 1 → good_report texts r ≡ good_record texts r
  unfolding good_record good_report
  report-record e = rw e refl

  -- the code's test of a suite's record is the layout's
  pub suite-record : get_or r 0 0 ≡ 2 → good_suite texts r ≡ good_record texts r
  unfolding good_record good_suite
  suite-record e = rw e refl

  -- the code's test of a case's record is the layout's
  pub case-record : get_or r 0 0 ≡ 3 → good_case texts r ≡ good_record texts r
  unfolding good_record good_case
  case-record e = rw e refl

  -- the code's test of any other record is the layout's
  pub other-record : get_or r 0 0 < 16 → (get_or r 0 0 ≡ 1 → ⊥) → (get_or r 0 0 ≡ 2 → ⊥) → (get_or r 0 0 ≡ 3 → ⊥) → (leb (get_or r 0 0) 14 && good_other texts r) ≡ good_record texts r
  other-record h a b c = rw (record-parts texts r, lt-ltb (get_or r 0 0) 16 h, ne_eqb (get_or r 0 0) 1 a, ne_eqb (get_or r 0 0) 2 b, ne_eqb (get_or r 0 0) 3 c) refl

-- a part of 32 words is a record itself
pub record-whole : (texts r : List ℕ) → length r ≡ 32 → is_record texts r ≡ good_record texts r
unfolding is_record
record-whole texts r e = rw (e, take_all 32 r (le_of_eq e)) refl
