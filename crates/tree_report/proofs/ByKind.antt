-- A record by the table of its kind, in the parts that laws are about. Assumes nothing.
use Prim.Native.Nat.{ℕ, ◌≤◌, ◌<◌}
use mathlib.Core.Bool.{Bool, true, false, cond, ◌&&◌, ◌||◌}
use mathlib.Core.List.{List}
use mathlib.Core.Path.{◌≡◌, refl, sym, ap, ◌∙◌}
use native.Mathlib.Omega.{arith}
use borrow.Author.Tests.{eqb-true, leb-true, leb-false, le-leb, lt-leb, lt-ltb, ne_eqb}
use lib.Dec.{leb, eqb}
use Rattle.tree_status.specs.of_tree_record.Kinds as kind
use Rattle.tree_report.specs.Fields.{kind_of, live, is_report, is_suite, is_case}
use Rattle.tree_report.specs.inside.Parts.{bits_for, good_report, good_suite, good_case, good_other}
use Rattle.tree_report.specs.Layout.{good_record}
use Rattle.schema.specs.Schema.{Row, report, suite, case, main, skipped, run, property, extra, table_of}
use Rattle.schema.specs.Records.{good}
use Rattle.tree_report.proofs.ByOther.{pair-good, main-good, skipped-good, run-good}

module _ (texts r : List ℕ) where
  report-good : good report texts r ≡ good_report texts r
  unfolding good_report
  report-good = refl

  suite-good : good suite texts r ≡ good_suite texts r
  unfolding good_suite
  suite-good = refl

  case-good : good case texts r ≡ good_case texts r
  unfolding good_case
  case-good = refl

  abbrev k : ℕ
  k = kind_of r

  picked : (b : Bool) (xs ys : List Row) → good (cond b xs ys) texts r ≡ cond b (good xs texts r) (good ys texts r)
  picked true xs ys = refl
  picked false xs ys = refl

  extra-good : good extra texts r ≡ good property texts r
  unfolding good
  extra-good = refl

  abbrev others : List Row
  others = cond (leb k kind.case_property) property (cond (leb k kind.error) main (cond (leb k kind.skipped) skipped (cond (leb k kind.rerun_error) run extra)))

  other-good : good others texts r ≡ good_other texts r
  unfolding bits_for
  other-good = go (leb k 5) (leb k 7) (leb k 8) (leb k 12) refl refl refl refl
    where
      go : (a b c d : Bool) → leb k 5 ≡ a → leb k 7 ≡ b → leb k 8 ≡ c → leb k 12 ≡ d
          → good (cond a property (cond b main (cond c skipped (cond d run extra)))) texts r ≡ good_other texts r
      go true b c d p q s t =
          let u : leb 6 k ≡ false = lt-leb 6 k (let l = leb-true k 5 p in omega arith) in
          pair-good texts r (rw p refl) (rw u refl)
      go false true c d p q s t =
          let l = leb-true k 7 q in
          let g = leb-false k 5 p in
          main-good texts r (rw (p, lt-leb 13 k (omega arith), q) refl) (rw (le-leb 6 k (omega arith), le-leb k 12 (omega arith)) refl)
      go false false true d p q s t =
          let l = leb-true k 8 s in
          let g = leb-false k 7 q in
          skipped-good texts r (rw (p, lt-leb 13 k (omega arith), q, s) refl) (rw (le-leb 6 k (omega arith), le-leb k 12 (omega arith)) refl)
      go false false false true p q s t =
          let l = leb-true k 12 t in
          let g = leb-false k 8 s in
          run-good texts r (rw (p, lt-leb 13 k (omega arith), q, s) refl) (rw (le-leb 6 k (omega arith), t) refl)
      go false false false false p q s t =
          let g = leb-false k 12 t in
          extra-good ∙ pair-good texts r (rw (p, le-leb 13 k (omega arith)) refl) (rw (le-leb 6 k (omega arith), t) refl)

  kind-good
      : cond (eqb k kind.report) (good_report texts r) (cond (eqb k kind.suite) (good_suite texts r) (cond (eqb k kind.case) (good_case texts r) (leb k kind.case_extra && good_other texts r)))
      ≡ (leb k kind.case_extra && good (table_of k) texts r)
  kind-good = go (eqb k 1) (eqb k 2) (eqb k 3) refl refl refl
    where
      go : (a b c : Bool) → eqb k 1 ≡ a → eqb k 2 ≡ b → eqb k 3 ≡ c
          → cond a (good_report texts r) (cond b (good_suite texts r) (cond c (good_case texts r) (leb k 14 && good_other texts r)))
          ≡ (leb k 14 && good (cond a report (cond b suite (cond c case others))) texts r)
      go true b c p q s = rw (le-leb k 14 (let e = eqb-true k 1 p in omega arith)) (sym report-good)
      go false true c p q s = rw (le-leb k 14 (let e = eqb-true k 2 q in omega arith)) (sym suite-good)
      go false false true p q s = rw (le-leb k 14 (let e = eqb-true k 3 s in omega arith)) (sym case-good)
      go false false false p q s = ap (λ (t : Bool). leb k 14 && t) (sym other-good)

  -- a record by the parts of its kind
  pub record-parts : good_record texts r
      ≡ cond (live r)
      (cond (is_report r) (good_report texts r) (cond (is_suite r) (good_suite texts r) (cond (is_case r) (good_case texts r) (leb k kind.case_extra && good_other texts r))))
      (leb 17 k && leb k 30)
  unfolding good_record
  record-parts = ap (λ (t : Bool). cond (live r) t (leb 17 k && leb k 30)) (sym kind-good)

  -- one that is no report, suite or case is good if its own test passes
  pub other-record : 4 ≤ kind_of r → kind_of r ≤ 14 → good_other texts r ≡ true → good_record texts r ≡ true
  other-record l h g =
      rw (record-parts, lt-ltb k 16 (omega arith), ne_eqb k 1 (λ e. omega arith), ne_eqb k 2 (λ e. omega arith), ne_eqb k 3 (λ e. omega arith), le-leb k 14 h) g
