-- The table of a record's kind. Assumes nothing.
use Prim.Native.Nat.{ℕ, ◌≤◌}
use mathlib.Core.Path.{◌≡◌, refl}
use mathlib.Core.Bool.{Bool, true, false, cond}
use mathlib.Core.List.{List}
use native.Mathlib.Omega.{arith}
use borrow.Author.Tests.{le-leb, lt-leb, ne_eqb}
use lib.Dec.{leb, eqb}
use Rattle.tree_merge.specs.of_schema.Schema.{Row, fine, report, suite, case, property, main, skipped, run, extra, table_of}

fine-cond : (b : Bool) (xs ys : List Row) → fine xs ≡ true → fine ys ≡ true → fine (cond b xs ys) ≡ true
fine-cond true xs ys e f = e
fine-cond false xs ys e f = f

pub table-fine : (k : ℕ) → fine (table_of k) ≡ true
table-fine k =
    fine-cond (eqb k 1) report _ refl
    (fine-cond (eqb k 2) suite _ refl
    (fine-cond (eqb k 3) case _ refl
    (fine-cond (leb k 5) property _ refl
    (fine-cond (leb k 7) main _ refl
    (fine-cond (leb k 8) skipped _ refl
    (fine-cond (leb k 12) run extra refl refl))))))

module _ (k : ℕ) (l : 6 ≤ k) where
  not1 : eqb k 1 ≡ false
  not1 = ne_eqb k 1 (λ e. omega arith)

  not2 : eqb k 2 ≡ false
  not2 = ne_eqb k 2 (λ e. omega arith)

  not3 : eqb k 3 ≡ false
  not3 = ne_eqb k 3 (λ e. omega arith)

  above5 : leb k 5 ≡ false
  above5 = lt-leb k 5 (omega arith)

  pub table-main : k ≤ 7 → table_of k ≡ main
  table-main h = rw (not1, not2, not3, above5, le-leb k 7 h) refl

  pub table-run : 9 ≤ k → k ≤ 12 → table_of k ≡ run
  table-run m h = rw (not1, not2, not3, above5, lt-leb k 7 (omega arith), lt-leb k 8 (omega arith), le-leb k 12 h) refl
