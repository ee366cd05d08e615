-- The records of a suite or case, and those of one kind or of two sorts among them. Assumes nothing.
use Prim.Native.Nat.{ℕ, ◌<◌}
use mathlib.Core.Path.{◌≡◌, refl, sym, ap, ap₂, ◌∙◌}
use mathlib.Core.List.{List, [], ◌∷◌}
use mathlib.Core.Bool.{Bool, true, false, cond, ◌&&◌, ◌||◌, and-true, and-false, or-false, and-eq-true_iff}
use native.Mathlib.Omega.{arith}
use borrow.Author.Tests.{leb-true, leb-false, le-leb, lt-leb, eqb-true, eqb-false, ne_eqb}
use lib.Dec.{leb, eqb}
use Rattle.write_report.specs.of_tree_record.Kinds as kind
use Rattle.write_report.specs.of_tree_report.Fields.{kind_of, is_suite, is_case, is_main, is_run}
use Rattle.write_report.specs.of_tree_report.ReportOf.{only, until}
use Rattle.write_report.specs.Written.{is_empty}
use Rattle.write_items.specs.inside.Walk.{ends_at, is_between, own_of, between}
use Rattle.write_items.proofs.Lists.{only_same, until-same}

-- ---- where they end
pub own-suite : (rs : List (List ℕ)) → own_of 1 rs ≡ until is_suite rs
own-suite = until-same (λ (r : List ℕ). ends_at 1 (kind_of r)) is_suite (λ r. go (eqb (kind_of r) kind.suite) (eqb (kind_of r) kind.case))
  where
    go : (a b : Bool) → ((a && true) || (b && false)) ≡ a
    go a b = rw (and-true a, and-false b) (or-false a)

until-two : (p q : List ℕ → Bool) (rs : List (List ℕ)) → until (λ (r : List ℕ). p r || q r) rs ≡ until q (until p rs)
until-two p q [] = refl
until-two p q (r ∷ rs) = go (p r) (q r) refl (until-two p q rs)
  where
    go : (a b : Bool) → q r ≡ b → until (λ (r : List ℕ). p r || q r) rs ≡ until q (until p rs) → cond (a || b) [] (r ∷ until (λ (r : List ℕ). p r || q r) rs) ≡ until q (cond a [] (r ∷ until p rs))
    go true b e h = refl
    go false true e h = rw e refl
    go false false e h = rw e (ap (λ (l : List (List ℕ)). r ∷ l) h)

pub own-case : (rs : List (List ℕ)) → own_of 2 rs ≡ until is_case (until is_suite rs)
own-case rs =
    until-same (λ (r : List ℕ). ends_at 2 (kind_of r)) (λ (r : List ℕ). is_suite r || is_case r) (λ r. ap₂ ◌||◌ (and-true (is_suite r)) (and-true (is_case r))) rs
    ∙ until-two is_suite is_case rs

-- ---- their kinds
one-kind : (k j : ℕ) → is_between k k j ≡ eqb j k
one-kind k j = go (eqb j k) refl
  where
    neither : (j ≡ k → ⊥) → (a b : Bool) → leb k j ≡ a → leb j k ≡ b → (a && b) ≡ false
    neither n true true u v = let l = leb-true k j u in let m = leb-true j k v in absurd (n (omega arith))
    neither n true false u v = refl
    neither n false b u v = refl

    go : (b : Bool) → eqb j k ≡ b → is_between k k j ≡ b
    go true e = let s = eqb-true j k e in rw (le-leb k j (omega arith), le-leb j k (omega arith)) refl
    go false e = neither (eqb-false j k e) (leb k j) (leb j k) refl refl

pub between-one : (k : ℕ) (rs : List (List ℕ)) → between k k rs ≡ only (λ (r : List ℕ). eqb (kind_of r) k) rs
between-one k = only_same (λ (r : List ℕ). is_between k k (kind_of r)) (λ (r : List ℕ). eqb (kind_of r) k) (λ r. one-kind k (kind_of r))

-- a kind that is looked for isn't 0
pub between-some : (low high k : ℕ) → 0 < low → is_between low high k ≡ true → eqb k 0 ≡ false
between-some low high k h e = let l = leb-true low k ((and-eq-true_iff (leb low k) (leb k high)).0 e).0 in ne_eqb k 0 (λ z. omega arith)

-- the status elements are the mains and the runs
two-sorts : (k : ℕ) → is_between 6 12 k ≡ (is_between 6 8 k || is_between 9 12 k)
two-sorts k = go (leb k 8) refl
  where
    go : (b : Bool) → leb k 8 ≡ b → (leb 6 k && leb k 12) ≡ ((leb 6 k && b) || (leb 9 k && leb k 12))
    go true e = let l = leb-true k 8 e in rw (le-leb k 12 (omega arith), lt-leb 9 k (omega arith)) (sym (or-false (leb 6 k && true)))
    go false e = let l = leb-false k 8 e in rw (le-leb 6 k (omega arith), le-leb 9 k (omega arith)) refl

empty-either : (p q : List ℕ → Bool) (rs : List (List ℕ)) → is_empty (only (λ (r : List ℕ). p r || q r) rs) ≡ (is_empty (only p rs) && is_empty (only q rs))
empty-either p q [] = refl
empty-either p q (r ∷ rs) = go (p r) (q r) (empty-either p q rs)
  where
    go : (a b : Bool) → is_empty (only (λ (r : List ℕ). p r || q r) rs) ≡ (is_empty (only p rs) && is_empty (only q rs))
        → is_empty (cond (a || b) (r ∷ only (λ (r : List ℕ). p r || q r) rs) (only (λ (r : List ℕ). p r || q r) rs))
        ≡ (is_empty (cond a (r ∷ only p rs) (only p rs)) && is_empty (cond b (r ∷ only q rs) (only q rs)))
    go true b h = refl
    go false true h = sym (and-false (is_empty (only p rs)))
    go false false h = h

pub no-status : (rs : List (List ℕ)) → is_empty (between 6 12 rs) ≡ (is_empty (only is_main rs) && is_empty (only is_run rs))
no-status rs =
    ap is_empty (only_same (λ (r : List ℕ). is_between 6 12 (kind_of r)) (λ (r : List ℕ). is_main r || is_run r) (λ r. two-sorts (kind_of r)) rs)
    ∙ empty-either is_main is_run rs
