-- What is open behind a record, by its kind. Assumes nothing.
use Prim.Native.Nat.{ℕ, zero, suc, ◌+◌}
use mathlib.Core.Bool.{Bool, false, ◌&&◌}
use mathlib.Core.List.{List}
use mathlib.Core.Path.{◌≡◌, refl, ap}
use native.Mathlib.Nat.{zero-add}
use native.Mathlib.Omega.{arith}
use borrow.Author.Tests.{ne_eqb}
use lib.Dec.{eqb}
use lib.ListN.{get_or}
use Rattle.tree_report.specs.Layout.{Open, may_follow, following}
use Rattle.tree_report.specs.of_tree_status.declared.Tally.{Tally}
use Rattle.tree_order.specs.inside.Open.{status_behind}

abbrev state_with : ℕ → Bool → ℕ → ℕ → Bool → Tally → Open
state_with level extras s c flagged t =
    record { level = level; extras = extras; suite_list_of = s; case_list = c; tally = t; flagged = flagged }

-- two states with the same tally
pub with-tally : (level : ℕ) (extras : Bool) (s c : ℕ) (flagged : Bool) {t u : Tally} → t ≡ u → state_with level extras s c flagged t ≡ state_with level extras s c flagged u
with-tally level extras s c flagged e = ap (state_with level extras s c flagged) e

-- no runs of either family
pub sum-zero : (a b : ℕ) → eqb (a + b) 0 ≡ (eqb a 0 && eqb b 0)
sum-zero zero b = rw (zero-add b) refl
sum-zero (suc a) b = rw (ne_eqb (suc a + b) 0 (λ e. omega arith), ne_eqb (suc a) 0 (λ e. omega arith)) refl

-- the kind of a live record that is nothing else is a status element's
pub record Status (k : ℕ) : Type 0 where
  pub report : eqb k 1 ≡ false
  pub suite : eqb k 2 ≡ false
  pub case : eqb k 3 ≡ false
  pub suite_property : eqb k 4 ≡ false
  pub case_property : eqb k 5 ≡ false
  pub suite_extra : eqb k 13 ≡ false
  pub case_extra : eqb k 14 ≡ false

pub status : {k : ℕ} → (k ≡ 1 → ⊥) → (k ≡ 2 → ⊥) → (k ≡ 3 → ⊥) → (k ≡ 4 → ⊥) → (k ≡ 5 → ⊥) → (k ≡ 13 → ⊥) → (k ≡ 14 → ⊥) → Status k
status {k} a b c d e f g = record {
  report = ne_eqb k 1 a;
  suite = ne_eqb k 2 b;
  case = ne_eqb k 3 c;
  suite_property = ne_eqb k 4 d;
  case_property = ne_eqb k 5 e;
  suite_extra = ne_eqb k 13 f;
  case_extra = ne_eqb k 14 g;
}

module _ (o : Open) (r : List ℕ) (s : Status (get_or r 0 0)) where
  pub status-may : eqb o.level 3 ≡ may_follow o r
  unfolding may_follow
  status-may = rw (s.report, s.suite, s.case, s.suite_extra, s.case_extra, s.suite_property, s.case_property) refl

  pub status-following : status_behind o r ≡ following o r
  unfolding following
  status-following = rw (s.report, s.suite, s.case, s.suite_extra, s.case_extra, s.suite_property, s.case_property) refl
