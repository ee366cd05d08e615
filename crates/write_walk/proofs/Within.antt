-- What a case has inside, by the kinds of its first records. Assumes nothing.
use Prim.Native.Nat.{ℕ}
use mathlib.Core.Path.{◌≡◌, refl, sym, ap, ◌∙◌}
use mathlib.Core.List.{List}
use mathlib.Core.Bool.{true, false, ◌&&◌, ◌||◌}
use borrow.Author.Tests.{eq-eqb, ne_eqb}
use lib.Dec.{leb, eqb}
use Rattle.list_sums.specs.of_tree_record.Bits as bit
use Rattle.list_sums.specs.of_tree_report.Fields.{has_bit}
use Rattle.write_items.specs.inside.Case.{first_kind, runs_flaky, is_childless}

module _ (rs : List (List ℕ)) where
  pub flaky-alone : (r : List ℕ) (n : ℕ) → n ≡ first_kind 2 9 12 rs → n ≡ 0 → has_bit bit.flaky r ≡ runs_flaky r rs
  unfolding runs_flaky
  flaky-alone r n p q = rw (eq-eqb (first_kind 2 9 12 rs) 0 (sym p ∙ q)) refl

  pub flaky-run : (r : List ℕ) (n : ℕ) → n ≡ first_kind 2 9 12 rs → (n ≡ 0 → ⊥) → leb n 10 ≡ runs_flaky r rs
  unfolding runs_flaky
  flaky-run r n p q = rw (ne_eqb (first_kind 2 9 12 rs) 0 (λ z. q (p ∙ z))) (ap (λ (m : ℕ). leb m 10) p)

  pub childless-not : (r : List ℕ) → (has_bit 1 r || has_bit 2 r) ≡ true → false ≡ is_childless r rs
  unfolding is_childless
  childless-not r e = rw e refl

  pub childless-may : (r : List ℕ) (a b : ℕ) → (has_bit 1 r || has_bit 2 r) ≡ false → a ≡ first_kind 2 5 5 rs → b ≡ first_kind 2 6 12 rs → (eqb a 0 && eqb b 0) ≡ is_childless r rs
  unfolding is_childless
  childless-may r a b e p q = rw (e, p, q) refl
