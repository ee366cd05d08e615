-- What is written inside a case, by the parts in which it is put. Assumes nothing.
use Prim.Native.Nat.{ℕ, ◌+◌, ◌-◌, min}
use mathlib.Core.Path.{◌≡◌, refl, sym, ap, ◌∙◌}
use mathlib.Core.List.{List, [], ◌∷◌, ◌++◌}
use mathlib.Core.Bool.{Bool, true, false}
use native.Mathlib.Nat.{min_comm}
use borrow.Author.Tests.{eq-eqb, ne_eqb}
use lib.ListN.{length, take, drop}
use Rattle.area.proofs.Parts.{rest_part}
use Rattle.write_entries.proofs.of_list_values.Cutting.{take-least}
use Rattle.write_marks.specs.of_tree_report.Fields.{kind_of}
use Rattle.write_marks.specs.of_tree_report.ReportOf.{reason_of}
use Rattle.write_marks.specs.of_write_report.Written.{serialize_status}
use Rattle.write_marks.specs.of_write_table.Laid.{entry, items_of}
use Rattle.write_walk.specs.of_write_items.inside.Values.{tag_name}
use Rattle.write_walk.specs.of_write_items.inside.Walk.{own_of, between, first_of}
use Rattle.write_walk.specs.of_write_items.inside.Rows.{rows_items}
use Rattle.write_walk.specs.of_write_items.inside.Case.{first_kind, runs_flaky, main_tag, properties_items, main_items, elements_items}

-- the record at hand, cut out of the words
pub record-there : (words f : List ℕ) (at to : ℕ) → to ≡ min 32 (length (take (length words - at) (drop at words)))
    → take 32 (drop at words) ≡ f → take to (take (length words - at) (drop at words)) ≡ f
record-there words f at to e p =
    let l = take (length words - at) (drop at words) in
    ap (λ (n : ℕ). take n l) (e ∙ min_comm 32 (length l)) ∙ take-least l 32 ∙ ap (take 32) (rest_part words at) ∙ p

module _ (rs : List (List ℕ)) (text : List ℕ) where
  pub properties-none : (level kind n : ℕ) → n ≡ first_kind level kind kind rs → n ≡ 0 → [] ≡ properties_items text level kind rs
  unfolding properties_items
  properties-none level kind n p q = rw (eq-eqb (first_kind level kind kind rs) 0 (sym p ∙ q)) refl

  pub properties-some : (level kind n : ℕ) → n ≡ first_kind level kind kind rs → (n ≡ 0 → ⊥)
      → (entry 0 (tag_name 4) 0 ∷ []) ++ (rows_items text false level kind kind rs ++ (entry 2 (tag_name 4) 0 ∷ [])) ≡ properties_items text level kind rs
  unfolding properties_items
  properties-some level kind n p q = rw (ne_eqb (first_kind level kind kind rs) 0 (λ z. q (p ∙ z))) refl

  pub main-skipped : (r : List ℕ) → kind_of r ≡ 8 → items_of (serialize_status (tag_name 8) (reason_of text r)) ≡ main_items text r rs
  unfolding main_items
  main-skipped r e = rw (eq-eqb (kind_of r) 8 e) refl

  pub main_runs : (r : List ℕ) (tag : ℕ) (f : Bool) → (kind_of r ≡ 8 → ⊥) → tag ≡ main_tag (kind_of r) → f ≡ runs_flaky r rs
      → items_of (serialize_status (tag_name tag) (reason_of text r)) ++ rows_items text f 2 9 12 rs ≡ main_items text r rs
  unfolding main_items
  main_runs r tag f e p q =
      rw (ne_eqb (kind_of r) 8 e)
      (ap (λ (t : ℕ). items_of (serialize_status (tag_name t) (reason_of text r)) ++ rows_items text f 2 9 12 rs) p
      ∙ ap (λ (b : Bool). items_of (serialize_status (tag_name (main_tag (kind_of r))) (reason_of text r)) ++ rows_items text b 2 9 12 rs) q)

  pub elements-runs : (r : List ℕ) → r ≡ first_of (between 6 8 (own_of 2 rs)) → kind_of r ≡ 0 → rows_items text true 2 9 12 rs ≡ elements_items text rs
  unfolding elements_items
  elements-runs r p e = rw (eq-eqb (first_kind 2 6 8 rs) 0 (ap kind_of (sym p) ∙ e)) refl

  pub elements-main : (r : List ℕ) → r ≡ first_of (between 6 8 (own_of 2 rs)) → (kind_of r ≡ 0 → ⊥) → main_items text r rs ≡ elements_items text rs
  unfolding elements_items
  elements-main r p e = rw (ne_eqb (first_kind 2 6 8 rs) 0 (λ z. e (ap kind_of p ∙ z))) (ap (λ (l : List ℕ). main_items text l rs) p)
