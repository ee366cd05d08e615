-- Of good records what is copied is what the definitions say. Assumes nothing.
use Prim.Native.Nat.{ℕ, ◌+◌, ◌≤◌}
use mathlib.Core.Bool.{Bool, true, false, cond}
use mathlib.Core.List.{List, [], ◌∷◌, ◌++◌}
use mathlib.Core.Path.{◌≡◌, refl, sym, ap, ap₂, ◌∙◌}
use lib.ListN.{length, length-append}
use Rattle.merge_rows.specs.of_utf8.Characters.{joined}
use Rattle.merge_rows.proofs.of_schema.Tests.{and_left, and_right}
use Rattle.merge_rows.specs.of_tree_report.Layout.{good_record, all_good}
use Rattle.merge_rows.specs.of_tree_report.ReportOf.{only}
use Rattle.merge_rows.specs.of_tree_merge.Answer.{is_below}
use Rattle.merge_rows.specs.of_tree_merge.Moved.{texts_of, texts_in, moved_from}
use Rattle.merge_rows.proofs.Rows.{row-texts, row_moved, row-sizes}
use Rattle.merge_records.specs.inside.Copied.{sizes_in, texts_for, records_for}

module _ (g texts : List ℕ) where
  pub good-texts : (rs : List (List ℕ)) → all_good g rs ≡ true → texts_for texts (only is_below rs) ≡ texts_in texts (only is_below rs)
  unfolding texts_for
  good-texts [] h = refl
  good-texts (r ∷ rs) h = go (is_below r) refl (good-texts rs (and_right (good_record g r) (all_good g rs) h))
    where
      go : (t : Bool) → is_below r ≡ t → texts_for texts (only is_below rs) ≡ texts_in texts (only is_below rs)
          → texts_for texts (cond t (r ∷ only is_below rs) (only is_below rs)) ≡ texts_in texts (cond t (r ∷ only is_below rs) (only is_below rs))
      go true b e = ap₂ ◌++◌ (row-texts g texts r (and_left (good_record g r) (all_good g rs) h) b) e
      go false b e = e

  pub good-records : (rs : List (List ℕ)) → all_good g rs ≡ true → (fill : ℕ) → records_for texts fill (only is_below rs) ≡ joined (moved_from texts fill (only is_below rs))
  unfolding records_for
  good-records [] h fill = refl
  good-records (r ∷ rs) h fill = go (is_below r) refl (good-records rs (and_right (good_record g r) (all_good g rs) h))
    where
      go : (t : Bool) → is_below r ≡ t → ((n : ℕ) → records_for texts n (only is_below rs) ≡ joined (moved_from texts n (only is_below rs)))
          → records_for texts fill (cond t (r ∷ only is_below rs) (only is_below rs)) ≡ joined (moved_from texts fill (cond t (r ∷ only is_below rs) (only is_below rs)))
      go true b e =
          let w = and_left (good_record g r) (all_good g rs) h in
          ap₂ ◌++◌ (row_moved g texts r w b fill)
          (ap (λ (l : List ℕ). records_for texts (fill + length l) (only is_below rs)) (row-texts g texts r w b) ∙ e (fill + length (texts_of texts r)))
      go false b e = e fill

  pub good-sizes : length g ≤ length texts → (rs : List (List ℕ)) → all_good g rs ≡ true → sizes_in (only is_below rs) ≡ length (texts_in texts (only is_below rs))
  unfolding sizes_in
  good-sizes l [] h = refl
  good-sizes l (r ∷ rs) h = go (is_below r) refl (good-sizes l rs (and_right (good_record g r) (all_good g rs) h))
    where
      go : (t : Bool) → is_below r ≡ t → sizes_in (only is_below rs) ≡ length (texts_in texts (only is_below rs))
          → sizes_in (cond t (r ∷ only is_below rs) (only is_below rs)) ≡ length (texts_in texts (cond t (r ∷ only is_below rs) (only is_below rs)))
      go true b e =
          ap₂ ◌+◌ (row-sizes g texts r (and_left (good_record g r) (all_good g rs) h) b l) e
          ∙ sym (length-append (texts_of texts r) (texts_in texts (only is_below rs)))
      go false b e = e
