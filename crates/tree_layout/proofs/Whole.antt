-- The whole layout, from the parts of the areas that are used. Assumes nothing.
use Prim.Native.Nat.{ℕ, zero, suc, ◌/◌, min}
use mathlib.Core.Bool.{◌&&◌}
use mathlib.Core.List.{List, [], ◌∷◌}
use mathlib.Core.Path.{◌≡◌, refl, sym, ap, ◌∙◌}
use native.Mathlib.Nat.{min-zero, suc-min-suc, min_comm}
use lib.ListN.{length, take, length-take}
use lib.Seq.{take-nil}
use Rattle.tree_shape.specs.of_area.Limits.{most_words, most_bytes}
use Rattle.tree_order.specs.of_tree_report.Layout.{used_words, used_text, filled, good_text, nothing, records_of, layout}
use Rattle.tree_layout.specs.inside.Walk.{layout_from, walked}
use Rattle.tree_layout.proofs.Filling.{filled-front}

take-least : (l : List ℕ) (n : ℕ) → take (min (length l) n) l ≡ take n l
take-least [] n = take-nil (min 0 n) ∙ sym (take-nil n)
take-least (x ∷ l) zero = rw (min-zero (suc (length l))) refl
take-least (x ∷ l) (suc n) = rw (suc-min-suc (length l) n) (ap (λ (r : List ℕ). x ∷ r) (take-least l n))

module _ (words text : List ℕ) (bytes fill limit : ℕ) (p : bytes ≡ min (length text) most_bytes) (q : fill ≡ length (filled (take bytes text))) (m : limit ≡ min (length words) most_words) where
  used : take bytes text ≡ used_text text
  used = ap (λ (n : ℕ). take n text) p ∙ take-least text most_bytes

  texts : take fill (take bytes text) ≡ filled (used_text text)
  texts = ap (λ (n : ℕ). take n (take bytes text)) q ∙ filled-front (take bytes text) ∙ ap filled used

  limit-words : limit ≡ length (used_words words)
  limit-words = m ∙ min_comm (length words) most_words ∙ sym (length-take most_words words)

  front : take limit words ≡ used_words words
  front = ap (λ (n : ℕ). take n words) m ∙ take-least words most_words

  pub layout-whole : (good_text (take bytes text) && walked (take fill (take bytes text)) words limit) ≡ layout words text
  unfolding walked layout layout_from records_of
  layout-whole =
      ap (λ (t : List ℕ). good_text t && layout_from (take fill (take bytes text)) nothing (limit / 32) words (take limit words)) used
      ∙ ap (λ (t : List ℕ). good_text (used_text text) && layout_from t nothing (limit / 32) words (take limit words)) texts
      ∙ ap (λ (n : ℕ). good_text (used_text text) && layout_from (filled (used_text text)) nothing (n / 32) words (take limit words)) limit-words
      ∙ ap (λ (u : List ℕ). good_text (used_text text) && layout_from (filled (used_text text)) nothing (length (used_words words) / 32) words u) front
