-- The call over areas of any length. Assumes nothing.
use Prim.Native.Nat.{ℕ, ◌+◌, ◌-◌, ◌≤◌, min}
use mathlib.Core.Bool.{true, false}
use mathlib.Core.List.{List, ◌++◌, append_assoc}
use mathlib.Core.Path.{◌≡◌, refl, sym, ap, ap₂, ◌∙◌}
use native.Mathlib.Nat.{min-le_left, min-le_right, zero-add}
use native.Mathlib.Omega.{arith}
use lib.ListN.{length, take, drop, length-append, length-take, length-replicate, replicate-append-replicate}
use lib.Seq.{length-take-le}
use Rattle.clearing.specs.of_area.Answer.{Answer, gives, refuses}
use Rattle.clearing.specs.of_area.Area.{zeros}
use Rattle.clearing.specs.of_area.Limits.{most_words, most_bytes}
use Rattle.clearing.proofs.of_area.Laying.{laid-zeros}
use Rattle.clearing.proofs.of_area.Lists.{drop-zeros, take-zeros}
use Rattle.clearing.specs.of_refusal.Refusal.{refused, late}
use Rattle.clearing.specs.of_refusal.declared.Cause.TheVariants as cause
use Rattle.merge_records.specs.of_utf8.Characters.{joined}
use Rattle.merge_records.proofs.of_list_values.Cutting.{take-least}
use Rattle.merge_records.specs.of_tree_report.Layout.{used_words, layout}
use Rattle.merge_head.specs.of_tree_merge.Answer.{merged_tree, merge_answer, outcome_of, merged, left_for, records_left, text_left}
use Rattle.merger.specs.declared.Merging.{Merging}
use Rattle.merger.specs.Answer.{merging_from}
use Rattle.merger.specs.inside.Whole.{tree_texts, tree_words, used_answer, left_by, Sized, Zero}
use Rattle.merger.proofs.Agree.{texts-same, words_same, sized, answer-same}

-- ---- the used front of an area, back in the whole
module _ (n w : ℕ) (f part : List ℕ) (h : w ≤ n) (l : length part ≡ w) where
  pub left_back : (o : Answer (Unit {0})) → part ≡ left_by o w f → part ++ drop w (zeros n) ≡ left_for o n f
  left_back (gives u) e =
      let a : part ≡ f ++ zeros (w - length f) = e ∙ ap (λ (k : ℕ). f ++ drop k (zeros w)) (zero-add (length f)) ∙ ap (λ (x : List ℕ). f ++ x) (drop-zeros (length f) w) in
      let b : length part ≡ length f + (w - length f) =
      ap length a ∙ length-append f (zeros (w - length f)) ∙ ap (λ (k : ℕ). length f + k) (length-replicate {A = ℕ} (w - length f) 0) in
      let c : length f ≤ n = omega arith in
      let d : w - length f + (n - w) ≡ n - length f = omega arith in
      ap₂ ◌++◌ a (drop-zeros w n)
      ∙ append_assoc f (zeros (w - length f)) (zeros (n - w))
      ∙ ap (λ (x : List ℕ). f ++ x) (replicate-append-replicate {A = ℕ} (w - length f) (n - w) 0 ∙ ap zeros d)
      ∙ sym (laid-zeros n f c)
  left_back (refuses c) e =
      let d : w + (n - w) ≡ n = omega arith in
      ap₂ ◌++◌ e (drop-zeros w n) ∙ replicate-append-replicate {A = ℕ} w (n - w) 0 ∙ ap zeros d

-- ---- what the code lends
most-used : (n : ℕ) (l : List ℕ) → length (take n l) ≤ n
most-used n l = let a = length-take n l in let b = min-le_left n (length l) in omega arith

module _ (area : List ℕ) (most : ℕ) {n : ℕ} (e : n ≡ min (length area) most) where
  within : n ≤ length area
  within = let a = min-le_left (length area) most in omega arith

  limited : n ≤ most
  limited = let a = min-le_right (length area) most in omega arith

  used : take n area ≡ take most area
  used = ap (λ (k : ℕ). take k area) e ∙ take-least area most

  front_length : length (take n area) ≡ n
  front_length = length-take-le n area within

  front-zero : area ≡ zeros (length area) → take n area ≡ zeros (length (take n area))
  front-zero z = ap (take n) z ∙ take-zeros n (length area) within ∙ ap zeros (sym front_length)

module _ (first first_text_of second second_text_of records text : List ℕ) {la ls lb lt w y : ℕ}
    (e1 : la ≡ min (length first) most_words) (e2 : ls ≡ min (length first_text_of) most_bytes) (e3 : lb ≡ min (length second) most_words)
    (e4 : lt ≡ min (length second_text_of) most_bytes) (e5 : w ≡ min (length records) most_words) (e6 : y ≡ min (length text) most_bytes)
    (p : layout first first_text_of ≡ true) (q : layout second second_text_of ≡ true) (zr : records ≡ zeros (length records)) (zt : text ≡ zeros (length text)) where
  pub known-sized : Sized (take la first) (take ls first_text_of) (take lb second) (take lt second_text_of)
  known-sized =
      rw (used first most_words e1, used first_text_of most_bytes e2, used second most_words e3, used second_text_of most_bytes e4)
      (sized first first_text_of second second_text_of p q (most-used most_words first) (most-used most_words second))

  pub known-zero : Zero (take w records) (take y text)
  known-zero = record {
    words = front-zero records most_words e5 zr;
    texts = front-zero text most_bytes e6 zt;
    most = let a = front_length text most_bytes e6 in let b = limited text most_bytes e6 in omega arith;
  }

  abbrev lent : Answer (Unit {0})
  lent = used_answer (take la first) (take lb second) (length (take w records)) (length (take y text))

  lent_is : lent ≡ merge_answer first first_text_of second second_text_of (length records) (length text)
  lent_is =
      ap₂ (λ (a b : List ℕ). used_answer a b (length (take w records)) (length (take y text))) (used first most_words e1) (used second most_words e3)
      ∙ ap₂ (λ (m n : ℕ). used_answer (used_words first) (used_words second) m n) (front_length records most_words e5 ∙ e5) (front_length text most_bytes e6 ∙ e6)
      ∙ answer-same first first_text_of second second_text_of p q (length records) (length text)

  words_are : tree_words (take la first) (take ls first_text_of) (take lb second) (take lt second_text_of) ≡ joined (merged_tree first first_text_of second second_text_of).records
  words_are = rw (used first most_words e1, used first_text_of most_bytes e2, used second most_words e3, used second_text_of most_bytes e4) (words_same first first_text_of second second_text_of p q)

  texts-are : tree_texts (take la first) (take ls first_text_of) (take lb second) (take lt second_text_of) ≡ (merged_tree first first_text_of second second_text_of).texts
  texts-are = rw (used first most_words e1, used first_text_of most_bytes e2, used second most_words e3, used second_text_of most_bytes e4) (texts-same first first_text_of second second_text_of p q)

  records-left : {part : List ℕ} → length part ≡ length (take w records)
      → part ≡ left_by lent (length (take w records)) (tree_words (take la first) (take ls first_text_of) (take lb second) (take lt second_text_of))
      → part ++ drop w records ≡ records_left first first_text_of second second_text_of (length records) (length text)
  unfolding records_left
  records-left {part} l e =
      let f = joined (merged_tree first first_text_of second second_text_of).records in
      let n = front_length records most_words e5 in
      ap (λ (x : List ℕ). part ++ drop w x) zr
      ∙ left_back (length records) w f part (within records most_words e5) (l ∙ n) lent (e ∙ ap₂ (λ (k : ℕ) (x : List ℕ). left_by lent k x) n words_are)
      ∙ ap (λ (o : Answer (Unit {0})). left_for o (length records) f) lent_is

  text-left : {part : List ℕ} → length part ≡ length (take y text)
      → part ≡ left_by lent (length (take y text)) (tree_texts (take la first) (take ls first_text_of) (take lb second) (take lt second_text_of))
      → part ++ drop y text ≡ text_left first first_text_of second second_text_of (length records) (length text)
  unfolding text_left
  text-left {part} l e =
      let f = (merged_tree first first_text_of second second_text_of).texts in
      let n = front_length text most_bytes e6 in
      ap (λ (x : List ℕ). part ++ drop y x) zt
      ∙ left_back (length text) y f part (within text most_bytes e6) (l ∙ n) lent (e ∙ ap₂ (λ (k : ℕ) (x : List ℕ). left_by lent k x) n texts-are)
      ∙ ap (λ (o : Answer (Unit {0})). left_for o (length text) f) lent_is

  pub known : {x : Answer (Unit {0})} {part part' : List ℕ} → length part ≡ length (take w records) → length part' ≡ length (take y text) → x ≡ lent
      → part ≡ left_by lent (length (take w records)) (tree_words (take la first) (take ls first_text_of) (take lb second) (take lt second_text_of))
      → part' ≡ left_by lent (length (take y text)) (tree_texts (take la first) (take ls first_text_of) (take lb second) (take lt second_text_of))
      → (x ≡ merge_answer first first_text_of second second_text_of (length records) (length text))
      × ((part ++ drop w records ≡ records_left first first_text_of second second_text_of (length records) (length text))
      × (part' ++ drop y text ≡ text_left first first_text_of second second_text_of (length records) (length text)))
  known l m a e f = (a ∙ lent_is, (records-left l e, text-left m f))

-- ---- the answer whole
module _ (first first_text_of second second_text_of : List ℕ) (n m : ℕ) where
  abbrev Whole : Merging → List ℕ → List ℕ → Type 0
  Whole r records text =
      (r ≡ merging_from (merged first first_text_of second second_text_of n m))
      × ((records ≡ records_left first first_text_of second second_text_of n m) × (text ≡ text_left first first_text_of second second_text_of n m))

  pub not_first : {r : Merging} {records text : List ℕ} → layout first first_text_of ≡ false → r ≡ merging_from (refused (late cause.NotLayout)) → records ≡ zeros n → text ≡ zeros m
      → Whole r records text
  unfolding records_left text_left merge_answer
  not_first l e x y = (e ∙ rw l refl, (x ∙ rw l refl, y ∙ rw l refl))

  pub not-second : {r : Merging} {records text : List ℕ} → layout first first_text_of ≡ true → layout second second_text_of ≡ false → r ≡ merging_from (refused (late cause.NotLayout))
      → records ≡ zeros n → text ≡ zeros m → Whole r records text
  unfolding records_left text_left merge_answer
  not-second k l e x y = (e ∙ rw (k, l) refl, (x ∙ rw (k, l) refl, y ∙ rw (k, l) refl))

  pub whole-merge : {r : Merging} {o : Answer (Unit {0})} {records text : List ℕ} {n' m' : ℕ} → n' ≡ n → m' ≡ m → r ≡ merging_from (outcome_of o)
      → o ≡ merge_answer first first_text_of second second_text_of n' m' → records ≡ records_left first first_text_of second second_text_of n' m' → text ≡ text_left first first_text_of second second_text_of n' m'
      → Whole r records text
  whole-merge i j e a x y = (
    e ∙ ap (λ (o : Answer (Unit {0})). merging_from (outcome_of o)) (a ∙ ap₂ (merge_answer first first_text_of second second_text_of) i j),
    (x ∙ ap₂ (records_left first first_text_of second second_text_of) i j, y ∙ ap₂ (text_left first first_text_of second second_text_of) i j),
  )

pub cleared : {l : List ℕ} (n : ℕ) → l ≡ zeros n → length l ≡ n
cleared n e = ap length e ∙ length-replicate {A = ℕ} n 0

pub cleared-zero : {l : List ℕ} (n : ℕ) → l ≡ zeros n → l ≡ zeros (length l)
cleared-zero n e = e ∙ ap zeros (sym (cleared n e))
