-- Attributes by their codes, one behind the other. Assumes nothing.
use Prim.Native.Nat.{ℕ, suc, ◌+◌, ◌≤◌, ◌<◌}
use mathlib.Core.Path.{◌≡◌, refl, sym, ap, ◌∙◌}
use mathlib.Core.List.{List, [], ◌∷◌, ◌++◌}
use mathlib.Core.Bool.{Bool, true, false, cond}
use native.Mathlib.Omega.{arith}
use lib.ListN.{length, get_or, drop, drop_of_length-le}
use Rattle.write_entries.proofs.of_area.Lists.{drop-next}
use Rattle.write_entries.specs.of_write_table.Laid.{entry, pair, pairs_of_it}
use Rattle.write_entries.specs.of_write_table.inside.Putting.{Areas, Wrote}
use Rattle.write_entries.proofs.of_write_table.Writing.{Coming, coming_on, coming-wrote, coming-done}
use Rattle.write_entries.specs.of_write_items.inside.Values.{key_name, value_of}
use Rattle.write_entries.specs.of_write_items.inside.Slots.{is_present, slot_of, slots, count_of}

pub slots-count : (text r codes : List ℕ) → length (slots text r codes) ≡ count_of r codes
slots-count text r [] = refl
slots-count text r (c ∷ cs) = go (slots-count text r cs) (is_present r c)
  where
    go : length (slots text r cs) ≡ count_of r cs → (b : Bool) → length (cond b (slot_of text r c ∷ slots text r cs) (slots text r cs)) ≡ cond b (suc (count_of r cs)) (count_of r cs)
    go h true = ap suc h
    go h false = h

-- ---- the count
module _ (r codes : List ℕ) where
  pub record Counting (n i : ℕ) : Type 0 where
    pub fits : i ≤ length codes
    pub most : n ≤ i
    pub left : n + count_of r (drop i codes) ≡ count_of r codes

  pub counting-start : Counting 0 0
  counting-start = record { fits = omega arith; most = omega arith; left = omega arith }

  module _ {n i : ℕ} (c : Counting n i) where
    pub counting-done : length codes ≤ i → n ≡ count_of r codes
    counting-done h = let z : count_of r (drop i codes) ≡ 0 = rw (drop_of_length-le codes {i = i} h) refl in omega (arith, c.left)

    module _ (h : i < length codes) where
      next : (b : Bool) → is_present r (get_or codes i 0) ≡ b → count_of r (drop i codes) ≡ cond b (suc (count_of r (drop (i + 1) codes))) (count_of r (drop (i + 1) codes))
      next b e = ap (count_of r) (drop-next codes i h) ∙ rw e refl

      pub counting_more : is_present r (get_or codes i 0) ≡ true → Counting (n + 1) (i + 1)
      counting_more e = let f = next true e in record { fits = omega arith; most = omega (arith, c.most); left = omega (arith, c.left) }

      pub counting-pass : is_present r (get_or codes i 0) ≡ false → Counting n (i + 1)
      counting-pass e = let f = next false e in record { fits = omega arith; most = omega (arith, c.most); left = omega (arith, c.left) }

-- ---- the attributes themselves
module _ (text r codes : List ℕ) where
  module _ {s₀ s : Areas} {i : ℕ} (c : Coming s₀ (pairs_of_it (slots text r codes)) s (pairs_of_it (slots text r (drop i codes)))) where
    pub slots-done : length codes ≤ i → Wrote s₀ (pairs_of_it (slots text r codes)) s
    slots-done h = coming-done (coming_on c (rw (drop_of_length-le codes {i = i} h) refl))

    module _ (h : i < length codes) where
      abbrev code : ℕ
      code = get_or codes i 0

      turned : (b : Bool) → is_present r code ≡ b
          → pairs_of_it (slots text r (drop i codes)) ≡ pairs_of_it (cond b (slot_of text r code ∷ slots text r (drop (i + 1) codes)) (slots text r (drop (i + 1) codes)))
      turned b e = ap (λ (l : List ℕ). pairs_of_it (slots text r l)) (drop-next codes i h) ∙ rw e refl

      pub slots-put : {t : Areas} → is_present r code ≡ true → Wrote s (pair (key_name code) (value_of text r code) ∷ []) t
          → Coming s₀ (pairs_of_it (slots text r codes)) t (pairs_of_it (slots text r (drop (i + 1) codes)))
      slots-put e w = coming-wrote (coming_on c (turned true e)) w

      pub slots-pass : is_present r code ≡ false → Coming s₀ (pairs_of_it (slots text r codes)) s (pairs_of_it (slots text r (drop (i + 1) codes)))
      slots-pass e = coming_on c (turned false e)

-- a tag with its attributes, counted before
pub element-items : (kind : ℕ) (t text r codes : List ℕ) (n more : ℕ) → n ≡ count_of r codes
    → (entry kind t (n + more) ∷ []) ++ pairs_of_it (slots text r codes) ≡ entry kind t (length (slots text r codes) + more) ∷ pairs_of_it (slots text r codes)
element-items kind t text r codes n more e = ap (λ (m : ℕ). entry kind t (m + more) ∷ pairs_of_it (slots text r codes)) (e ∙ sym (slots-count text r codes))
