-- The item that stands first in the areas, resolved and checked. Assumes nothing.
use Prim.Native.Nat.{ℕ, zero, suc, ◌+◌, ◌*◌, ◌≤◌, ◌<◌}
use mathlib.Core.Path.{◌≡◌, refl, sym, ap, ◌∙◌}
use mathlib.Core.List.{List, ◌∷◌, ◌++◌}
use mathlib.Core.Bool.{Bool, true, cond, ◌&&◌, ◌||◌}
use native.Mathlib.Omega.{arith}
use borrow.Author.Tests.{le-leb, eq-eqb}
use lib.ListN.{length, drop}
use lib.Dec.{leb, eqb, eqb-suc-zero}
use Rattle.write_report.specs.of_refusal.Refusal.{nowhere}
use Rattle.write_report.specs.of_table.Table.{word, count_of, good_attribute, good_shape, bad_from, check_event, Checked}
use Rattle.std.specs.Prelude.{Ok, Err}
use Rattle.write_report.specs.of_table.Event.{part, bytes_at, attribute_at, attributes_from, event_of, event_at}
use Rattle.write_report.proofs.of_tree_report.EncodeLists.{both}
use Rattle.write_report.specs.Written.{attribute}
use Rattle.write_table.specs.Laid.{Item, entry, pair, place, event_words, attribute_words, laid_bytes}
use Rattle.write_resolved.proofs.Standing.{Standing, entry-word, pair-word, entry-bytes, key-bytes, value-bytes, part_placed, part-within}

module _ {events attributes source : List ℕ} {i j b : ℕ} {is : List Item} where
  -- ---- an attribute
  module _ {key value : List ℕ} (t : Standing events attributes source i j b (pair key value ∷ is)) where
    pub pair-resolved : attribute_at attributes source j ≡ attribute key value
    pair-resolved =
        (λ x. record { good = eqb (pair-word t 0 x) 0; key = part source (pair-word t 1 x) (pair-word t 2 x); value = part source (pair-word t 3 x) (pair-word t 4 x) })
        ∙ (λ x. record { good = true; key = part_placed source key (value ++ laid_bytes is) b (key-bytes t) x; value = part_placed source value (laid_bytes is) (b + length key) (value-bytes t) x })

    pub pair-checked : good_attribute (drop (j * 5) attributes) (length source) ≡ true
    unfolding good_attribute attribute_words
    pair-checked =
        ap (λ (w : List ℕ). good_attribute w (length source)) t.pairs
        ∙ both (le-leb (place (length key) b + length key) (length source) (part-within source key (value ++ laid_bytes is) b (key-bytes t)))
        (le-leb (place (length value) (b + length key) + length value) (length source) (part-within source value (laid_bytes is) (b + length key) (value-bytes t)))

  -- ---- an event
  module _ {kind n : ℕ} {s : List ℕ} (t : Standing events attributes source i j b (entry kind s n ∷ is)) where
    bytes-resolved : bytes_at events source i ≡ s
    bytes-resolved = (λ x. part source (entry-word t 1 x) (entry-word t 2 x)) ∙ part_placed source s (laid_bytes is) b (entry-bytes t)

    pub entry-resolved : event_at events attributes source i ≡ event_of kind s (place n j) (attributes_from attributes source n (place n j))
    unfolding event_at
    entry-resolved = λ x. event_of (entry-word t 0 x) (bytes-resolved x) (entry-word t 3 x) (attributes_from attributes source (entry-word t 4 x) (entry-word t 3 x))

    ranged : (n first count : ℕ) → (0 < n → (kind ≤ 1) × (first + n ≤ count)) → (eqb n 0 || (leb kind 1 && leb (first + n) count)) ≡ true
    ranged zero first count h = refl
    ranged (suc n) first count h =
        let k = h (omega arith) in
        ap (λ (u : Bool). u || (leb kind 1 && leb (first + suc n) count)) (eqb-suc-zero n) ∙ both (le-leb kind 1 k.0) (le-leb (first + suc n) count k.1)

    shaped : kind ≤ 9 → (0 < n → (kind ≤ 1) × (place n j + n ≤ count_of attributes)) → good_shape (drop (i * 5) events) (count_of attributes) (length source) ≡ true
    unfolding good_shape event_words
    shaped k r =
        ap (λ (w : List ℕ). good_shape w (count_of attributes) (length source)) t.entries
        ∙ both (le-leb kind 9 k)
        (both (le-leb (place (length s) b + length s) (length source) (part-within source s (laid_bytes is) b (entry-bytes t))) (ranged n (place n j) (count_of attributes) r))

    pub entry-checked : kind ≤ 9 → (0 < n → (kind ≤ 1) × (place n j + n ≤ count_of attributes)) →
        bad_from attributes (length source) n (place n j) ≡ place n j + n → check_event events attributes (length source) i ≡ Ok tt
    unfolding check_event
    entry-checked k r g =
        let bad : ℕ = bad_from attributes (length source) (word events i 4) (word events i 3) in
        let all : bad_from attributes (length source) (word events i 4) (word events i 3) ≡ word events i 3 + word events i 4 =
        (λ x. bad_from attributes (length source) (entry-word t 4 x) (entry-word t 3 x)) ∙ g ∙ sym (λ x. entry-word t 3 x + entry-word t 4 x) in
        ap (λ (u : Bool). cond {A = Checked} u (cond {A = Checked} (eqb bad (word events i 3 + word events i 4)) (Ok tt) (Err (i, bad))) (Err (i, nowhere))) (shaped k r)
        ∙ ap (λ (u : Bool). cond {A = Checked} u (Ok tt) (Err (i, bad))) (eq-eqb bad (word events i 3 + word events i 4) all)
