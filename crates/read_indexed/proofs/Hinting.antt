-- What the words behind the records tell of an attribute's extra. Assumes nothing.
use Prim.Native.Nat.{ℕ, ◌+◌, ◌-◌, ◌≤◌, ◌<◌}
use mathlib.Core.Path.{◌≡◌, sym, ap, subst, ◌∙◌}
use mathlib.Core.Bool.{true}
use mathlib.Core.List.{List}
use native.Mathlib.Omega.{arith}
use lib.ListN.{length, get_or, take, drop}
use Rattle.read_places.proofs.of_area.Parts.{rest_part}
use Rattle.read_places.specs.of_names.Names.{same_bytes}
use Rattle.read_places.specs.of_text.Value.{value_text}
use Rattle.read_places.specs.of_table.Event.{key_at}
use Rattle.read_places.specs.of_read_element.inside.Held.{place_at}
use Rattle.read_places.specs.of_read_marks.inside.Marks.{stored_for, New}
use Rattle.read_places.specs.inside.Stands.{stored_key}
use Rattle.read_places.specs.inside.Told.{Told}

module _ {attributes source : List ℕ} {first j k extras : ℕ} {own text : List ℕ} (t : Told attributes source first j k extras own text) where
  pub told-new : {w : ℕ} → first ≤ j → w ≡ get_or (take (length own - k) (drop k own)) (j - first) 0 → w ≡ 1 → place_at (take k own) text (stored_for attributes source j) extras 0 ≡ extras
  told-new h e f =
      let z : first + (j - first) ≡ j = omega arith in
      t.new (subst (λ (n : ℕ). New attributes source first n) z
      (t.marks (j - first) (ap (λ (l : List ℕ). get_or l (j - first) 0) (sym (rest_part own k)) ∙ sym e ∙ f)))

  pub told-place : {i : ℕ} {key : List ℕ} → key ≡ key_at attributes source j → i < extras → same_bytes (stored_key (take k own) text i) (value_text key) ≡ true
      → place_at (take k own) text (stored_for attributes source j) extras 0 ≡ i
  told-place {i} e h s = t.place (stored_for attributes source j) i h (ap (λ (l : List ℕ). same_bytes (stored_key (take k own) text i) (value_text l)) (sym e) ∙ s)
