-- An extra is looked for by its key. Assumes nothing.
use Prim.Native.Nat.{ℕ, suc, ◌+◌, ◌-◌, ◌*◌, ◌≤◌, ◌<◌}
use mathlib.Core.Path.{◌≡◌, refl, sym, ap, ◌∙◌}
use mathlib.Core.Bool.{Bool, true, false, cond}
use mathlib.Core.List.{List}
use native.Mathlib.Omega.{arith}
use lib.ListN.{length, take, drop}
use Rattle.text_key.specs.of_names.Names.{same_bytes}
use Rattle.text_key.proofs.of_names.NameLaws.{same_true}
use Rattle.text_key.proofs.of_area.Parts.{rest_part}
use Rattle.read_extra_record.specs.of_tree_record.Record.{text_at}
use Rattle.read_extra_record.specs.of_read_element.inside.Held.{place_at}

-- the extras before i have another key
pub record Placing (own text key : List ℕ) (extras i : ℕ) : Type 0 where
  pub high : i ≤ extras
  pub same : place_at own text key extras 0 ≡ place_at own text key (extras - i) i

pub placing-start : (own text key : List ℕ) (extras : ℕ) → Placing own text key extras 0
placing-start own text key extras = record { high = omega arith; same = let z : extras ≡ extras - 0 = omega arith in ap (λ (n : ℕ). place_at own text key n 0) z }

module _ {own text key : List ℕ} {extras i : ℕ} (s : Placing own text key extras i) where
  turn : i < extras → place_at own text key extras 0 ≡ cond (same_bytes (text_at text (drop (i * 32 + 32) own) 2) key) i (place_at own text key (extras - (i + 1)) (i + 1))
  unfolding place_at
  turn h = let z : extras - i ≡ suc (extras - (i + 1)) = omega arith in s.same ∙ ap (λ (n : ℕ). place_at own text key n i) z

  module _ {r : Bool} (e : r ≡ same_bytes (text_at text (take (length own - (i * 32 + 32)) (drop (i * 32 + 32) own)) 2) key) where
    told : {t : Bool} → r ≡ t → same_bytes (text_at text (drop (i * 32 + 32) own) 2) key ≡ t
    told q = ap (λ (l : List ℕ). same_bytes (text_at text l 2) key) (sym (rest_part own (i * 32 + 32))) ∙ sym e ∙ q

    pub placing-hit : i < extras → r ≡ true → i ≡ place_at own text key extras 0
    placing-hit h q = sym (turn h ∙ ap (λ (t : Bool). cond t i (place_at own text key (extras - (i + 1)) (i + 1))) (told q))

    pub placing-more : i < extras → r ≡ false → Placing own text key extras (i + 1)
    placing-more h q = record { high = omega arith; same = turn h ∙ ap (λ (t : Bool). cond t i (place_at own text key (extras - (i + 1)) (i + 1))) (told q) }

  pub placing-done : extras ≤ i → extras ≡ place_at own text key extras 0
  unfolding place_at
  placing-done h = let h' = s.high in let z : extras - i ≡ 0 = omega arith in let y : i ≡ extras = omega arith in sym y ∙ sym (s.same ∙ ap (λ (n : ℕ). place_at own text key n i) z)

-- texts of other lengths are other texts
pub other_length : (a b : List ℕ) → (length a ≡ length b → ⊥) → false ≡ same_bytes a b
other_length a b h = go (same_bytes a b) refl
  where
    go : (t : Bool) → same_bytes a b ≡ t → false ≡ t
    go true e = absurd (h (ap length (same_true a b e)))
    go false e = refl
