-- The attribute whose key is `name` is looked for, one attribute after the other. Assumes nothing.
use Prim.Native.Nat.{ℕ, zero, suc, ◌+◌, ◌-◌, ◌*◌, ◌/◌, ◌≤◌, ◌<◌}
use mathlib.Core.Path.{◌≡◌, refl, sym, ap, ◌∙◌}
use mathlib.Core.List.{List}
use mathlib.Core.Bool.{Bool, true, false, cond}
use native.Mathlib.Omega.{arith}
use lib.ListN.{length, get_or, take, drop}
use Rattle.table_events.specs.of_names.Bytes.{bytes}
use Rattle.table_events.specs.of_names.Names.{same_bytes}
use Rattle.table_events.specs.of_table.Event.{part, key_at}
use Rattle.explain_lines.proofs.Attributes.{lent-part, no_part}
use Rattle.explain_name.specs.inside.Found.{named_from}

module _ (attributes source : List ℕ) where
  -- what the code finds of a key
  pub lent_key : (j : ℕ) {r t : Bool}
      → r ≡ same_bytes (part source (get_or (take (length attributes - j * 5) (drop (j * 5) attributes)) 1 0) (get_or (take (length attributes - j * 5) (drop (j * 5) attributes)) 2 0)) (bytes "name")
      → r ≡ t → same_bytes (key_at attributes source j) (bytes "name") ≡ t
  lent_key j p q = ap (λ (l : List ℕ). same_bytes l (bytes "name")) (sym (lent-part attributes source j 1 2)) ∙ sym p ∙ q

  not_named : (j : ℕ) → length attributes / 5 < j → same_bytes (key_at attributes source j) (bytes "name") ≡ false
  unfolding same_bytes
  not_named j h = rw (no_part attributes source j 1 2 h) refl

  none-past : (n j : ℕ) → length attributes / 5 < j → named_from attributes source n j ≡ j + n
  unfolding named_from
  none-past zero j h = omega arith
  none-past (suc n) j h =
      ap (λ (t : Bool). cond t j (named_from attributes source n (j + 1))) (not_named j h)
      ∙ none-past n (j + 1) (omega arith) ∙ omega arith

  -- the attributes from `first` to before j have other keys
  pub record Hunting (first end j : ℕ) : Type 0 where
    pub left : named_from attributes source (end - j) j ≡ named_from attributes source (end - first) first

  pub hunting-start : (first end : ℕ) → Hunting first end first
  hunting-start first end = record { left = refl }

  module _ {first end j : ℕ} (g : Hunting first end j) where
    pub hunting-done : end ≤ j → j ≡ named_from attributes source (end - first) first
    unfolding named_from
    hunting-done h =
        let z : 0 ≡ end - j = omega arith in
        ap (λ (n : ℕ). named_from attributes source n j) z ∙ g.left

    module _ (h : j < end) where
      pub hunting-past : length attributes / 5 < j → end ≡ named_from attributes source (end - first) first
      hunting-past l =
          let z : end ≡ j + (end - j) = omega arith in
          z ∙ sym (none-past (end - j) j l) ∙ g.left

      next : cond (same_bytes (key_at attributes source j) (bytes "name")) j (named_from attributes source (end - (j + 1)) (j + 1)) ≡ named_from attributes source (end - first) first
      unfolding named_from
      next =
          let z : suc (end - (j + 1)) ≡ end - j = omega arith in
          ap (λ (n : ℕ). named_from attributes source n j) z ∙ g.left

      pub hunting-hit : same_bytes (key_at attributes source j) (bytes "name") ≡ true → j ≡ named_from attributes source (end - first) first
      hunting-hit e = sym (ap (λ (t : Bool). cond t j (named_from attributes source (end - (j + 1)) (j + 1))) e) ∙ next

      pub hunting_miss : same_bytes (key_at attributes source j) (bytes "name") ≡ false → Hunting first end (j + 1)
      hunting_miss e = record { left = sym (ap (λ (t : Bool). cond t j (named_from attributes source (end - (j + 1)) (j + 1))) e) ∙ next }
