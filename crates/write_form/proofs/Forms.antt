-- The form and the level behind an entry, by its kind. Assumes nothing.
use Prim.Native.Nat.{ℕ, ◌+◌, ◌-◌}
use mathlib.Core.Path.{◌≡◌, refl, sym, ap}
use mathlib.Core.Bool.{Bool, true, false, ◌||◌}
use borrow.Author.Tests.{ne_eqb}
use lib.Dec.{eqb}
use Rattle.write_table.specs.inside.Forms.{is_text, form_behind, level_behind}

module _ (form k : ℕ) where
  -- the form behind an entry
  pub form-open : (eqb k 0 || eqb k 2) ≡ true → 2 ≡ form_behind form k
  unfolding form_behind
  form-open h = rw h refl

  pub form-empty : k ≡ 1 → 1 ≡ form_behind form k
  unfolding form_behind
  form-empty h = sym (ap (form_behind form) h)

  pub form-other : k ≡ 6 → 3 ≡ form_behind form k
  unfolding form_behind
  form-other h = sym (ap (form_behind form) h)

  module _ (h : (eqb k 0 || eqb k 2) ≡ false) (h1 : k ≡ 1 → ⊥) (h6 : k ≡ 6 → ⊥) (b : Bool) (e : b ≡ is_text k) where
    pub form-free : (b || eqb k 9) ≡ true → 4 ≡ form_behind form k
    unfolding form_behind
    form-free t = rw (h, ne_eqb k 1 h1, ne_eqb k 6 h6, sym e, t) refl

    pub form-same : (b || eqb k 9) ≡ false → form ≡ form_behind form k
    unfolding form_behind
    form-same t = rw (h, ne_eqb k 1 h1, ne_eqb k 6 h6, sym e, t) refl

module _ (level k : ℕ) where
  pub level-up : k ≡ 0 → level + 1 ≡ level_behind level k
  unfolding level_behind
  level-up h = sym (ap (level_behind level) h)

  pub level-down : k ≡ 2 → level - 1 ≡ level_behind level k
  unfolding level_behind
  level-down h = sym (ap (level_behind level) h)

  pub level-same : (k ≡ 0 → ⊥) → (k ≡ 2 → ⊥) → level ≡ level_behind level k
  unfolding level_behind
  level-same h h2 = rw (ne_eqb k 0 h, ne_eqb k 2 h2) refl
