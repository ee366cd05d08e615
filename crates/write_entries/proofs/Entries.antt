-- The bytes of a text in either form. Assumes nothing.
use Prim.Native.Nat.{ℕ}
use mathlib.Core.Path.{◌≡◌, refl, sym, ap, ◌∙◌}
use mathlib.Core.List.{List, [], ◌++◌, append-nil}
use mathlib.Core.Bool.{Bool, true, false, cond}
use lib.Dec.{eqb}
use Rattle.write_marks.specs.of_write_table.inside.Forms.{behind, behind_entry}

-- nothing stands behind it
pub text-alone : (form : ℕ) (s : List ℕ) → s ≡ s ++ behind form 3
unfolding behind_entry
text-alone form s = sym (append-nil s) ∙ ap (λ (l : List ℕ). s ++ l) (go (eqb form 0))
  where
    go : (b : Bool) → [] ≡ cond b [] (behind_entry 3)
    go true = refl
    go false = refl
