-- Tests that fail. Assumes nothing.
use mathlib.Core.Path.{◌≡◌, refl}
use mathlib.Core.Bool.{Bool, true, false, not, ◌||◌, false≢true, true≢false}

pub or-false : (x y : Bool) → (x || y) ≡ false → (x ≡ false) × (y ≡ false)
or-false true y e = absurd (true≢false e)
or-false false y e = (refl, e)

pub not-true : (x : Bool) → not x ≡ true → x ≡ false
not-true true e = absurd (false≢true e)
not-true false e = refl
