-- `DOCTYPE` at a place. Assumes nothing.
use Prim.Native.Nat.{ℕ, ◌-◌, ◌≤◌, ◌<◌}
use native.Mathlib.Omega.{arith}
use mathlib.Core.Path.{◌≡◌, refl, sym, ap, ◌∙◌}
use mathlib.Core.List.{List, [], ◌∷◌}
use mathlib.Core.Bool.{Bool, false, ◌&&◌}
use lib.Dec.{eqb}
use lib.ListN.{length, take, drop, length-drop, drop_of_length-le}
use lib.Pointwise.{pointwise}
use lib.Seq.{take_all}
use Rattle.xml_put.specs.of_names.Bytes.{bytes}
use Rattle.xml_put.specs.of_xml_chars.Chars.{begins}

begins-starts : (x s : List ℕ) → pointwise eqb x (take (length x) s) ≡ begins x s
begins-starts [] s = refl
begins-starts (a ∷ x) [] = refl
begins-starts (a ∷ x) (b ∷ s) = ap (λ (t : Bool). eqb a b && t) (begins-starts x s)

pub no-doctype : (s : List ℕ) (at : ℕ) → length s < at → false ≡ begins (bytes "DOCTYPE") (drop at s)
no-doctype s at h = sym (ap (begins (bytes "DOCTYPE")) (drop_of_length-le s (let l : length s ≤ at = omega arith in l)))

pub doctype : (s : List ℕ) (at : ℕ) → pointwise eqb (bytes "DOCTYPE") (take 7 (take (length s - at) (drop at s))) ≡ begins (bytes "DOCTYPE") (drop at s)
doctype s at =
    let l : length s - at ≤ length s - at = omega arith in
    ap (λ (w : List ℕ). pointwise eqb (bytes "DOCTYPE") (take 7 w)) (take_all (length s - at) (drop at s) (rw (length-drop at s) l))
    ∙ begins-starts (bytes "DOCTYPE") (drop at s)
