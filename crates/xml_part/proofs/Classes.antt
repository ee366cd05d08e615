-- A class in two halves. Assumes nothing.
use Prim.Native.Nat.{ℕ}
use mathlib.Core.Path.{◌≡◌, refl, sym, ap, ◌∙◌}
use mathlib.Core.List.{List, [], ◌∷◌, ◌++◌}
use mathlib.Core.Bool.{Bool, ◌||◌, or_assoc}
use Rattle.xml_checks.specs.of_xml_chars.Chars.{Range, to, crosses, meets}

pub meets-append : (xs ys : List Range) (low high : ℕ) → meets (xs ++ ys) low high ≡ meets xs low high || meets ys low high
meets-append [] ys low high = refl
meets-append (to a z ∷ xs) ys low high =
    ap (λ (t : Bool). crosses a z low high || t) (meets-append xs ys low high) ∙ sym (or_assoc (crosses a z low high) (meets xs low high) (meets ys low high))
