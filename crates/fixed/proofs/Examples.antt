-- Fields, computed. Assumes nothing.
use mathlib.Core.Path.{◌≡◌, refl}
use mathlib.Core.List.{[], ◌∷◌}
use mathlib.Core.Bool.{true, false}
use Rattle.std.specs.Prelude.{Some, None}
use Rattle.digits.specs.Digits.{digit, is_number, number_in}
use Rattle.fixed.specs.Fields.{part, all}

-- a part that goes past the end, and one behind it
parts : (part 1 2 (7 ∷ 8 ∷ 9 ∷ 10 ∷ []) ≡ 8 ∷ 9 ∷ []) × (part 1 4 (7 ∷ 8 ∷ []) ≡ 8 ∷ []) × (part 5 1 (7 ∷ 8 ∷ []) ≡ [])
parts = (refl, refl, refl)

-- `59`, `60`, `5:`
fields : (number_in 10 59 (0x35 ∷ 0x39 ∷ []) ≡ Some 59)
    × (number_in 10 59 (0x36 ∷ 0x30 ∷ []) ≡ None) × (number_in 10 59 (0x35 ∷ 0x3A ∷ []) ≡ None)
unfolding number_in is_number digit
fields = (refl, refl, refl)

every : (all (true ∷ true ∷ []) ≡ true) × (all (true ∷ false ∷ []) ≡ false) × (all [] ≡ true)
every = (refl, refl, refl)
