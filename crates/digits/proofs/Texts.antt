-- Digits are UTF-8. Assumes nothing.
use Prim.Native.Nat.{ℕ}
use mathlib.Core.Path.{◌≡◌, refl, sym, ap, ◌∙◌}
use mathlib.Core.List.{List, [], ◌∷◌, ◌++◌, append-nil}
use mathlib.Core.Bool.{true, and-eq-true_iff}
use Rattle.utf8.specs.Utf8.{utf8}
use Rattle.utf8.proofs.Rules.{ascii-on}
use Rattle.digits.specs.Digits.{is_digit, all_digits}
use Rattle.digits.proofs.Ascii.{digit-ascii}

module _ (base : ℕ) where
  -- digits in front of a text change nothing about its being UTF-8
  pub digits_append : (s t : List ℕ) → all_digits base s ≡ true → utf8 (s ++ t) ≡ utf8 t
  digits_append [] t e = refl
  digits_append (b ∷ s) t e =
      let p = (and-eq-true_iff (is_digit base b) (all_digits base s)).0 e in ascii-on b (s ++ t) (digit-ascii base b p.0) ∙ digits_append s t p.1

  -- a text of digits is UTF-8
  pub digits_utf8 : (s : List ℕ) → all_digits base s ≡ true → utf8 s ≡ true
  digits_utf8 s e = sym (ap utf8 (append-nil s)) ∙ digits_append s [] e
