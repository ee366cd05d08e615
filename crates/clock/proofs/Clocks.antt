-- Clocks, from their fields. Assumes nothing.
use Prim.Native.Nat.{ℕ}
use mathlib.Core.Path.{◌≡◌, sym, ◌∙◌}
use mathlib.Core.Bool.{Bool, true, false, ◌&&◌, ◌||◌, and_assoc, and-true}
use mathlib.Core.List.{List}
use lib.Dec.{eqb}
use lib.ListN.{get_or}
use Rattle.std.specs.Prelude.{Some, None}
use Rattle.fixed.specs.of_digits.Digits.{number_in}
use Rattle.fixed.specs.Fields.{part, all}
use Rattle.fixed.proofs.of_digits.Numbers.{is-number}
use Rattle.fixed.proofs.Tests.{fails}
use Rattle.clock.specs.Clock.{clock_tests}
use Rattle.clock.specs.inside.Leaves.{clock_of}

module _ (s : List ℕ) where
  pub no_clock : all (clock_tests s) ≡ false → None ≡ clock_of s
  unfolding clock_of
  no_clock e = rw e

  -- a test that fails
  pub clock-none : (k : ℕ) → get_or (clock_tests s) k true ≡ false → None ≡ clock_of s
  clock-none k e = no_clock (fails (clock_tests s) k e)

  -- the letter and the colons, between numbers
  module _ (h m x : ℕ) (eh : Some h ≡ number_in 10 23 (part 11 2 s)) (em : Some m ≡ number_in 10 59 (part 14 2 s)) (ex : Some x ≡ number_in 10 59 (part 17 2 s)) where
    abbrev marks : Bool
    marks = (eqb (get_or s 10 0) 0x54 || eqb (get_or s 10 0) 0x74) && eqb (get_or s 13 0) 0x3A && eqb (get_or s 16 0) 0x3A

    clock-tests : marks ≡ all (clock_tests s)
    clock-tests =
        rw ((is-number 10 23 (part 11 2 s) h eh).0, (is-number 10 59 (part 14 2 s) m em).0, (is-number 10 59 (part 17 2 s) x ex).0)
        (simp (and_assoc, and-true))

    pub clock-wrong : marks ≡ false → None ≡ clock_of s
    clock-wrong e = no_clock (sym clock-tests ∙ e)

    pub clock-right : marks ≡ true → Some (h, m, x) ≡ clock_of s
    unfolding clock_of
    clock-right e =
        rw (sym clock-tests ∙ e, (is-number 10 23 (part 11 2 s) h eh).1, (is-number 10 59 (part 14 2 s) m em).1, (is-number 10 59 (part 17 2 s) x ex).1)
