-- The ends of a text. Assumes nothing.
use Prim.Native.Nat.{ℕ, ◌≤◌, ◌<◌}
use mathlib.Core.Bool.{Bool, true, false, not, ◌&&◌, ◌||◌}
use mathlib.Core.List.{List}
use mathlib.Core.Path.{◌≡◌, refl}
use native.Mathlib.Omega.{arith}
use borrow.Author.Tests.{ne_eqb, lt-ltb, le-ltb}
use lib.Dec.{eqb}
use lib.ListN.{length, get_or}
use Rattle.tree_report.specs.of_utf8.Characters.{boundary}
use Rattle.tree_report.specs.of_utf8.Utf8.{within}

module _ (s : List ℕ) (i : ℕ) where
  pub boundary-behind : length s ≤ i → eqb i (length s) ≡ boundary s i
  boundary-behind h = rw (le-ltb i (length s) h) (go (eqb i (length s)))
    where
      go : (t : Bool) → t ≡ (t || (false && not (within 0x80 0xBF (get_or s i 0))))
      go true = refl
      go false = refl

  pub boundary-before : i < length s → not (within 0x80 0xBF (get_or s i 0)) ≡ boundary s i
  boundary-before h = rw (lt-ltb i (length s) h, ne_eqb i (length s) (λ e. omega arith)) refl
