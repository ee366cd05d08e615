-- A byte's test for ASCII, as the code makes it. Assumes nothing.
use Prim.Native.Nat.{ℕ}
use mathlib.Core.Bool.{Bool, true, false, not, ◌&&◌}
use mathlib.Core.List.{List, ◌∷◌}
use mathlib.Core.Path.{◌≡◌, refl, ap}
use borrow.Author.Tests.{leb-true, leb-false, lt-ltb, le-ltb}
use lib.Dec.{ltb, leb}
use Rattle.utf8.specs.inside.Ascii.{ascii}

pub ascii-next : (b : ℕ) (t : List ℕ) → ascii (b ∷ t) ≡ (not (leb 0x80 b) && ascii t)
ascii-next b t = ap (λ (u : Bool). u && ascii t) (go (leb 0x80 b) refl)
  where
    go : (u : Bool) → leb 0x80 b ≡ u → ltb b 0x80 ≡ not u
    go true e = le-ltb b 0x80 (leb-true 0x80 b e)
    go false e = lt-ltb b 0x80 (leb-false 0x80 b e)
