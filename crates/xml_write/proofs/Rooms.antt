-- Room for a record is below the limit. Assumes nothing.
use Prim.Native.Nat.{ℕ, ◌/◌, ◌<◌}
use mathlib.Core.Path.{◌≡◌, refl}
use mathlib.Core.Bool.{Bool, true, false, ◌&&◌}
use native.Mathlib.Omega.{arith}
use borrow.Author.Tests.{ltb-true}
use lib.Dec.{ltb}
use Rattle.xml_checks.specs.of_area.Limits.{most_entries}
use Rattle.xml_checks.specs.of_xml_state.inside.Puts.{room_for}

pub room_small : (n words : ℕ) → room_for n words ≡ true → n < 65536
unfolding room_for
room_small n words h = by (ltb n most_entries) refl h
  where
    by : (y : Bool) → ltb n most_entries ≡ y → (y && ltb n (words / 5)) ≡ true → n < 65536
    by true g h = ltb-true n most_entries g
    by false g h = let z : ◌≡◌ {A = ℕ} 0 1 = cc in absurd (omega arith)
