-- Where the parts that were found lie. Assumes nothing.
use Prim.Native.Nat.{ℕ, ◌+◌, ◌≤◌}
use mathlib.Core.Path.{◌≡◌}
use mathlib.Core.List.{List}
use lib.ListN.{length}
use Rattle.program_input.specs.of_list_input.Input.{parts_in, Lies}
use Rattle.program_input.proofs.of_list_input.Inputs.{found-lies}
use Rattle.std.specs.Prelude.{Option, Some}
use Rattle.program_input.specs.of_list_input.declared.Parts.{Parts}

-- the areas have the lengths that they had
pub parts-lie : (found : Option Parts) (x : Parts) → found ≡ Some x → (m m' n n' : ℕ) (s : List ℕ) → m' ≡ m → n' ≡ n → found ≡ parts_in m n s →
    (x.events ≤ m') × ((x.attributes ≤ n') × (x.at + x.source ≤ length s))
parts-lie found x e m m' n n' s p q f = let h : Lies (Some x) m' n' (length s) = rw e at (found-lies found m m' n n' s f p q) in (h.0, (h.1, h.3))
