-- The same counts in another order give the same sheet, or the same refusal (rule C7). The claim is a type; proofs/AnyOrder.antt has a proof
-- of it. Definitions only.
--
-- It rests on release_sheet (Sheet), which what is printed is a function of (crate sheet_text: Printed).
use Rattle.std.specs.Prelude.{◌≡◌, List, [], ◌∷◌}
use Rattle.tree_counts.specs.declared.Counts.{Counts}
use Rattle.sheet_sums.specs.Sheet.{release_sheet}

-- neighbours change places, once or many times
pub data Reordered : List Counts → List Counts → Type 0 where
  nothing : Reordered [] []
  same : (c : Counts) {cs ds : List Counts} → Reordered cs ds → Reordered (c ∷ cs) (c ∷ ds)
  swapped : (c d : Counts) (cs : List Counts) → Reordered (c ∷ d ∷ cs) (d ∷ c ∷ cs)
  then : {cs ds es : List Counts} → Reordered cs ds → Reordered ds es → Reordered cs es

pub record AnyOrder : Type 0 where
  pub sheet : {cs ds : List Counts} → Reordered cs ds → release_sheet cs ≡ release_sheet ds
