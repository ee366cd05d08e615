-- The tables' rows, each one computed test over all bytes. Assumes nothing.
use Prim.Native.Nat.{ℕ, suc, ◌-◌}
use mathlib.Core.List.{List, [], ◌∷◌}
use mathlib.Core.Bool.{Bool, true, false}
use lib.Dec.{T, leb, eqb}
use lib.ListN.{get_or}
use Rattle.xml_state.specs.declared.Move.{Move}
use Rattle.xml_state.specs.inside.Tables.{class_rows, next_rows, act_rows, class_table}
use Rattle.xml_state.specs.inside.Rows.{all_rows, char_row}
use Rattle.xml_state.specs.of_xml_chars.Chars.{crosses, lower}
use Rattle.xml_state.specs.of_xml_chars.Bytes.{fits}

abbrev pub both : Bool → Bool → Bool
both true b = b
both false b = false

abbrev pub same : List ℕ → List ℕ → ℕ → Move → Bool
same nexts acts c m = both (eqb (get_or nexts (c - 48) 0) m.mode) (eqb (get_or acts (c - 48) 0) m.act)

-- every byte from b on, by its class
abbrev pub bytes_fit : (ℕ → Move) → List ℕ → List ℕ → ℕ → List ℕ → Bool
bytes_fit row nexts acts b [] = true
bytes_fit row nexts acts b (c ∷ cs) = both (same nexts acts c (row b)) (bytes_fit row nexts acts (suc b) cs)

abbrev pub rows_fit_of : List (ℕ → Move) → List (List ℕ) → List (List ℕ) → Bool
rows_fit_of [] [] [] = true
rows_fit_of [] [] (a ∷ ks) = false
rows_fit_of [] (n ∷ ns) ks = false
rows_fit_of (r ∷ rs) [] ks = false
rows_fit_of (r ∷ rs) (n ∷ ns) [] = false
rows_fit_of (r ∷ rs) (n ∷ ns) (a ∷ ks) = both (bytes_fit r n a 0 class_table) (rows_fit_of rs ns ks)

pub fit : T (rows_fit_of all_rows next_rows act_rows)
unfolding all_rows next_rows act_rows class_rows char_row crosses lower fits
fit = tt

-- the classes are counted from 48 on, and there are 36 of them
abbrev pub classes_fit_of : List ℕ → Bool
classes_fit_of [] = true
classes_fit_of (c ∷ cs) = both (both (leb 48 c) (leb c 83)) (classes_fit_of cs)

pub classes_fit : T (classes_fit_of class_table)
unfolding class_rows
classes_fit = tt
