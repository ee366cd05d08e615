-- The extra with a key, among an element's extras. Assumes nothing.
use Prim.Native.Nat.{ℕ, suc, ◌+◌}
use mathlib.Core.Bool.{Bool, true, false, cond}
use mathlib.Core.List.{List, [], ◌∷◌, ◌++◌, map, append_assoc}
use mathlib.Core.Path.{◌≡◌, refl, sym, ap, subst, ◌∙◌}
use native.Mathlib.Omega.{arith}
use borrow.Author.Tests.{lt-ltb, le-ltb}
use lib.Dec.{ltb}
use lib.ListN.{length, length-map}
use Rattle.tree_placed.specs.of_names.Names.{same_bytes}
use Rattle.tree_placed.specs.of_tree_report.Report.{Text, Pair}
use Rattle.tree_placed.specs.of_tree_report.inside.Cells.{Row, pair_row_of}
use Rattle.tree_placed.specs.inside.Placed.{Placed, rows_in}
use Rattle.build_draft.specs.declared.Builder.{Builder}
use Rattle.build_draft.specs.Parts.{key_place}
use Rattle.build_report.specs.Builders.{has_key}
use Rattle.build_report.proofs.AreasRuns.{place_in}
use Rattle.build_report.proofs.Holding.{Holding}
use Rattle.build_report.proofs.Reading.{Keyed, none, key, key-held}
use Rattle.build_report.proofs.Storing.{divide}
use Rattle.build_report.proofs.Keys.{key_index, index-new, index_old}

keyed : (κ : ℕ) (ps : List Placed) (xs : List Pair) → rows_in ps ≡ map (pair_row_of κ) xs → Keyed ps (map (λ (x : Pair). x.key) xs)
keyed κ [] [] e = none
keyed κ [] (x ∷ xs) e = let z : ◌≡◌ {A = ℕ} 0 1 = cc in absurd (omega arith)
keyed κ (p ∷ ps) [] e = let z : ◌≡◌ {A = ℕ} 0 1 = cc in absurd (omega arith)
keyed κ (p ∷ ps) (x ∷ xs) e =
    let h : p.row ≡ pair_row_of κ x = cc in
    let t : rows_in ps ≡ map (pair_row_of κ) xs = cc in
    key (ap (λ (r : Row). r.first) h) (keyed κ ps xs t)

index_is : (s : Text) (xs : List Pair) → place_in s (map (λ (x : Pair). x.key) xs) ≡ key_index s xs
index_is s [] = refl
index_is s (x ∷ xs) =
    let i : place_in s (map (λ (x : Pair). x.key) xs) ≡ key_index s xs = index_is s xs in
    let j : suc (place_in s (map (λ (x : Pair). x.key) xs)) ≡ key_index s xs + 1 = omega arith in
    ap (λ (n : ℕ). cond (same_bytes x.key s) 0 n) j

-- the first that has the key, or the place behind them
pub key-among : {b : Builder} {words text texts : List ℕ} {ps : List Placed} (κ : ℕ) (front : List Row) (xs : List Pair) (back : List Row) (s : Text) → Holding b words text ps texts
    → rows_in ps ≡ (front ++ map (pair_row_of κ) xs) ++ back → key_place text words s (length front) (length xs) ≡ length front + key_index s xs
key-among {b} {words} {text} {texts} {ps} κ front xs back s h e =
    let d = divide ps front (map (pair_row_of κ) xs ++ back) (e ∙ append_assoc front (map (pair_row_of κ) xs) back) in
    let c = divide d.behind (map (pair_row_of κ) xs) back d.back-rows in
    let i : length d.before ≡ length front = sym (length-map d.before (λ (p : Placed). p.row)) ∙ ap length d.front-rows in
    let j : length c.before ≡ length xs = sym (length-map c.before (λ (p : Placed). p.row)) ∙ ap length c.front-rows ∙ length-map xs (pair_row_of κ) in
    let g : Holding b words text (d.before ++ (c.before ++ c.behind)) texts =
    subst (λ (l : List Placed). Holding b words text l texts) (d.whole ∙ ap (λ (l : List Placed). d.before ++ l) c.whole) h in
    key-held d.before c.before c.behind i j (keyed κ c.before xs c.front-rows) g s ∙ ap (λ (n : ℕ). length front + n) (index_is s xs)

-- whether that is before what stands behind them
pub known-test : (n : ℕ) (s : Text) (xs : List Pair) → ltb (n + key_index s xs) (n + length xs) ≡ has_key s xs
known-test n s xs = go (has_key s xs) refl
  where
    go : (t : Bool) → has_key s xs ≡ t → ltb (n + key_index s xs) (n + length xs) ≡ t
    go true e = let l = index_old s xs e in lt-ltb (n + key_index s xs) (n + length xs) (omega arith)
    go false e = let l = index-new s xs e in le-ltb (n + key_index s xs) (n + length xs) (omega arith)
