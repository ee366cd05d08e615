-- Several records of an area, one behind the other: the first with a key, and runs turned to the other family. Assumes nothing.
use Prim.Native.Nat.{ℕ, suc, ◌+◌, ◌*◌, ◌≤◌, ◌<◌}
use mathlib.Core.Bool.{Bool, cond, true, false, ◌||◌, false≢true}
use mathlib.Core.List.{List, [], ◌∷◌, ◌++◌, append_assoc, map}
use mathlib.Core.Path.{◌≡◌, refl, sym, ap, ap₂, subst, ◌∙◌}
use native.Mathlib.Omega.{arith}
use lib.ListN.{length, set, length-append, length-set, get_or-append}
use lib.Seq.{set-append_left}
use Rattle.tree_placed.specs.of_area.Area.{zeros, laid}
use Rattle.tree_placed.specs.of_names.Names.{same_bytes}
use Rattle.tree_placed.specs.of_utf8.Characters.{joined}
use Rattle.tree_placed.specs.of_tree_record.Record.{kind_of, text_at}
use Rattle.build_draft.specs.Parts.{key_place, turned_kind, turned, turn_runs}
use Rattle.build_draft.specs.declared.FlakyOrRerun.{FlakyOrRerun}
use Rattle.build_report.proofs.Areas.{Sized, sized-back, sized-first, sized-other, as_many, on_record}
use Rattle.build_report.proofs.AreasMore.{text-here}

-- one record of the second list goes to the end of the first
next-front : {A : Type 0} (front : List A) (x : A) (rs : List A) → (front ++ (x ∷ [])) ++ rs ≡ front ++ (x ∷ rs)
next-front front x rs = append_assoc front (x ∷ []) rs

-- ---- the first with a key
-- the number of the first text that is the key, and how many there are where none is
abbrev pub place_in : List ℕ → List (List ℕ) → ℕ
place_in key [] = 0
place_in key (k ∷ ks) = cond (same_bytes k key) 0 (suc (place_in key ks))

abbrev pub has_in : List ℕ → List (List ℕ) → Bool
has_in key [] = false
has_in key (k ∷ ks) = same_bytes k key || has_in key ks

pub place-in : (key : List ℕ) (ks : List (List ℕ)) → has_in key ks ≡ true → place_in key ks < length ks
place-in key [] e = absurd (false≢true e)
place-in key (k ∷ ks) e = go (same_bytes k key) (place-in key ks) e
  where
    go : (b : Bool) → (has_in key ks ≡ true → place_in key ks < length ks) → (b || has_in key ks) ≡ true → cond b 0 (suc (place_in key ks)) < suc (length ks)
    go true i e = omega arith
    go false i e = let h = i e in omega arith

pub place_none : (key : List ℕ) (ks : List (List ℕ)) → has_in key ks ≡ false → place_in key ks ≡ length ks
place_none key [] e = refl
place_none key (k ∷ ks) e = go (same_bytes k key) (place_none key ks) e
  where
    go : (b : Bool) → (has_in key ks ≡ false → place_in key ks ≡ length ks) → (b || has_in key ks) ≡ false → cond b 0 (suc (place_in key ks)) ≡ suc (length ks)
    go true i e = absurd (false≢true (sym e))
    go false i e = ap suc (i e)

found : (b : Bool) (i p : ℕ) → cond b i (i + 1 + p) ≡ i + cond b 0 (suc p)
found true i p = omega arith
found false i p = omega arith

-- of the records from number i on
pub key-place : (n : ℕ) (text key : List ℕ) (front xs back : List (List ℕ)) {i : ℕ} → length front ≡ i → Sized (front ++ (xs ++ back)) → length (front ++ (xs ++ back)) * 32 ≤ n
    → key_place text (laid (zeros n) (joined (front ++ (xs ++ back)))) key i (length xs) ≡ i + place_in key (map (λ (x : List ℕ). text_at text x 2) xs)
key-place n text key front [] back at s l = omega arith
key-place n text key front (x ∷ xs) back {i} at s l =
    let f : List (List ℕ) = front ++ (x ∷ []) in
    let rest : ℕ = place_in key (map (λ (x : List ℕ). text_at text x 2) xs) in
    let more-at : length f ≡ i + 1 = length-append front (x ∷ []) ∙ ap (λ (k : ℕ). k + 1) at in
    let step : key_place text (laid (zeros n) (joined (front ++ (x ∷ (xs ++ back))))) key (i + 1) (length xs) ≡ i + 1 + rest =
    subst (λ (rs : List (List ℕ)). Sized rs → length rs * 32 ≤ n → key_place text (laid (zeros n) (joined rs)) key (i + 1) (length xs) ≡ i + 1 + rest)
    (next-front front x (xs ++ back)) (key-place n text key f xs back more-at) s l in
    ap₂ (λ (t : List ℕ) (k : ℕ). cond (same_bytes t key) i k) (text-here n front x (xs ++ back) at s l text 2 (omega arith)) step
    ∙ found (same_bytes (text_at text x 2) key) i rest

-- ---- runs turned
turn-front : (f : FlakyOrRerun) (x z : List ℕ) → length x ≡ 32 → turned f (x ++ z) ≡ turned f x ++ z
turn-front f x z h =
    ap (λ (k : ℕ). set (x ++ z) 0 (turned_kind f k)) (get_or-append x z 0 0 (omega arith)) ∙ set-append_left x z 0 (turned_kind f (kind_of x)) (omega arith)

pub turned-runs : (n : ℕ) (f : FlakyOrRerun) (front xs back : List (List ℕ)) {i : ℕ} → length front ≡ i → Sized (front ++ (xs ++ back)) → length (front ++ (xs ++ back)) * 32 ≤ n
    → turn_runs f i (length xs) (laid (zeros n) (joined (front ++ (xs ++ back)))) ≡ laid (zeros n) (joined (front ++ (map (turned f) xs ++ back)))
unfolding turn_runs
turned-runs n f front [] back at s l = refl
turned-runs n f front (x ∷ xs) back {i} at s l =
    let y : List ℕ = turned f x in
    let h : length x ≡ 32 = sized-first (sized-back front (x ∷ (xs ++ back)) s) in
    let t : length y ≡ 32 = length-set x 0 (turned_kind f (kind_of x)) ∙ h in
    let m : length (front ++ (x ∷ (xs ++ back))) ≡ length (front ++ (y ∷ (xs ++ back))) = as_many front (x ∷ (xs ++ back)) (y ∷ (xs ++ back)) refl in
    let more-at : length (front ++ (y ∷ [])) ≡ i + 1 = length-append front (y ∷ []) ∙ ap (λ (k : ℕ). k + 1) at in
    ap (turn_runs f (i + 1) (length xs)) (on_record n front x (xs ++ back) at s l y t (turned f) (λ z. turn-front f x z h))
    ∙ subst (λ (rs : List (List ℕ)). Sized rs → length rs * 32 ≤ n
    → turn_runs f (i + 1) (length xs) (laid (zeros n) (joined rs)) ≡ laid (zeros n) (joined (front ++ (y ∷ (map (turned f) xs ++ back)))))
    (next-front front y (xs ++ back))
    (λ a b. turned-runs n f (front ++ (y ∷ [])) xs back more-at a b ∙ ap (λ (rs : List (List ℕ)). laid (zeros n) (joined rs)) (next-front front y (map (turned f) xs ++ back)))
    (sized-other front x (xs ++ back) s y t) (omega arith)
