-- An area of whole records, one behind the other, and zeros: what a store into one of them makes of it. Assumes nothing.
use Prim.Native.Nat.{ℕ, ◌+◌, ◌-◌, ◌*◌, ◌≤◌}
use mathlib.Core.List.{List, [], ◌∷◌, ◌++◌, append_assoc}
use mathlib.Core.Path.{◌≡◌, refl, sym, ap, ap₂, ◌∙◌}
use native.Mathlib.Omega.{arith}
use lib.ListN.{length, take, drop, length-append, length-replicate}
use lib.Seq.{take_at, drop_at}
use Rattle.tree_placed.specs.of_area.Area.{zeros, laid}
use Rattle.tree_placed.proofs.of_area.Laying.{laid-zeros, length-laid}
use Rattle.tree_placed.specs.of_utf8.Characters.{joined}
use Rattle.tree_placed.proofs.of_tree_report.EncodeLists.{Each, done, more, each_append}
use Rattle.build_draft.specs.Draft.{on_record_of}

-- records of 32 words
abbrev pub Sized : List (List ℕ) → Type 0
Sized rs = Each (λ (r : List ℕ). length r ≡ 32) rs

pub sized-length : {rs : List (List ℕ)} → Sized rs → length (joined rs) ≡ length rs * 32
sized-length done = refl
sized-length (more {x = r} {xs = rs} h hs) =
    let n = sized-length hs in
    length-append r (joined rs) ∙ omega arith

pub sized-front : (front rs : List (List ℕ)) → Sized (front ++ rs) → Sized front
sized-front [] rs h = done
sized-front (x ∷ front) rs (more h hs) = more h (sized-front front rs hs)

pub sized-back : (front rs : List (List ℕ)) → Sized (front ++ rs) → Sized rs
sized-back [] rs h = h
sized-back (x ∷ front) rs (more h hs) = sized-back front rs hs

pub sized-first : {x : List ℕ} {rs : List (List ℕ)} → Sized (x ∷ rs) → length x ≡ 32
sized-first (more h hs) = h

pub sized-rest : {x : List ℕ} {rs : List (List ℕ)} → Sized (x ∷ rs) → Sized rs
sized-rest (more h hs) = hs

-- a record of 32 words in place of another
pub sized-other : (front : List (List ℕ)) (x : List ℕ) (back : List (List ℕ)) → Sized (front ++ (x ∷ back)) → (y : List ℕ) → length y ≡ 32 → Sized (front ++ (y ∷ back))
sized-other front x back s y h = each_append (sized-front front (x ∷ back) s) (more h (sized-rest (sized-back front (x ∷ back) s)))

pub joined-append : (xs ys : List (List ℕ)) → joined (xs ++ ys) ≡ joined xs ++ joined ys
joined-append [] ys = refl
joined-append (x ∷ xs) ys = ap (λ (l : List ℕ). x ++ l) (joined-append xs ys) ∙ sym (append_assoc x (joined xs) (joined ys))

-- the area, as the records and the zeros behind them
pub area-is : (n : ℕ) {rs : List (List ℕ)} → Sized rs → length rs * 32 ≤ n → laid (zeros n) (joined rs) ≡ joined rs ++ zeros (n - length rs * 32)
area-is n {rs} h l =
    let e = sized-length h in
    laid-zeros n (joined rs) (omega arith) ∙ ap (λ (k : ℕ). joined rs ++ zeros (n - k)) e

pub area-length : (n : ℕ) (f : List ℕ) → length (laid (zeros n) f) ≡ n
area-length n f = length-laid (zeros n) f ∙ length-replicate {A = ℕ} n 0

-- the zeros behind so many records
abbrev pub behind : ℕ → List (List ℕ) → List ℕ
behind n rs = zeros (n - length rs * 32)

-- ---- a record in an area
module _ (front : List (List ℕ)) {i : ℕ} (at : length front ≡ i) (sized : Sized front) (w : List ℕ) where
  front_length : length (joined front) ≡ i * 32
  front_length = sized-length sized ∙ ap (λ (k : ℕ). k * 32) at

  take-front : take (i * 32) (joined front ++ w) ≡ joined front
  take-front = take_at (joined front) w (i * 32) front_length

  drop-front : drop (i * 32) (joined front ++ w) ≡ w
  drop-front = drop_at (joined front) w (i * 32) front_length

-- the records before some, these, and the zeros
pub split-area : (n : ℕ) (front rs : List (List ℕ)) → Sized (front ++ rs) → length (front ++ rs) * 32 ≤ n
    → laid (zeros n) (joined (front ++ rs)) ≡ joined front ++ (joined rs ++ behind n (front ++ rs))
split-area n front rs h l =
    area-is n h l ∙ ap (λ (k : List ℕ). k ++ behind n (front ++ rs)) (joined-append front rs) ∙ append_assoc (joined front) (joined rs) (behind n (front ++ rs))

-- as many records in place of others
pub as_many : (front rs qs : List (List ℕ)) → length rs ≡ length qs → length (front ++ rs) ≡ length (front ++ qs)
as_many front rs qs e =
    let a : length (front ++ rs) ≡ length front + length rs = length-append front rs in
    let b : length (front ++ qs) ≡ length front + length qs = length-append front qs in
    omega arith

-- records from number i on that become as many others
pub on-records : (n : ℕ) (front rs qs : List (List ℕ)) {i : ℕ} → length front ≡ i → Sized (front ++ rs) → Sized (front ++ qs) → length rs ≡ length qs → length (front ++ rs) * 32 ≤ n
    → (g : List ℕ → List ℕ) → ((z : List ℕ) → g (joined rs ++ z) ≡ joined qs ++ z) → on_record_of i g (laid (zeros n) (joined (front ++ rs))) ≡ laid (zeros n) (joined (front ++ qs))
on-records n front rs qs {i} at s t e l g h =
    let w : List ℕ = joined rs ++ behind n (front ++ rs) in
    let f : Sized front = sized-front front rs s in
    let c : length (front ++ rs) ≡ length (front ++ qs) = as_many front rs qs e in
    ap (on_record_of i g) (split-area n front rs s l)
    ∙ ap₂ (λ (a b : List ℕ). a ++ g b) (take-front front at f w) (drop-front front at f w)
    ∙ ap (λ (a : List ℕ). joined front ++ a) (h (behind n (front ++ rs)) ∙ ap (λ (k : ℕ). joined qs ++ zeros (n - k * 32)) c)
    ∙ sym (split-area n front qs t (omega arith))

module _ (n : ℕ) (front : List (List ℕ)) (x : List ℕ) (back : List (List ℕ)) {i : ℕ} (at : length front ≡ i)
    (sized : Sized (front ++ (x ∷ back))) (room : length (front ++ (x ∷ back)) * 32 ≤ n) where
  -- the record and what stands behind it
  pub drop-record : drop (i * 32) (laid (zeros n) (joined (front ++ (x ∷ back)))) ≡ x ++ (joined back ++ behind n (front ++ (x ∷ back)))
  drop-record =
      ap (drop (i * 32)) (split-area n front (x ∷ back) sized room)
      ∙ drop-front front at (sized-front front (x ∷ back) sized) ((x ++ joined back) ++ behind n (front ++ (x ∷ back)))
      ∙ append_assoc x (joined back) (behind n (front ++ (x ∷ back)))

  -- a store that touches its words alone
  pub on_record : (y : List ℕ) → length y ≡ 32 → (g : List ℕ → List ℕ) → ((z : List ℕ) → g (x ++ z) ≡ y ++ z)
      → on_record_of i g (laid (zeros n) (joined (front ++ (x ∷ back)))) ≡ laid (zeros n) (joined (front ++ (y ∷ back)))
  on_record y t g h =
      on-records n front (x ∷ back) (y ∷ back) at sized (sized-other front x back sized y t) refl room g
      (λ z. ap g (append_assoc x (joined back) z) ∙ h (joined back ++ z) ∙ sym (append_assoc y (joined back) z))
