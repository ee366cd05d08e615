-- Names as parts of the source: a start tag's name as it grows, an end tag's as it is asked for. Assumes nothing.
use Prim.Native.Nat.{ℕ, ◌+◌, ◌-◌, ◌≤◌, ◌<◌}
use mathlib.Core.Path.{◌≡◌, refl, sym, ap, ◌∙◌}
use mathlib.Core.List.{List, [], ◌∷◌, ◌++◌}
use native.Mathlib.Omega.{arith}
use native.Mathlib.Numerals.{add-one}
use lib.ListN.{length, get_or, take, drop, length-take, length-drop}
use lib.Seq.{take-suc, drop-cons, get_or-drop, get_or-take}
use Rattle.xml_rep.specs.inside.Rep.{Growing}

-- the name that the bytes before `at` end with, and one more
name-more : (src : List ℕ) (mark size at : ℕ) → mark + size ≡ at → at < length src → take size (drop mark src) ++ (get_or src at 0 ∷ []) ≡ take (size + 1) (drop mark src)
name-more src mark size at e h =
    let i : size < length (drop mark src) = omega (arith, length-drop mark src) in
    rw (add-one, take-suc (drop mark src) size 0 i, get_or-drop mark src size 0, e)

pub grows : (src n : List ℕ) (mark at : ℕ) → at < length src → Growing src n mark at → Growing src (n ++ (get_or src at 0 ∷ [])) mark (at + 1)
grows src n mark at h g =
    let e : at + 1 - mark ≡ at - mark + 1 = omega (arith, g.0) in
    (omega (arith, g.0), omega arith, rw e (ap (λ (z : List ℕ). z ++ (get_or src at 0 ∷ [])) g.2 ∙ name-more src mark (at - mark) at (omega (arith, g.0)) h))

pub first_byte : (src : List ℕ) (at : ℕ) → at < length src → Growing src (get_or src at 0 ∷ []) at (at + 1)
first_byte src at h = let e : at + 1 - at ≡ 1 = omega arith in (omega arith, omega arith, rw (e, drop-cons src at 0 h) refl)

-- an end tag's bytes to come: none, or the first
module _ (src : List ℕ) (name long size : ℕ) (inside : name + long ≤ length src) where
  long-is : length (take long (drop name src)) ≡ long
  long-is = simp (length-take, length-drop) (omega arith)

  pub none_left : [] ≡ drop size (take long (drop name src)) → long ≤ size
  none_left e = omega (arith, simp length-drop at (ap length e), long-is)

  pub some_left : (c : ℕ) (rest : List ℕ) → c ∷ rest ≡ drop size (take long (drop name src)) → (size < long) × (get_or src (name + size) 0 ≡ c) × (rest ≡ drop (size + 1) (take long (drop name src)))
  some_left c rest e =
      let h : size < long = omega (arith, simp length-drop at (ap length e), long-is) in
      let h' : size < length (take long (drop name src)) = omega (arith, long-is) in
      let d = e ∙ drop-cons (take long (drop name src)) size 0 h' in
      (h, sym (get_or-drop name src size 0) ∙ sym (get_or-take long (drop name src) size 0 h) ∙ sym (first c rest d), rw add-one (second c rest d))
    where
      first : (x : ℕ) (l : List ℕ) {y : ℕ} {k : List ℕ} → x ∷ l ≡ y ∷ k → x ≡ y
      first x l p = cc

      second : (x : ℕ) (l : List ℕ) {y : ℕ} {k : List ℕ} → x ∷ l ≡ y ∷ k → l ≡ k
      second x l p = cc
