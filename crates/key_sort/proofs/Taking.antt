-- The first numbers of two bytes each. Assumes nothing.
use Prim.Native.Nat.{ℕ, ◌+◌, ◌≤◌}
use native.Mathlib.Omega.{arith}
use mathlib.Core.Path.{◌≡◌, refl, sym, ap, ◌∙◌}
use mathlib.Core.List.{List, [], ◌++◌, append-nil}
use lib.ListN.{length, take, drop, length-drop}
use Rattle.key_sort.specs.inside.Numbers.{numbers_in}
use Rattle.key_sort.proofs.Numbers.{length-numbers, numbers-front, numbers-drop}

none : numbers_in [] ≡ []
unfolding numbers_in
none = refl

pub numbers-take : (s : List ℕ) (i : ℕ) → i ≤ length (numbers_in s) → numbers_in (take (i + i) s) ≡ take i (numbers_in s)
numbers-take s i h =
    ap numbers_in (sym (append-nil (take (i + i) s))) ∙ numbers-front s [] i h ∙ ap (λ (l : List ℕ). take i (numbers_in s) ++ l) none ∙ append-nil (take i (numbers_in s))

-- the first n become those from n on
pub numbers-down : (w w' : List ℕ) (n : ℕ) → n + n ≤ length (numbers_in w) → length w' ≡ length w → take (n + n) w' ≡ take (n + n) (drop (n + n) w)
    → take n (numbers_in w') ≡ take n (drop n (numbers_in w))
numbers-down w w' n h l e =
    let a = length-numbers w in
    let b = length-numbers w' in
    let c = length-numbers (drop (n + n) w) in
    let d = length-drop (n + n) w in
    sym (numbers-take w' n (omega arith)) ∙ ap numbers_in e ∙ numbers-take (drop (n + n) w) n (omega arith) ∙ ap (take n) (numbers-drop w n)
