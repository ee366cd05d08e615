-- Of longer areas only so many records are used. Assumes nothing.
use Prim.Native.Nat.{ℕ, zero, suc, ◌-◌, ◌*◌, ◌/◌, ◌≤◌, min}
use mathlib.Core.Path.{◌≡◌, refl, sym, ap, ◌∙◌}
use mathlib.Core.List.{List, [], ◌∷◌}
use native.Mathlib.Nat.{min-le_left}
use native.Mathlib.Omega.{arith}
use lib.ListN.{length, take, drop, length-take}
use lib.Seq.{get_or-take, take-take, take-nil}
use Rattle.list_text.specs.of_area.Limits.{most_words}
use Rattle.list_text.specs.of_tree_report.Layout.{used_words, records_from, records_of}
use Rattle.list_sums.specs.inside.Rows.{records_in}

drop-take : (a e : ℕ) (l : List ℕ) → drop a (take e l) ≡ take (e - a) (drop a l)
drop-take zero e l = let z : e - 0 ≡ e = omega arith in rw z refl
drop-take (suc a) zero l = let z : 0 - suc a ≡ 0 = omega arith in rw z refl
drop-take (suc a) (suc e) [] = sym (take-nil (suc e - suc a))
drop-take (suc a) (suc e) (x ∷ l) = let z : suc e - suc a ≡ e - a = omega arith in drop-take a e l ∙ ap (λ (n : ℕ). take n (drop a l)) (sym z)

from_front : (n m : ℕ) (w : List ℕ) → n * 32 ≤ m → records_from n (take m w) ≡ records_from n w
unfolding records_from
from_front zero m w h = refl
from_front (suc n) m w h =
    let k : n * 32 ≤ m - 32 = omega arith in
    rw (get_or-take m w 0 0 (omega arith), take-take 32 m w (omega arith), drop-take 32 m w, from_front n (m - 32) (drop 32 w) k) refl

front-used : (m : ℕ) (w : List ℕ) → records_from (length (take m w) / 32) (take m w) ≡ records_from (length (take m w) / 32) w
front-used m w =
    let l : length (take m w) ≡ min m (length w) = length-take m w in
    from_front (length (take m w) / 32) m w (omega (arith, min-le_left m (length w)))

-- the records found in the used words are those of the definition
pub records-used : (words : List ℕ) → records_in (used_words words) ≡ records_of words
unfolding records_in records_of
records-used words = front-used most_words words
