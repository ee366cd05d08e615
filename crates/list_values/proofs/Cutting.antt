-- Parts of an area, cut at its end. Assumes nothing.
use Prim.Native.Nat.{ℕ, zero, suc, ◌-◌, ◌≤◌, min}
use mathlib.Core.Path.{◌≡◌, refl, sym, ap, ◌∙◌}
use mathlib.Core.List.{List, [], ◌∷◌}
use native.Mathlib.Nat.{min-zero, suc-min-suc, min_comm, min-eq_left, min-eq_right}
use native.Mathlib.Decide.{dec_le}
use native.Mathlib.Omega.{arith}
use lib.ListN.{length, take, drop, drop_of_length-le}
use lib.Seq.{take-nil}
use Rattle.list_text.proofs.of_area.Parts.{rest_part}

-- cutting at a number or at the area's end, whichever is first, is cutting at the number
pub take-least : (l : List ℕ) (n : ℕ) → take (min (length l) n) l ≡ take n l
take-least [] n = take-nil (min 0 n) ∙ sym (take-nil n)
take-least (x ∷ l) zero = rw (min-zero (suc (length l))) refl
take-least (x ∷ l) (suc n) = rw (suc-min-suc (length l) n) (ap (λ (r : List ℕ). x ∷ r) (take-least l n))

-- a text of the text area, cut at the area's end
pub part_cut : (text : List ℕ) (start len from to : ℕ) → from ≡ min start (length text) → to ≡ min len (length (take (length text - from) (drop from text)))
    → take to (take (length text - from) (drop from text)) ≡ take len (drop start text)
part_cut text start len from to e f =
    let p : take (length text - from) (drop from text) ≡ drop from text = rest_part text from in
    let q : drop from text ≡ drop start text = (ap (λ (n : ℕ). drop n text) e ∙ go (dec_le start (length text))) in
    let t : to ≡ min (length (drop start text)) len = (f ∙ ap (λ (l : List ℕ). min len (length l)) (p ∙ q) ∙ min_comm len (length (drop start text))) in
    rw (p ∙ q, t) (take-least (drop start text) len)
  where
    go : Dec (start ≤ length text) → drop (min start (length text)) text ≡ drop start text
    go (yes h) = rw (min-eq_left h) refl
    go (no h) =
        let z : min start (length text) ≡ length text = min-eq_right (omega arith) in
        rw z (drop_of_length-le text {i = length text} (omega arith) ∙ sym (drop_of_length-le text {i = start} (omega arith)))
