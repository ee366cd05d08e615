-- The lines of a text, passed one after the other. Assumes nothing.
use Prim.Native.Nat.{ℕ, zero, suc, ◌+◌, ◌-◌, ◌≤◌, ◌<◌, min}
use mathlib.Core.Path.{◌≡◌, refl, sym, ap, ◌∙◌}
use mathlib.Core.List.{List, [], ◌∷◌}
use native.Mathlib.Nat.{zero-min, min-zero, suc-min-suc}
use native.Mathlib.Omega.{arith}
use lib.ListN.{length, take, drop, length-drop}
use lib.Seq.{drop-drop}
use Rattle.table.specs.of_area.Area.{first_at}
use Rattle.table.proofs.of_area.Parts.{rest_part}
use Rattle.table.proofs.of_area.Seeking.{first-within}
use Rattle.explain_lines.specs.Lines.{past, line_in}

drop-least : (n : ℕ) (l : List ℕ) → drop (min n (length l)) l ≡ drop n l
drop-least zero l = rw (zero-min (length l)) refl
drop-least (suc n) [] = rw (min-zero (suc n)) refl
drop-least (suc n) (x ∷ l) = rw (suc-min-suc n (length l)) (drop-least n l)

-- k of the lines before number i are passed; they end at `at`
pub record Passing (text : List ℕ) (i at k : ℕ) : Type 0 where
  pub within : at ≤ length text
  pub most : k ≤ i
  pub left : past (i - k) (drop at text) ≡ past i text

pub passing-start : (text : List ℕ) (i : ℕ) → Passing text i 0 0
passing-start text i = let z : i - 0 ≡ i = omega arith in record { within = omega arith; most = omega arith; left = ap (λ (m : ℕ). past m text) z }

module _ {text : List ℕ} {i at k : ℕ} (g : Passing text i at k) where
  -- the place of the next newline, as the code finds it
  module _ (n : ℕ) (e : n ≡ first_at 10 (take (length text - at) (drop at text))) where
    found : n ≡ first_at 10 (drop at text)
    found = e ∙ ap (first_at 10) (rest_part text at)

    pub newline-within : at + n ≤ length text
    newline-within =
        let w : first_at 10 (drop at text) ≤ length (drop at text) = first-within 10 (drop at text) in
        let l : length (drop at text) ≡ length text - at = length-drop at text in
        omega (arith, found, g.within)

    pub passing-more : k < i → (end : ℕ) → end ≡ min (at + n + 1) (length text) → Passing text i end (k + 1)
    passing-more h end p =
        let z : suc (i - (k + 1)) ≡ i - k = omega arith in
        let y : at + n + 1 ≡ at + suc n = omega arith in
        let d : drop end text ≡ drop (suc n) (drop at text) = ap (λ (m : ℕ). drop m text) p ∙ drop-least (at + n + 1) text ∙ ap (λ (m : ℕ). drop m text) y ∙ sym (drop-drop (suc n) at text) in
        record {
          within = omega (arith, p);
          most = omega arith;
          left = ap (past (i - (k + 1))) (d ∙ ap (λ (m : ℕ). drop (suc m) (drop at text)) found) ∙ ap (λ (m : ℕ). past m (drop at text)) z ∙ g.left;
        }

    pub passing-done : i ≤ k → take n (take (length text - at) (drop at text)) ≡ line_in i text
    unfolding line_in
    passing-done h =
        let z : 0 ≡ i - k = omega (arith, g.most) in
        let l : drop at text ≡ past i text = ap (λ (m : ℕ). past m (drop at text)) z ∙ g.left in
        ap (take n) (rest_part text at) ∙ ap (λ (m : ℕ). take m (drop at text)) found ∙ ap (λ (s : List ℕ). take (first_at 10 s) s) l
