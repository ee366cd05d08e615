-- Parts of a source that grow byte by byte. Assumes nothing.
use Prim.Native.Nat.{ℕ, zero, suc, ◌+◌, ◌-◌, ◌≤◌}
use mathlib.Core.Path.{◌≡◌, refl, ap, ◌∙◌}
use mathlib.Core.List.{List, [], ◌∷◌, ◌++◌}
use mathlib.Core.Bool.{Bool, cond}
use native.Mathlib.Omega.{arith}
use lib.Dec.{eqb-suc-zero}
use lib.ListN.{length, take, drop, length-take, length-drop}
use lib.Seq.{take-add, take-take, drop-drop}
use Rattle.xml_complete.specs.of_table.Event.{part}
use Rattle.xml_complete.specs.of_xml_machine.Tokens.{unless0}
use Rattle.xml_complete.specs.of_xml_machine.inside.Saying.{less}

module _ (source : List ℕ) where
  pub part-grows : (mark at b : ℕ) (t : List ℕ) → mark ≤ at → drop at source ≡ b ∷ t → part source mark (at + 1 - mark) ≡ part source mark (at - mark) ++ (b ∷ [])
  part-grows mark at b t l h =
      let n : at + 1 - mark ≡ at - mark + 1 = omega arith in
      let k : mark + (at - mark) ≡ at = omega arith in
      ap (part source mark) n ∙ take-add (at - mark) 1 (drop mark source) ∙ ap (λ (r : List ℕ). part source mark (at - mark) ++ take 1 r) (drop-drop (at - mark) mark source ∙ ap (λ (j : ℕ). drop j source) k ∙ h)

  pub part-here : (at b : ℕ) (t : List ℕ) → drop at source ≡ b ∷ t → part source at (at + 1 - at) ≡ b ∷ []
  part-here at b t h = let z : at - at ≡ 0 = omega arith in part-grows at at b t (omega arith) h ∙ ap (λ (n : ℕ). part source at n ++ (b ∷ [])) z

  pub part_none : (from to : ℕ) → to ≤ from → part source from (to - from) ≡ []
  part_none from to l = let z : to - from ≡ 0 = omega arith in ap (part source from) z

  -- a start without length is 0 (rule N4)
  pub part-unless : (from n : ℕ) → part source (unless0 from n) n ≡ part source from n
  part-unless from zero = refl
  part-unless from (suc n) = ap (λ (c : Bool). part source (cond c 0 from) (suc n)) (eqb-suc-zero n)

  pub part_length : (from n : ℕ) → from + n ≤ length source → length (part source from n) ≡ n
  part_length from n l = let z = length-take n (drop from source) in let y = length-drop from source in omega arith

  -- the last k bytes left out
  pub part-less : (k from n : ℕ) → from + n ≤ length source → less k (part source from n) ≡ part source from (n - k)
  part-less k from n l = let z = part_length from n l in ap (λ (j : ℕ). take (j - k) (part source from n)) z ∙ take-take (n - k) n (drop from source) (omega arith)
