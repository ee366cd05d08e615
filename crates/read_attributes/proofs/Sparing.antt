-- The text area behind its fill, which is lent and comes back zero. Assumes nothing.
use Prim.Native.Nat.{ℕ, ◌-◌}
use mathlib.Core.Path.{◌≡◌, sym, ap, ◌∙◌}
use mathlib.Core.List.{List, ◌++◌}
use lib.ListN.{length, take, drop, length-replicate, take-append-drop}
use borrow.Rule.Slice.PartMut.{put_mid}
use Rattle.read_all.specs.of_area.Area.{zeros}
use Rattle.read_all.proofs.of_area.Parts.{rest_part, rest_back}

module _ (text : List ℕ) (fill : ℕ) (d : drop fill text ≡ zeros (length text - fill)) where
  pub spare-zero : take (length text - fill) (drop fill text) ≡ zeros (length (take (length text - fill) (drop fill text)))
  spare-zero =
      let e : take (length text - fill) (drop fill text) ≡ zeros (length text - fill) = rest_part text fill ∙ d in
      e ∙ ap zeros (sym (ap length e ∙ length-replicate {A = ℕ} (length text - fill) 0))

  pub text-back : {ys : List ℕ} → ys ≡ zeros (length (take (length text - fill) (drop fill text))) → put_mid fill (length text - fill) text ys ≡ text
  text-back {ys} q =
      rest_back text fill ys ∙ ap (λ (l : List ℕ). take fill text ++ l) (q ∙ sym spare-zero ∙ rest_part text fill) ∙ take-append-drop fill text
