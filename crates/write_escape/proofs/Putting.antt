-- What stands for a part of a text is put into an area. Assumes nothing.
use Prim.Native.Nat.{ℕ, ◌+◌, ◌-◌, ◌≤◌}
use mathlib.Core.Path.{◌≡◌, sym, ap, ◌∙◌}
use mathlib.Core.List.{List, ◌++◌}
use native.Mathlib.Omega.{arith}
use borrow.Rule.Slice.PartMut.{put_mid}
use lib.ListN.{length, take, drop, length-drop}
use Rattle.std.specs.Prelude.{Option, Some, None}
use Rattle.names.specs.of_area.Answer.{refuses}
use Rattle.names.specs.of_area.Area.{placing, laid, stored_answer}
use Rattle.names.proofs.of_area.Parts.{rest_part, rest_back}
use Rattle.names.proofs.of_area.Laying.{Laying, laying_chunk, laying-over, put-fits, full-over}
use Rattle.names.specs.of_refusal.declared.Cause.TheVariants as cause

-- of the text w, f and g are to come; a call that is lent the area from k on is to put f, answers r and leaves ys there
module _ {out₀ out w : List ℕ} {k : ℕ} (f g : List ℕ) (l : Laying out₀ out k w (f ++ g)) (r : Option ℕ) (ys : List ℕ)
    (a : stored_answer cause.OutputFull r ≡ placing cause.OutputFull (length (take (length out - k) (drop k out))) f)
    (left : ys ≡ laid (take (length out - k) (drop k out)) f) where
  abbrev after : List ℕ
  after = put_mid k (length out - k) out ys

  back : after ≡ take k out ++ laid (drop k out) f
  back = rest_back out k ys ∙ ap (λ (z : List ℕ). take k out ++ z) (left ∙ ap (λ (z : List ℕ). laid z f) (rest_part out k))

  answer : stored_answer cause.OutputFull r ≡ placing cause.OutputFull (length out - k) f
  answer = a ∙ ap (λ (z : List ℕ). placing cause.OutputFull (length z) f) (rest_part out k) ∙ ap (λ (n : ℕ). placing cause.OutputFull n f) (length-drop k out)

  pub part-full : r ≡ None → (refuses cause.OutputFull ≡ placing cause.OutputFull (length out₀) w) × (after ≡ laid out₀ w)
  part-full e = laying-over f g l cause.OutputFull after back (full-over cause.OutputFull (length out - k) f (sym (ap (stored_answer cause.OutputFull) e) ∙ answer))

  pub part-put : (n : ℕ) → r ≡ Some n → Laying out₀ after (k + n) w g
  part-put n e =
      let p = put-fits cause.OutputFull (length out - k) f n (sym (ap (stored_answer cause.OutputFull) e) ∙ answer) in
      rw p.1 (laying_chunk f g l after back p.0)

  pub part-fits : (n : ℕ) → r ≡ Some n → k + n ≤ length out
  part-fits n e =
      let p = put-fits cause.OutputFull (length out - k) f n (sym (ap (stored_answer cause.OutputFull) e) ∙ answer) in
      omega (arith, p.0, p.1, l.fits)
