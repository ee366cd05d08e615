use Prim.Native.Nat.{ℕ}
use mathlib.Core.Path.{◌≡◌, refl, sym, ap, ◌∙◌}
use mathlib.Core.Bool.{Bool}
use lib.Dec.{eqb}
use Rattle.start_ends.specs.inside.Ends.{with_record}
use Rattle.start_ends.proofs.with_record.Goals as goal

case-there : {k n : ℕ} {b t : Bool} → k ≡ n → b ≡ eqb k 3 → b ≡ t → eqb n 3 ≡ t
case-there e p q = ap (λ (m : ℕ). eqb m 3) (sym e) ∙ sym p ∙ q

pub returns-then-has_bit : goal.returns-then-has_bit
unfolding with_record
returns-then-has_bit c =
    let at-if = c in
    rw (case-there at-if.field.ensures at-if.is_case.ensures at-if.if-is_case.true, sym c.has_bit.ensures ∙ c.if-has_bit.true)
    (rw c.moment_of.ensures at (rw c.start_at.ensures at c.with_start.ensures))

pub returns-else-has_bit : goal.returns-else-has_bit
unfolding with_record
returns-else-has_bit c =
    let at-if = c in
    rw (case-there at-if.field.ensures at-if.is_case.ensures at-if.if-is_case.true, sym c.has_bit.ensures ∙ c.if-has_bit.false) refl

pub returns-else-is_case : goal.returns-else-is_case
unfolding with_record
returns-else-is_case c = rw (case-there c.field.ensures c.is_case.ensures c.if-is_case.false) refl
