use Rattle.merge_head.specs.inside.Head.{nanos_in}
use Prim.Native.Nat.{ℕ, ◌+◌, ◌*◌}
use mathlib.Core.Path.{refl, sym, ap₂, ◌∙◌}
use borrow.Author.Rules.{rules}
use Rattle.merge_head.proofs.nanos_in.Goals as goal

pub returns-then-has_bit : goal.returns-then-has_bit
unfolding nanos_in
returns-then-has_bit c =
    record { value = rw (sym c.has_bit.ensures ∙ c.if-has_bit.true) (ap₂ (λ (a b : ℕ). a * 1000000000 + b) c.field.ensures c.field-then-has_bit.ensures); upper_bound = search rules }

pub returns : goal.returns
unfolding nanos_in
returns c = record { value = rw (sym c.has_bit.ensures ∙ c.if-has_bit.false) refl; upper_bound = search rules }
