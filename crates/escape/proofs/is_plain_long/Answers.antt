use Prim.Native.Nat.{◌+◌, ◌-◌, ◌*◌}
use mathlib.Core.Path.{◌≡◌, refl, sym, ◌∙◌}
use native.Mathlib.Omega.{arith}
use lib.ListN.{length}
use Rattle.copying.proofs.Covering.{passes_on, fails-all, last-decides}
use Rattle.escape.specs.Escape.{marked}
use Rattle.escape.specs.inside.Plain.{plain}
use Rattle.escape.proofs.is_plain_long.Goals as goal

pub returns-then-not-is_plain : goal.returns-then-not-is_plain
returns-then-not-is_plain c =
    let i = c.loop-k.k * 16 in
    sym (fails-all plain marked (λ b t. refl) refl c.args.s.now i (i + 16 - i) (sym c.is_plain.ensures ∙ c.if-not-is_plain.true))

pub loop-k-preserved : goal.loop-k-preserved
loop-k-preserved c =
    let i = c.loop-k.k * 16 in
    let there : i + 16 ≡ (c.loop-k.k + 1) * 16 = omega arith in
    rw (sym there) (passes_on plain marked (λ b t. refl) refl c.args.s.now i (i + 16) (omega arith) c.loop-k.invariant (sym c.is_plain.ensures ∙ c.if-not-is_plain.false))

pub returns : goal.returns
returns c =
    let s = c.args.s.now in
    c.is_plain-2.ensures ∙ last-decides plain marked (λ b t. refl) refl s (length s - 16) (c.loop-k.k * 16) (omega arith) c.loop-k.invariant
