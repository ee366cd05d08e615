use Prim.Native.Nat.{◌+◌, ◌*◌}
use mathlib.Core.Path.{◌≡◌, sym, ◌∙◌}
use native.Mathlib.Omega.{arith}
use Rattle.write_walk.proofs.Walking.{none-behind, goes-on, seeking-left, seeking-over, seeking-found, seeking-pass}
use Rattle.write_walk.proofs.seek.Goals as goal

pub returns-then-here-ends-clause-words_value : goal.returns-then-here-ends-clause-words_value
returns-then-here-ends-clause-words_value c =
    let a = c.args in
    seeking-left a.level a.words.now (c.loop-i.i * 32) c.field-here.result c.ends.result (omega (arith, c.loop-i-test.true)) c.field-here.ensures c.ends.ensures
    a.low a.high c.loop-i.invariant c.if-here-ends.true

pub returns-then-is_between-clause-words_value : goal.returns-then-is_between-clause-words_value
returns-then-is_between-clause-words_value c =
    let a = c.args in
    let on = goes-on a.level a.words.now (c.loop-i.i * 32) c.field-here.result c.ends.result (omega (arith, c.loop-i-test.true)) c.field-here.ensures c.ends.ensures c.if-here-ends.false in
    seeking-found a.level a.low a.high a.words.now c.loop-i.invariant on.0 (rw c.field-here.ensures at on.1)
    (rw c.field-here.ensures at (sym c.is_between.ensures ∙ c.if-is_between.true))

pub loop-i-preserved : goal.loop-i-preserved
loop-i-preserved c =
    let a = c.args in
    let there : c.loop-i.i * 32 + 32 ≡ (c.loop-i.i + 1) * 32 = omega arith in
    let on = goes-on a.level a.words.now (c.loop-i.i * 32) c.field-here.result c.ends.result (omega (arith, c.loop-i-test.true)) c.field-here.ensures c.ends.ensures c.if-here-ends.false in
    rw (sym there) (seeking-pass a.level a.low a.high a.words.now c.loop-i.invariant on.0 (rw c.field-here.ensures at on.1)
    (rw c.field-here.ensures at (sym c.is_between.ensures ∙ c.if-is_between.false)))

pub returns-clause-words_value : goal.returns-clause-words_value
returns-clause-words_value c =
    let a = c.args in
    seeking-over a.level a.low a.high a.words.now c.loop-i.invariant (none-behind a.words.now (c.loop-i.i * 32) (omega (arith, c.loop-i-test.false)))
