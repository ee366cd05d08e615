use Rattle.std.proofs.lemmas.Result.{err_from_is_err_and}
use mathlib.Core.Path.{◌≡◌, refl, sym, ap, ◌∙◌}
use mathlib.Core.Bool.{Bool, cond, ◌&&◌}
use Prim.Native.Nat.{◌+◌}
use native.Mathlib.Omega.{arith}
use lib.Dec.{ltb}
use lib.ListN.{take}
use Rattle.read_each.specs.inside.Fresh.{fresh}
use Rattle.read_each.proofs.Going.{going_start, going-fill, going-extras, going_on, going-stopped, going_done}
use Rattle.read_each.proofs.read_each.Goals as goal
use Rattle.read_each.proofs.read_each.Goals.{then-free-j, else-free-j}

pub loop-j-init : goal.loop-j-init
loop-j-init c =
    let s = c.args in
    going_start s.kind s.attributes.now s.source.now s.range.first s.range.end s.own.now
    s.text.now (fresh s.kind (take s.fill s.text.now)) c.requires.begins.0 refl c.requires.begins.1.1.1.1.0

pub overflow_add-hint : goal.overflow_add-hint
overflow_add-hint c = let b = going-extras c.loop-j.invariant in omega (arith, c.well_formed)

pub step_attribute-requires-clause-bounded : goal.step_attribute-requires-clause-bounded
step_attribute-requires-clause-bounded c =
    let x = c.loop-j.invariant in
    let q = x.text_same in
    let l = c.requires.begins.1.1.1.0 in
    (going-fill x, (omega arith, going-extras x))

pub returns-in_err-given : goal.returns-in_err-given
returns-in_err-given c =
    let n = c.loop-j.given.extras in
    let t : c.if-free-j.hint ≡ cond (ltb c.loop-j.j c.args.clear && ltb c.loop-j.j c.args.plain) n (n + 1) = elim c.if-free-j.branch [
      | then-free-j w ↦ w.hint-is ∙ ap (λ (u : Bool). cond u n (n + 1)) (sym w.if-free-j.true)
      | else-free-j w ↦ w.hint-is ∙ ap (λ (u : Bool). cond u n (n + 1)) (sym w.if-free-j.false)
    ] in
    let q = err_from_is_err_and c.from_residual.result c.from_residual.ensures.1 in
    λ rooms p used ro. rw (q.1, q.2) (going-stopped c.loop-j.invariant c.loop-j-test.true c.requires.begins.1.1.1.1.1 c.requires.plain
    t c.step_attribute.ensures c.in_err-given.was rooms p used ro)

pub loop-j-preserved : goal.loop-j-preserved
loop-j-preserved c =
    let n = c.loop-j.given.extras in
    let t : c.if-free-j.hint ≡ cond (ltb c.loop-j.j c.args.clear && ltb c.loop-j.j c.args.plain) n (n + 1) = elim c.if-free-j.branch [
      | then-free-j w ↦ w.hint-is ∙ ap (λ (u : Bool). cond u n (n + 1)) (sym w.if-free-j.true)
      | else-free-j w ↦ w.hint-is ∙ ap (λ (u : Bool). cond u n (n + 1)) (sym w.if-free-j.false)
    ] in
    going_on c.loop-j.invariant c.loop-j-test.true c.requires.begins.1.1.1.1.1 c.requires.plain
    t c.step_attribute.ensures c.in_ok-given.was c.step_attribute.auto.own c.step_attribute.auto.text

pub returns : goal.returns
returns c = going_done c.loop-j.invariant c.loop-j-test.false
