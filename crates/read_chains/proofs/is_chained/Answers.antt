use native.Mathlib.Omega.{arith}
use Rattle.read_chains.proofs.Chaining.{sought-start, sought-more, sought-done, sought-low, head-fits, never, is_zero}
use mathlib.Core.Path.{refl, sym}
use Rattle.read_chains.proofs.is_chained.Goals as goal

pub bounds-work-b : goal.bounds-work-b
bounds-work-b c =
    let start = c in
    head-fits start.requires.chained start.args.key.now start.requires.b_value

pub loop-init : goal.loop-init
loop-init c =
    let pre = c.requires in
    sought-start pre.chained pre.b_value refl c.wide-s.ensures

pub overflow_sub-i : goal.overflow_sub-i
overflow_sub-i c = omega (arith, c.if-s-eq0.false)

pub overflow_add-first : goal.overflow_add-first
overflow_add-first c =
    let good = c.well_formed in
    let pre = c.requires in
    omega (arith, sought-low pre.chained c.loop.invariant c.if-s-eq0.false, pre.j_in_bounds, good)

pub key_at-requires : goal.key_at-requires
key_at-requires c =
    let pre = c.requires in
    omega (arith, sought-low pre.chained c.loop.invariant c.if-s-eq0.false, pre.j_in_bounds, c.if-s-eq0.false)

pub returns-then-same : goal.returns-then-same
returns-then-same c = λ e. absurd (never e)

pub offset_bounds-work-m : goal.offset_bounds-work-m
offset_bounds-work-m c =
    omega (arith, sought-low c.requires.chained c.loop.invariant c.if-s-eq0.false, c.requires.chained.room, c.well_formed, c.if-s-eq0.false)

pub overflow_add-m : goal.overflow_add-m
overflow_add-m c =
    let good = c.well_formed in
    let pre = c.requires in
    let loop = c.loop in
    omega (arith, sought-low pre.chained loop.invariant c.if-s-eq0.false, pre.chained.room, good)

pub bounds-work-m : goal.bounds-work-m
bounds-work-m c =
    let pre = c.requires in
    let loop = c.loop in
    omega (arith, sought-low pre.chained loop.invariant c.if-s-eq0.false, pre.chained.room, c.if-s-eq0.false)

pub loop-preserved : goal.loop-preserved
loop-preserved c =
    let pre = c.requires in
    let loop = c.loop in
    let key-at = c.key_at in
    sought-more pre.chained loop.invariant c.if-s-eq0.false key-at.ensures c.same.ensures c.if-same.false refl c.wide-s-in-loop.ensures

pub returns-then-s-eq0 : goal.returns-then-s-eq0
returns-then-s-eq0 c = λ _. sym (sought-done c.requires.chained c.loop.invariant c.if-s-eq0.true)

pub returns : goal.returns
returns c = λ e. sym (sought-done c.requires.chained c.loop.invariant (is_zero c.loop.s e))
