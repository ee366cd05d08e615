use Rattle.read_sorted.proofs.Scanning.{scanning-done, step-told}
use Rattle.read_sorted.specs.inside.Repeats.{nearer}
use Rattle.key_sort.proofs.Numbers.{length-numbers}
use Rattle.key_sort.specs.inside.Numbers.{numbers_in}
use Rattle.key_sort.specs.of_table.Event.{key_at}
use Rattle.key_sort.specs.of_names.Names.{same_bytes}
use lib.ListN.{length, get_or}
use mathlib.Core.Path.{ap, ◌∙◌}
use native.Mathlib.Omega.{arith}
use Prim.Native.Nat.{ℕ, ◌-◌, ◌<◌}
use Rattle.read_sorted.proofs.first_repeat.Goals as goal

pub number_at-requires : goal.number_at-requires
number_at-requires c = omega (arith, c.loop-p-test.true, length-numbers c.args.bytes.now)

pub number_at-requires-in-loop-p : goal.number_at-requires-in-loop-p
number_at-requires-in-loop-p c = omega (arith, c.loop-p-test.true, length-numbers c.args.bytes.now)

pub loop-p-preserved : goal.loop-p-preserved
loop-p-preserved c =
    let loop = c.loop-p in
    let s = c.args in
    let p = loop.p in
    let h : p < length (numbers_in s.bytes.now) = omega (arith, c.loop-p-test.true, length-numbers s.bytes.now) in
    step-told loop.invariant (omega (arith, loop.auto.p)) h (c.lesser-found.ensures
    ∙ ap (λ (x : ℕ). nearer (same_bytes (key_at s.attributes.now s.source.now x) (key_at s.attributes.now s.source.now c.number_at-in-loop-p.result))
    c.number_at-in-loop-p.result loop.found) c.number_at.ensures.value
    ∙ ap (λ (x : ℕ). nearer (same_bytes (key_at s.attributes.now s.source.now (get_or (numbers_in s.bytes.now) (p - 1) 0)) (key_at s.attributes.now s.source.now x))
    x loop.found) c.number_at-in-loop-p.ensures.value)

pub returns : goal.returns
returns c = scanning-done c.loop-p.invariant (omega (arith, c.loop-p.auto.p)) (omega (arith, c.loop-p-test.false, length-numbers c.args.bytes.now))
