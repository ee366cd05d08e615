use Rattle.key_sort.proofs.Running.{running-first, running-second, running-put, running-done}
use Rattle.key_sort.proofs.Numbers.{length-numbers}
use Rattle.key_sort.specs.inside.Numbers.{numbers_in}
use native.Mathlib.Omega.{arith}
use Rattle.key_sort.proofs.merge_up.Goals as goal
use Rattle.key_sort.proofs.merge_up.Goals.{then-takes_first, else-takes_first}

pub overflow_add-k-end : goal.overflow_add-k-end
overflow_add-k-end c = omega (arith, c.requires.n_in_bounds, c.well_formed, length-numbers c.args.bytes.now)

pub loop-k-preserved : goal.loop-k-preserved
loop-k-preserved c =
    let loop = c.loop-k in
    let told = c.takes_first.ensures in
    elim c.if-takes_first.branch [
      | then-takes_first w ↦
          rw (w.bytes-is, w.i-is, w.j-is)
          (running-put (numbers_in loop.bytes) loop.k w.put_number.ensures w.number_at-v.ensures.value
          (running-first loop.invariant told c.loop-k-test.true w.if-takes_first.true))
      | else-takes_first w ↦
          rw (w.bytes-is, w.i-is, w.j-is)
          (running-put (numbers_in loop.bytes) loop.k w.put_number-else-takes_first.ensures w.number_at-v-else-takes_first.ensures.value
          (running-second loop.invariant told c.loop-k-test.true w.if-takes_first.false))
    ]

pub returns : goal.returns
returns c = running-done c.loop-k.invariant c.loop-k-test.false
