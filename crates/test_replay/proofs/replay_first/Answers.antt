use Rattle.test_replay.proofs.Lying.{parts-lie}
use lib.Seq.{length-take-le}
use native.Mathlib.Omega.{arith}
use mathlib.Core.Path.{sym}
use Rattle.test_replay.proofs.replay_first.Goals as goal

pub overflow_add-end : goal.overflow_add-end
overflow_add-end g c = let i = c.input_of-found in
    let l = parts-lie i.result _ c.in-Some.is _ _ _ _ _ i.auto.events i.auto.attributes i.ensures.value in
    omega arith

pub slice_bounds-events-end : goal.slice_bounds-events-end
slice_bounds-events-end g c = let i = c.input_of-found in
    let l = parts-lie i.result _ c.in-Some.is _ _ _ _ _ i.auto.events i.auto.attributes i.ensures.value in
    l.0

pub slice_bounds-replay-end : goal.slice_bounds-replay-end
slice_bounds-replay-end g c = let i = c.input_of-found in
    let l = parts-lie i.result _ c.in-Some.is _ _ _ _ _ i.auto.events i.auto.attributes i.ensures.value in
    sym (length-take-le _ _ l.0)

pub slice_bounds-attributes-end : goal.slice_bounds-attributes-end
slice_bounds-attributes-end g c = let i = c.input_of-found in
    let l = parts-lie i.result _ c.in-Some.is _ _ _ _ _ i.auto.events i.auto.attributes i.ensures.value in
    l.1.0

pub slice_bounds-replay-end-in-Some : goal.slice_bounds-replay-end-in-Some
slice_bounds-replay-end-in-Some g c =
    let i = c.input_of-found in
    let l = parts-lie i.result _ c.in-Some.is _ _ _ _ _ i.auto.events i.auto.attributes i.ensures.value in
    sym (length-take-le _ _ l.1.0)

pub slice_bounds-replay-end-in-Some-2 : goal.slice_bounds-replay-end-in-Some-2
slice_bounds-replay-end-in-Some-2 g c =
    let i = c.input_of-found in
    let l = parts-lie i.result _ c.in-Some.is _ _ _ _ _ i.auto.events i.auto.attributes i.ensures.value in
    l.1.1

pub returns-in_ok-replay-in-Some : goal.returns-in_ok-replay-in-Some
returns-in_ok-replay-in-Some g c =
    let i = c.input_of-found in
    let l = parts-lie i.result _ c.in-Some.is _ _ _ _ _ i.auto.events i.auto.attributes i.ensures.value in
    l.1.1
