use Rattle.build_kinds.proofs.of_build_draft.Steps.{handed-on}
use Rattle.build_pairs.proofs.Adding.{added-nowhere, key-refused, added-fits, added-done}
use Rattle.build_pairs.proofs.add_pair.Goals as goal

pub returns-then-not-may_add : goal.returns-then-not-may_add
returns-then-not-may_add c =
    let args = c.args in
    added-nowhere args.b args.records.now args.text.now args.k args.key.now args.value.now
    c.place_for.ensures c.may_add.ensures (c.if-not-may_add.true) _ _

pub returns-in_err-c : goal.returns-in_err-c
returns-in_err-c c =
    let args = c.args in
    let place-for = c.place_for in
    let may_add = c.may_add in
    let if1 = c.if-not-may_add in
    let keep = c.keep in
    rw (handed-on c.from_residual.result c.keep.result c.from_residual.ensures.1 c.in_err-c.was)
    (key-refused args.b args.records.now args.text.now args.k args.key.now args.value.now place-for.ensures
    may_add.ensures (if1.false) _ _ keep.ensures c.in_err-c.was)

pub add_value-requires : goal.add_value-requires
add_value-requires c =
    let args = c.args in
    let place-for = c.place_for in
    let may_add = c.may_add in
    let if1 = c.if-not-may_add in
    let keep = c.keep in
    added-fits args.b args.records.now args.text.now args.k args.key.now args.value.now place-for.ensures
    may_add.ensures (if1.false) _ _ keep.ensures c.in_ok-c.was

pub returns : goal.returns
returns c =
    let args = c.args in
    let may_add = c.may_add in
    let if1 = c.if-not-may_add in
    let keep = c.keep in
    let add-value = c.add_value in
    added-done args.b args.records.now args.text.now args.k args.key.now args.value.now c.place_for.ensures
    may_add.ensures (if1.false) _ _ keep.ensures c.in_ok-c.was add-value.ensures
