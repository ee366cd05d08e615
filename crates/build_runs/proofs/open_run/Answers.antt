use Rattle.build_runs.proofs.Families.{no-case, on-success, on-main}
use mathlib.Core.Path.{ap}
use mathlib.Core.Bool.{not}
use Rattle.build_runs.proofs.open_run.Goals as goal

pub returns-then-not-is_of : goal.returns-then-not-is_of
returns-then-not-is_of c =
    let args = c.args in
    λ text. no-case args.b args.records.now text args.k c.is_of.ensures (ap not c.if-not-is_of.true)

pub returns-then-b-eq-NOWHERE : goal.returns-then-b-eq-NOWHERE
returns-then-b-eq-NOWHERE c =
    let args = c.args in
    let is-of = c.is_of in
    let if1 = c.if-not-is_of in
    let if2 = c.if-b-eq-NOWHERE in
    λ text.
    on-success args.b args.records.now text args.k is-of.ensures (ap not if1.false)
    if2.true c.run_kind.ensures (c.take_record.ensures text)

pub returns : goal.returns
returns c =
    let args = c.args in
    let is-of = c.is_of in
    let if1 = c.if-not-is_of in
    let if2 = c.if-b-eq-NOWHERE in
    λ text.
    on-main args.b args.records.now text args.k is-of.ensures (ap not if1.false)
    if2.false (c.take_run.ensures text)
