use Rattle.build_records.specs.of_tree_record.Record.{unmarked}
use Rattle.build_records.specs.of_tree_record.Bits as bit
use Rattle.build_runs.proofs.Families.{no_main, to-main}
use Rattle.build_records.proofs.of_build_draft.Places.{record-back}
use mathlib.Core.Path.{ap}
use mathlib.Core.Bool.{not}
use Rattle.build_runs.proofs.take_run.Goals as goal

pub returns-then-not-is_non_success : goal.returns-then-not-is_non_success
returns-then-not-is_non_success c =
    let args = c.args in
    λ text. no_main args.b args.records.now text args.k (c.is_non_success.ensures text) (ap not c.if-not-is_non_success.true)

pub returns : goal.returns
returns c =
    let args = c.args in
    let is-non-success = c.is_non_success in
    let if1 = c.if-not-is_non_success in
    let family-of = c.family_of-family in
    let least = c.least-at in
    let unmark-flaky = c.unmark_flaky in
    λ text.
    let words = args.records.now in
    let b = args.b in
    let back = record-back words b.main least.ensures (unmarked bit.flaky) unmark-flaky.ensures in
    to-main b words text args.k (is-non-success.ensures text) (ap not if1.false) (family-of.ensures text)
    back c.run_kind.ensures (c.take_record.ensures text)
