use Rattle.build_runs.proofs.Settings.{few-records, turns-none, turns-runs, turns-flag}
use Rattle.build_records.proofs.of_build_draft.Places.{record-back}
use Rattle.build_records.specs.of_build_draft.Calls.{flagged}
use mathlib.Core.List.{[]}
use mathlib.Core.Path.{ap}
use mathlib.Core.Bool.{not}
use Rattle.build_runs.proofs.turn_case.Goals as goal

pub returns-then-not-is_non_success : goal.returns-then-not-is_non_success
returns-then-not-is_non_success c =
    let args = c.args in
    λ text. turns-none args.b args.records.now text (c.is_non_success.ensures text) args.family (ap not c.if-not-is_non_success.true)

pub turn_runs-requires : goal.turn_runs-requires
turn_runs-requires c =
    let args = c.args in
    let is-non-success = c.is_non_success in
    let if1 = c.if-not-is_non_success in
    few-records args.b args.records.now [] (is-non-success.ensures []) (ap not if1.false)

pub returns-then-from-to : goal.returns-then-from-to
returns-then-from-to c =
    let args = c.args in
    let is-non-success = c.is_non_success in
    let if1 = c.if-not-is_non_success in
    let if2 = c.if-from-to in
    λ text.
    turns-runs args.b args.records.now text (is-non-success.ensures text) args.family (ap not if1.false)
    if2.true c.turn_runs.ensures

pub returns : goal.returns
returns c =
    let args = c.args in
    let is-non-success = c.is_non_success in
    let if1 = c.if-not-is_non_success in
    let if2 = c.if-from-to in
    let least = c.least-at in
    λ text.
    let words = args.records.now in
    let b = args.b in
    let family = args.family in
    let back = record-back words b.main least.ensures (flagged family) c.flag.ensures in
    turns-flag b words text (is-non-success.ensures text) family (ap not if1.false) if2.false back
