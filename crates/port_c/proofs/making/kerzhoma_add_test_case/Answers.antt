use Rattle.port_values.specs.of_build_draft.Draft.{Draft}
use Rattle.port_values.specs.Codes.{outcomes, outcome_at}
use Rattle.port_values.specs.of_build_draft.Calls.{add_test_case}
use Rattle.sheet_text.specs.of_tree_counts.declared.Outcome.{Outcome}
use Rattle.port_c.proofs.Building.{passed, stopped, known, unknown}
use Rattle.port_c.proofs.making.kerzhoma_add_test_case.Goals as goal

pub returns-then-outcome-ge-OUTCOMES : goal.returns-then-outcome-ge-OUTCOMES
returns-then-outcome-ge-OUTCOMES c =
    let if1 = c.if-outcome-ge-OUTCOMES in
    let not-built = c.not_built in
    let a = c.args in
    let d : Draft = record { builder = a.b; words = a.records.now; text = a.text.now } in
    let both = stopped a.records.now a.text.now (unknown outcomes a.outcome (add_test_case a.name.now (outcome_at a.outcome) d) if1.true) (not-built.ensures.value, (not-built.ensures.records_after, not-built.ensures.text_after)) in record { value = both.0; records_after = both.1.0; text_after = both.1.1 }

pub returns : goal.returns
returns c =
    let if1 = c.if-outcome-ge-OUTCOMES in
    let outcome-at = c.outcome_at in
    let add-test-case = c.add_test_case in
    let a = c.args in
    let d : Draft = record { builder = a.b; words = a.records.now; text = a.text.now } in
    let both = passed a.records.now a.text.now (known outcomes a.outcome (λ (x : Outcome). add_test_case a.name.now x d) outcome-at.ensures if1.false)
    c.built.ensures (add-test-case.ensures.value, (add-test-case.ensures.records_after, add-test-case.ensures.text_after)) in record { value = both.0; records_after = both.1.0; text_after = both.1.1 }
