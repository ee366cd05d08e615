use Rattle.port_c.proofs.Counting.{counted-case}
use Rattle.port_values.proofs.Coded.{no_code}
use Rattle.port_values.specs.Codes.{outcomes, outcome_at}
use Rattle.port_values.specs.Values.{counted_port}
use Rattle.sheet_text.specs.of_tree_counts.Counts.{with_case}
use mathlib.Core.Path.{sym, ap, ◌∙◌}
use Rattle.port_c.proofs.counts.kerzhoma_add_case.Goals as goal

pub returns-then-outcome-lt-OUTCOMES : goal.returns-then-outcome-lt-OUTCOMES
returns-then-outcome-lt-OUTCOMES c =
    let args = c.args in
    let if1 = c.if-outcome-lt-OUTCOMES in
    c.counted.ensures ∙ counted-case args.counts args.outcome c.outcome_at.ensures if1.true c.add_test_case.ensures

pub returns : goal.returns
returns c = let args = c.args in
    c.not_counted.ensures ∙ sym (ap (counted_port args.counts) (no_code outcomes args.outcome (with_case args.counts (outcome_at args.outcome)) c.if-outcome-lt-OUTCOMES.false))
