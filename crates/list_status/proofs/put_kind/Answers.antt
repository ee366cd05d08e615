use mathlib.Core.Path.{sym, ◌∙◌}
use Rattle.list_sums.specs.inside.Summed.{kind_by}
use Rattle.list_status.proofs.put_kind.Goals as goal

pub returns-then-is_skipped : goal.returns-then-is_skipped
unfolding kind_by
returns-then-is_skipped c =
    let is-skipped = c.is_skipped in
    let if1 = c.if-is_skipped in
    rw (sym is-skipped.ensures ∙ if1.true) c.put.ensures

pub returns-then-is_flaky : goal.returns-then-is_flaky
unfolding kind_by
returns-then-is_flaky c =
    let is-skipped = c.is_skipped in
    let if1 = c.if-is_skipped in
    let is-flaky = c.is_flaky in
    let if2 = c.if-is_flaky in
    rw (sym is-skipped.ensures ∙ if1.false, sym is-flaky.ensures ∙ if2.true) c.put-then-is_flaky.ensures

pub returns : goal.returns
unfolding kind_by
returns c =
    let is-skipped = c.is_skipped in
    let if1 = c.if-is_skipped in
    let is-flaky = c.is_flaky in
    let if2 = c.if-is_flaky in
    rw (sym is-skipped.ensures ∙ if1.false, sym is-flaky.ensures ∙ if2.false) c.put-2.ensures
