use Rattle.std.specs.Prelude.{Result}
use Rattle.clearing.specs.of_refusal.declared.Cause.{Cause}
use Rattle.merge_limits.specs.inside.Limits.{step_answer}
use Rattle.merger.specs.Answer.{merging_from}
use Rattle.merge_head.specs.of_tree_merge.Answer.{outcome_of}
use mathlib.Core.Path.{sym, ap, ◌∙◌}
use Rattle.merger.proofs.merging_of.Goals as goal

pub returns-in-Ok : goal.returns-in-Ok
returns-in-Ok c = rw c.no_refusal.ensures (sym (ap (λ (t : Result (Unit {0}) Cause). merging_from (outcome_of (step_answer t))) c.in-Ok.is))

pub returns-in-Err : goal.returns-in-Err
returns-in-Err c = c.refuse.ensures ∙ sym (ap (λ (t : Result (Unit {0}) Cause). merging_from (outcome_of (step_answer t))) c.in-Err.is)
