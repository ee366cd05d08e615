use mathlib.Core.Path.{refl, ◌∙◌}
use borrow.Author.Tests.{eq-eqb, ne_eqb}
use Rattle.list_sums.proofs.Sums.{run_more}
use Rattle.list_sums.proofs.with_run.Goals as goal
use Rattle.list_sums.proofs.with_run.Goals.{then-s-eq0, else-s-eq0}

pub returns : goal.returns
returns c =
    run_more c.args.s c.args.r.now c.if-s-eq0.result
    (elim c.if-s-eq0.branch [
      | then-s-eq0 w ↦ w.result-is ∙ rw (eq-eqb c.args.s.runs 0 w.if-s-eq0.true) c.field-k.ensures
      | else-s-eq0 w ↦ w.result-is ∙ rw (ne_eqb c.args.s.runs 0 w.if-s-eq0.false) refl
    ])
