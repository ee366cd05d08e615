use Rattle.std.specs.Prelude.{Ok}
use mathlib.Core.Path.{sym, ap, subst, ◌∙◌}
use Rattle.read_step.specs.inside.Standing.{Step}
use Rattle.read_step.specs.inside.Promises.{PassesContent}
use Rattle.read_step.proofs.pass_content.Goals as goal

pub returns-in-Some : goal.returns-in-Some
returns-in-Some c =
    let a = c.args in
    subst (λ (y : Step). PassesContent y a.start a.events.now a.source.now c.step_skip.result) (sym (c.in_ok-next.was ∙ ap Ok c.in-Some.is)) c.step_skip.ensures
