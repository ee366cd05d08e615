use mathlib.Core.Path.{sym, ap, subst, ◌∙◌}
use Rattle.read_again.specs.of_table_events.Skip.{skip_answer}
use Rattle.read_step.specs.inside.Standing.{Step, machine_of, run_skip, Stepped}
use Rattle.read_step.proofs.Passing.{skip-went, skip-halted}
use Rattle.read_step.proofs.step_skip.Goals as goal

pub returns-in-Ok : goal.returns-in-Ok
returns-in-Ok c =
    let start = c in
    let skip-from = c.skip_from-skipped in
    λ rooms attributes words text scratch d from s before reached path k t.
    let a = start.args in
    skip-went rooms a.events.now attributes a.source.now a.st from d a.start start.requires.start_bound before words text scratch
    _ _ (sym (skip-from.ensures attributes) ∙ ap skip_answer c.in-Ok.is) c.onward.ensures reached s k t

pub returns-in-Err : goal.returns-in-Err
returns-in-Err c =
    let start = c in
    let skip-from = c.skip_from-skipped in
    λ rooms attributes words text scratch d from s before reached path k t.
    let a = start.args in
    subst (λ (r : Step). Stepped rooms a.events.now attributes a.source.now words text scratch from s
    (run_skip rooms a.events.now attributes a.source.now a.start (machine_of a.st d)) r) (sym c.halt_at.ensures)
    (skip-halted rooms a.events.now attributes a.source.now a.st from d a.start start.requires.start_bound before _ _
    (sym (skip-from.ensures attributes) ∙ ap skip_answer c.in-Err.is) start.requires.events_bound path)
