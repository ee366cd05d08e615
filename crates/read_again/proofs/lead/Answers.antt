use mathlib.Core.Path.{sym, subst}
use Rattle.read_pieces.specs.of_read_state.Control.{Act}
use Rattle.read_again.specs.inside.Turns.{Leads}
use Rattle.read_again.proofs.lead.Goals as goal

pub returns : goal.returns
returns c =
    let a = c.args in
    subst (λ (x : Act). Leads x a.name.now c.led_by.result) (c.plan_status-act.ensures a.name.now (sym c.tag_of.ensures))
    (c.led_by.ensures a.name.now)
