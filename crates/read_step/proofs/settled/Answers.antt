use mathlib.Core.Path.{sym, ap, ◌∙◌}
use Rattle.read_actions.specs.of_read_content.declared.Content.{Content as CodedContent}
use Rattle.read_actions.specs.of_read_content.inside.Holds.{apt}
use Rattle.read_actions.specs.of_read_state.declared.Act.{Act as CodedAct}
use Rattle.read_step.proofs.Settling.{again-stands, is_lost, not-lost}
use Rattle.read_step.proofs.settled.Goals as goal

pub restored-requires : goal.restored-requires
restored-requires c = let p = c.requires in record { known = p.known; first_bound = p.first_bound }

pub returns-then-is_close-is_lost : goal.returns-then-is_close-is_lost
returns-then-is_close-is_lost c =
    let a = c.args in
    let k = c.restored in
    let e = is_lost a.act _ c.is_close.ensures c.if-is_close-is_lost.true in record {
      child_value = λ z. ap (λ (y : CodedContent). y.child) k.ensures.value ∙ sym (ap (λ (y : CodedContent). y.description) k.ensures.value);
      settles = λ attributes words text s h g x.
          again-stands a.events.now a.source.now attributes a.first s a.content k.result words text a.scratch.now _
          (sym (ap (λ (y : CodedAct). apt y s.control.mode) e) ∙ h) k.ensures.value k.ensures.restores (g e) x;
    }

pub returns : goal.returns
returns c =
    let a = c.args in
    record { child_value = not-lost a.act a.content c.is_close.ensures c.is_lost.ensures c.if-is_close-is_lost.false; settles = λ attributes words text s h g x. x }
