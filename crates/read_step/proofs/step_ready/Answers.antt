use Rattle.read_step.proofs.Settling.{acted-here}
use Rattle.read_step.specs.inside.Promises.{given}
use Rattle.read_again.specs.of_read_machine.Machine as machine
use Rattle.read_actions.specs.of_read_each.inside.Promises.{attributes_in}
use Rattle.read_step.specs.inside.Standing.{machine_of, Lent}
use Rattle.read_actions.specs.of_read_content.inside.Holds.{Sized}
use Rattle.read_actions.specs.of_read_state.inside.Coded.{act_of}
use lib.ListN.{length}
use mathlib.Core.Path.{sym, subst}
use Prim.Native.Nat.{ℕ}
use Rattle.read_step.proofs.step_ready.Goals as goal

pub settled-content-requires : goal.settled-content-requires
settled-content-requires c = let p = c.requires in record { known = p.known; first_bound = p.first_bound }

pub step_act-requires : goal.step_act-requires
step_act-requires c =
    let p = c.requires in
    let a = c.args in
    let w = p.standing_again in
    let k = c.settled-content in record {
      control_value = p.control_value;
      act_value = p.act_value;
      spans = p.spans;
      lent = subst (λ (n : ℕ). Lent (length a.records.now) (length a.text.now) n) (sym k.auto.scratch) p.lent;
      standing = record {
        content = w.content;
        stands = k.ensures.settles a.attributes.now a.records.now a.text.now (machine_of a.st w.content) p.control_value w.again w.stands;
        event = w.event;
      };
    }

pub returns : goal.returns
returns c =
    let p = c.requires in
    let a = c.args in
    let k = c.settled-content in
    let s = c.step_act in
    λ rooms d name room again sized x.
    let t = given a.events.now a.attributes.now a.source.now in
    acted-here a.attributes.now a.source.now s.new.records s.new.text k.new.scratch a.st k.result
    (machine.act rooms (act_of a.st.control name a.act) a.range.first (attributes_in t a.range) (machine_of a.st d)) s.result
    (s.ensures rooms d name room k.ensures.child_value
    (subst (λ (n : ℕ). Sized rooms (length a.records.now) (length a.text.now) n) (sym k.auto.scratch) sized)
    (k.ensures.settles a.attributes.now a.records.now a.text.now (machine_of a.st d) p.control_value again x))
