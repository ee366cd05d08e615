use mathlib.Core.List.{[]}
use mathlib.Core.Path.{refl, sym}
use borrow.Author.Tests.{ne_eqb}
use Rattle.read_actions.specs.of_read_state.inside.Coded.{level_of, output_of}
use Rattle.read_actions.specs.of_table.Event.{tag_kind}
use Rattle.read_actions.proofs.of_read_content.Plans.{plan-apt, eof-apt}
use Rattle.read_step.proofs.ByKind.{fault-plans}
use Rattle.read_step.proofs.plan.Goals as goal

pub returns-in-7 : goal.returns-in-7
returns-in-7 c = let k = c.args.control in
    let x = c.plan_eof in
    record { result_value = simp c.in-7.is x.ensures; control_value = eof-apt k.mode (level_of k.level) (output_of k.output) k.seen k.closed [] x.result x.ensures }

pub returns-in-8 : goal.returns-in-8
returns-in-8 c = let k = c.args.control in
    record { result_value = simp c.in-8.is (sym (fault-plans k.mode (level_of k.level) (output_of k.output))); control_value = refl }

pub returns-in_default : goal.returns-in_default
returns-in_default c = let a = c.args in
    let k = a.control in
    let x = c.plan_tag in
    let e = x.ensures a.name.now (sym c.tag_of.ensures) in record { result_value = simp (ne_eqb _ _ c.in_default.in_default-own.rest.1, ne_eqb _ _ c.in_default.in_default-own.rest.0.1) e; control_value = plan-apt k.mode (level_of k.level) (output_of k.output) k.seen (tag_kind a.kind) a.name.now x.result e }
