use Rattle.read_again.proofs.Leading.{status-plan, text-plan, list-plan}
use Rattle.read_pieces.specs.of_read_state.inside.Coded.{output_of}
use Rattle.read_pieces.specs.of_read_state.Control.{status}
use Rattle.read_pieces.specs.of_table.Event.{tag_kind}
use mathlib.Core.Path.{◌∙◌}
use Rattle.read_again.proofs.plan_status.Goals as goal

pub returns-in-At : goal.returns-in-At
returns-in-At c = λ name e. rw c.in-At.is (c.step_status.ensures name e ∙ status-plan (tag_kind c.args.kind) name)

pub returns-in-Text : goal.returns-in-Text
returns-in-Text c = λ name e. rw c.in-Text.is (c.step_text.ensures status name
    ∙ text-plan (output_of c.args.output) (tag_kind c.args.kind) name c.args.tag e)

pub returns-in-List : goal.returns-in-List
returns-in-List c = λ name e. rw c.in-List.is (c.step_list.ensures status name e ∙ list-plan (tag_kind c.args.kind) name)
