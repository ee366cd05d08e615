use native.Mathlib.Omega.{arith}
use mathlib.Core.Path.{◌∙◌}
use Rattle.write_form.proofs.Forms.{level-up, level-down, level-same}
use Rattle.write_form.proofs.level_behind.Goals as goal

pub overflow_add-result : goal.overflow_add-result
overflow_add-result c = omega (arith, c.requires c.if-kind-eq-START.true)

pub returns-then-kind-eq-START : goal.returns-then-kind-eq-START
returns-then-kind-eq-START c = level-up c.args.level c.args.kind c.if-kind-eq-START.true

pub returns-then-kind-eq-END : goal.returns-then-kind-eq-END
returns-then-kind-eq-END c = c.one_less.ensures ∙ level-down c.args.level c.args.kind c.if-kind-eq-END.true

pub returns-else-kind-eq-END : goal.returns-else-kind-eq-END
returns-else-kind-eq-END c = level-same c.args.level c.args.kind c.if-kind-eq-START.false c.if-kind-eq-END.false
