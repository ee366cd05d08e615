use Rattle.read_plain.proofs.Plainly.{plain_more}
use Rattle.read_plain.specs.inside.Plain.{unaltered}
use mathlib.Core.Path.{sym, ap, ◌∙◌}
use Rattle.read_plain.proofs.plain_to.Goals as goal

pub loop-j-preserved : goal.loop-j-preserved
loop-j-preserved c =
    plain_more c.args.attributes.now c.args.source.now c.args.first c.loop-j.invariant
    (sym (c.is_own.ensures ∙ ap unaltered c.key_at.ensures) ∙ c.if-not-is_own.false)
