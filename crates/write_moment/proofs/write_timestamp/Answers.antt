use mathlib.Core.Path.{ap, ◌∙◌}
use lib.ListN.{length}
use Rattle.timestamp.specs.of_area.Area.{placing, laid}
use Rattle.timestamp.specs.of_refusal.declared.Cause.TheVariants as cause
use Rattle.write_moment.proofs.write_timestamp.Goals as goal

pub returns : goal.returns
returns c = let o = c.args.out.now in
    let e = c.copy_into.ensures in
    let f = c.spell-bytes.ensures in
    record { result_value = e.result_value ∙ ap (placing cause.OutputFull (length o)) f; out_after = e.out_after ∙ ap (laid o) f }
