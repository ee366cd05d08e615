use mathlib.Core.Path.{ap, ◌∙◌}
use lib.ListN.{length}
use Rattle.utf8.specs.of_area.Area.{placing, laid}
use Rattle.digits.proofs.Printing.{decimal-last}
use Rattle.utf8.specs.of_refusal.declared.Cause.TheVariants as cause
use Rattle.digits.proofs.write_decimal.Goals as goal

pub returns : goal.returns
returns c =
    let places_of = c.places_of-k in
    let o = c.args.out.now in
    let e = c.write_digits.ensures in
    let f = decimal-last _ _ places_of.ensures in
    record { result_value = e.result_value ∙ ap (placing cause.OutputFull (length o)) f; out_after = e.out_after ∙ ap (laid o) f }
