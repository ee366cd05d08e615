use mathlib.Core.Path.{refl, sym}
use lib.Seq.{length-take-le}
use Rattle.escape.proofs.of_copying.Covering.{around}
use Rattle.write_escape.specs.inside.Plain.{is_special, plain}
use Rattle.write_escape.proofs.is_plain_around.Goals as goal

pub slice_bounds-is_plain-end : goal.slice_bounds-is_plain-end
slice_bounds-is_plain-end c = let start = c in sym (length-take-le start.args.n start.args.s.now start.requires.0)

pub returns : goal.returns
returns c =
    let start = c in
    around plain is_special (λ b t. refl) refl start.args.s.now start.args.n start.requires.1 _ _ c.is_plain.ensures c.is_plain-2.ensures
