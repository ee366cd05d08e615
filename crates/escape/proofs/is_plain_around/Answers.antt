use mathlib.Core.Path.{refl, sym}
use lib.Seq.{length-take-le}
use Rattle.copying.proofs.Covering.{around}
use Rattle.escape.specs.Escape.{marked}
use Rattle.escape.specs.inside.Plain.{plain}
use Rattle.escape.proofs.is_plain_around.Goals as goal

pub slice_bounds-is_plain-end : goal.slice_bounds-is_plain-end
slice_bounds-is_plain-end c = let start = c in sym (length-take-le start.args.n start.args.s.now start.requires.0)

pub returns : goal.returns
returns c =
    let start = c in
    around plain marked (λ b t. refl) refl start.args.s.now start.args.n start.requires.1 _ _ c.is_plain.ensures c.is_plain-2.ensures
