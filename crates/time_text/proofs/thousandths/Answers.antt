-- `proofs/Sum.antt` says that the float sum is small.
use mathlib.Core.Path.{sym, ap, ◌∙◌, subst}
use lib.Dec.{T}
use lib.Ieee.{Float}
use Rattle.time_text.specs.Written.{small, thousandths_of}
use Rattle.time_text.proofs.Sum.{sum-small}
use Rattle.time_text.proofs.thousandths.Goals as goal

pub nearest_thousandth-requires : goal.nearest_thousandth-requires
nearest_thousandth-requires c =
    let s = c in
    subst (λ (k : Float). T (small k)) (sym c.float_sum.ensures) (sum-small s.args.secs s.args.nanos s.ranges.secs.fits s.ranges.nanos.fits)

pub returns : goal.returns
returns c = c.nearest_thousandth.ensures ∙ ap thousandths_of c.float_sum.ensures
