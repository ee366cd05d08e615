use mathlib.Core.Path.{sym, ◌∙◌}
use native.Mathlib.Omega.{arith}
use Rattle.tree_moments.proofs.Moments.{moment-fitting, moment-over}
use Rattle.tree_moments.proofs.in_range.Goals as goal

pub returns-then-not-moment_fits : goal.returns-then-not-moment_fits
returns-then-not-moment_fits c = moment-over c.args.r.now (sym c.moment_fits.ensures ∙ c.if-not-moment_fits.true)

pub overflow_cast-r : goal.overflow_cast-r
overflow_cast-r c =
    let args = c.args in
    omega (arith, moment-fitting args.r.now (sym c.moment_fits.ensures ∙ c.if-not-moment_fits.false))

pub overflow_cast-r-2 : goal.overflow_cast-r-2
overflow_cast-r-2 c =
    let args = c.args in
    omega (arith, moment-fitting args.r.now (sym c.moment_fits.ensures ∙ c.if-not-moment_fits.false))

pub overflow_cast-r-3 : goal.overflow_cast-r-3
overflow_cast-r-3 c =
    let args = c.args in
    let moment-fits = c.moment_fits in
    omega (arith, moment-fitting args.r.now (sym moment-fits.ensures ∙ c.if-not-moment_fits.false))

pub overflow_cast-r-4 : goal.overflow_cast-r-4
overflow_cast-r-4 c =
    let args = c.args in
    let moment-fits = c.moment_fits in
    let if1 = c.if-not-moment_fits in
    omega (arith, moment-fitting args.r.now (sym moment-fits.ensures ∙ if1.false))

pub overflow_cast-r-5 : goal.overflow_cast-r-5
overflow_cast-r-5 c =
    let args = c.args in
    let moment-fits = c.moment_fits in
    let if1 = c.if-not-moment_fits in
    omega (arith, moment-fitting args.r.now (sym moment-fits.ensures ∙ if1.false))

pub overflow_cast-r-6 : goal.overflow_cast-r-6
overflow_cast-r-6 c =
    let args = c.args in
    let moment-fits = c.moment_fits in
    let if1 = c.if-not-moment_fits in
    omega (arith, moment-fitting args.r.now (sym moment-fits.ensures ∙ if1.false))

pub overflow_cast-r-7 : goal.overflow_cast-r-7
overflow_cast-r-7 c =
    let args = c.args in
    let moment-fits = c.moment_fits in
    let if1 = c.if-not-moment_fits in
    omega (arith, moment-fitting args.r.now (sym moment-fits.ensures ∙ if1.false))
