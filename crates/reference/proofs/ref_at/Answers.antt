use mathlib.Core.Path.{sym, ◌∙◌}
use native.Mathlib.Omega.{arith}
use lib.Seq.{length-take-le}
use Rattle.reference.proofs.Behind.{ref-open, ref-unnamed, ref-named}
use Rattle.reference.proofs.ref_at.Goals as goal

pub returns-then-s-e : goal.returns-then-s-e
returns-then-s-e c = ref-open c.args.s.now _ c.first_at-e.ensures c.if-s-e.true

pub slice_bounds-named_by-end : goal.slice_bounds-named_by-end
slice_bounds-named_by-end c = sym (length-take-le c.first_at-e.result c.args.s.now (omega arith))

pub returns-in_err-c : goal.returns-in_err-c
returns-in_err-c c = c.from_residual.ensures ∙ ref-unnamed c.args.s.now _ c.first_at-e.ensures c.if-s-e.false c.in_err-c.ensures

pub returns : goal.returns
returns c = ref-named c.args.s.now _ c.first_at-e.ensures c.if-s-e.false _ c.in_ok-c.ensures
