use Rattle.merge_rows.proofs.Steps.{sizes-added}
use Rattle.merge_rows.specs.inside.Slots.{text_bits}
use native.Mathlib.Omega.{arith}
use mathlib.Core.Path.{ap, ◌∙◌}
use Rattle.merge_rows.proofs.sizes_of.Goals as goal

pub returns : goal.returns
returns c =
    let args = c.args in
    let field = c.field in
    let text-bits = c.text_bits-m in
    let a = c.size_at.ensures in
    let b = c.size_at-2.ensures in
    let d = c.size_at-3.ensures in
    let e = c.size_at-4.ensures in
    let f = c.size_at-5.ensures in
    let g = c.size_at-6.ensures in
    let h = c.size_at-7.ensures in record { value = sizes-added args.r.now (text-bits.ensures ∙ ap text_bits field.ensures) a.value b.value d.value e.value f.value g.value h.value; upper_bound = omega (arith, a.upper_bound, b.upper_bound, d.upper_bound, e.upper_bound, f.upper_bound, g.upper_bound, h.upper_bound) }
