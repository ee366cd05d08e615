use Prim.Native.Nat.{◌<◌}
use mathlib.Core.Path.{sym, ◌∙◌}
use native.Mathlib.Omega.{arith}
use lib.ListN.{length}
use Rattle.key_sort.proofs.Numbers.{length-numbers}
use Rattle.key_sort.specs.inside.Numbers.{numbers_in}
use Rattle.read_marks.proofs.Leading.{leads-new}
use Rattle.read_marks.proofs.Marking.{marks-put}
use Rattle.read_marks.proofs.put_marks.Goals as goal
use Rattle.read_marks.proofs.put_marks.Goals.{then-fresh, else-fresh}

pub number_at-j-requires : goal.number_at-j-requires
number_at-j-requires c = omega (arith, c.loop-p-test.true, length-numbers c.args.bytes.now)

pub is_first-fresh-requires : goal.is_first-fresh-requires
is_first-fresh-requires c = omega (arith, c.loop-p-test.true, length-numbers c.args.bytes.now)

pub loop-p-preserved : goal.loop-p-preserved
loop-p-preserved c =
    let s = c.args in
    let p = c.loop-p.p in
    let h : p < length (numbers_in s.bytes.now) = omega (arith, c.loop-p-test.true, length-numbers s.bytes.now) in
    let e = c.wide.ensures ∙ c.number_at-j.ensures.value in (
      marks-put s.attributes.now s.source.now c.loop-p.words c.loop-p.invariant.0 (omega (arith, c.requires.first_in_bounds, c.loop-p.auto.words))
          (λ m f o. leads-new s.attributes.now s.source.now (numbers_in s.bytes.now) s.first s.end c.requires.first_le_end c.requires.arranged
          c.wide.result p f o h (sym e)
          (c.is_first-fresh.ensures (c.mark_of.ensures m)))
          c.put_mark.ensures,
      elim c.if-fresh.branch [
        | then-fresh w ↦ rw w.lead-is c.number_at-j.ensures.upper_bound
        | else-fresh w ↦ rw w.lead-is c.loop-p.invariant.1
      ],
    )
