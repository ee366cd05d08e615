use mathlib.Core.Path.{sym, ap, ◌∙◌}
use lib.Seq.{length-take-le}
use lib.ListN.{length}
use Rattle.utf8.specs.of_area.Area.{placing, laid}
use Rattle.utf8_lossy.proofs.Parts.{parted-fits, parted-whole, parted-bad}
use Rattle.utf8.specs.of_refusal.declared.Cause.TheVariants as cause
use Rattle.utf8_lossy.proofs.put_part.Goals as goal

pub slice_bounds-copy_into-end : goal.slice_bounds-copy_into-end
slice_bounds-copy_into-end c =
    let pre = c.requires in
    sym (length-take-le _ _ (parted-fits _ _ pre))

pub returns-then-p : goal.returns-then-p
returns-then-p c =
    let start = c in
    let if1 = c.if-p in
    let a = start.args in
    let q = parted-whole a.s.now a.p start.requires if1.true in
    let e = c.copy_into.ensures in
    record { result_value = e.result_value ∙ ap (placing cause.OutputFull (length a.out.now)) q; out_after = e.out_after ∙ ap (laid a.out.now) q }

pub returns : goal.returns
returns c =
    let start = c in
    let if1 = c.if-p in
    let a = start.args in
    let q = parted-bad a.s.now a.p start.requires if1.false in
    let e = c.copy_into-2.ensures in
    record { result_value = e.result_value ∙ ap (placing cause.OutputFull (length a.out.now)) q; out_after = e.out_after ∙ ap (laid a.out.now) q }
