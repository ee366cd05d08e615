use mathlib.Core.Path.{sym, ap, ◌∙◌}
use lib.Seq.{length-take-le}
use lib.ListN.{length}
use Rattle.utf8_lossy.specs.of_area.Area.{placing, laid}
use Rattle.utf8_lossy.proofs.of_area.Laying.{other-area}
use Rattle.utf8_lossy.specs.Lossy.{part_text}
use Rattle.utf8_lossy.proofs.Parts.{parted-fits}
use Rattle.text_lossy.proofs.Storing.{filtered-whole, filtered-bad}
use Rattle.utf8_lossy.specs.of_refusal.declared.Cause.TheVariants as cause
use Rattle.text_lossy.proofs.store_part.Goals as goal

pub slice_bounds-store-end : goal.slice_bounds-store-end
slice_bounds-store-end c =
    let pre = c.requires in
    sym (length-take-le _ _ (parted-fits _ _ pre))

pub returns-then-p : goal.returns-then-p
returns-then-p c =
    let start = c in
    let if1 = c.if-p in
    let a = start.args in
    let q = filtered-whole a.s.now a.p start.requires if1.true in
    let e = c.store.ensures in
    record { result_value = e.result_value ∙ ap (placing cause.TextFull (length a.out.now)) q; out_after = e.out_after ∙ ap (laid a.out.now) q }

pub returns : goal.returns
returns c =
    let start = c in
    let if1 = c.if-p in
    let a = start.args in
    let q = filtered-bad a.s.now a.p start.requires if1.false in
    let r = c.put_part in record { result_value = other-area cause.OutputFull cause.TextFull (length a.out.now) (part_text a.s.now) r.result r.ensures.result_value ∙ ap (placing cause.TextFull (length a.out.now)) q; out_after = r.ensures.out_after ∙ ap (laid a.out.now) q }
