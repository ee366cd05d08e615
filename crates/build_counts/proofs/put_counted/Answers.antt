use Rattle.build_counts.proofs.Counting.{not-counted, was-counted}
use Rattle.build_draft.proofs.Places.{part-from, part-back}
use Rattle.build_draft.specs.Parts.{put_counts}
use lib.ListN.{take}
use mathlib.Core.List.{◌++◌}
use mathlib.Core.Path.{ap, ◌∙◌}
use Prim.Native.Nat.{◌*◌}
use Rattle.build_counts.proofs.put_counted.Goals as goal

pub returns-in_default : goal.returns-in_default
returns-in_default c =
    let a = c.args in
    λ text old more m. not-counted a.i a.b a.records.now text old more m a.records.now c.in_default.is

pub returns : goal.returns
returns c =
    let a = c.args in
    λ text old more m.
    let words = a.records.now in
    let n = a.i * 32 in
    was-counted a.i a.b words text old more m c.in-Accepted.is
    (part-back words n c.least-at.ensures c.put_counts.new.r
    ∙ ap (λ z. take n words ++ z) (c.put_counts.ensures ∙ ap (put_counts a.counted.counts) (part-from words n c.least-at.ensures)))
