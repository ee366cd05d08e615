use Rattle.std.proofs.Common.{◌≡◌, ℕ, ap, sym, ◌∙◌, take, length, get_or, add-one, Result}
use lib.Seq.{take_all}
use Rattle.sheet_sums.specs.of_tree_counts.declared.Counts.{Counts}
use Rattle.sheet_sums.specs.Sheet.{no_counts, released_from}
use Rattle.sheet_sums.specs.inside.Running.{begun, totalled, onward, finished}
use Rattle.sheet_sums.proofs.Running.{one_more, finishes}
use Rattle.sheet.proofs.release_sheet.Goals as goal

pub loop-c-preserved : goal.loop-c-preserved
loop-c-preserved c =
    let items = take c.taken-n.result c.args.records.now in
    let i = c.loop-c.c-index in
    rw add-one (c.add-t.ensures ∙ ap (λ (t : Result Counts Counts). totalled t (get_or items i no_counts)) c.loop-c.invariant ∙ sym (one_more begun items i c.loop-c-test.true))

pub returns : goal.returns
returns c =
    let records = c.args.records.now in
    let items = take c.taken-n.result records in
    let all : take c.loop-c.c-index items ≡ items = take_all c.loop-c.c-index items c.loop-c-test.false in
    c.finish.ensures
    ∙ ap (λ (t : Result Counts Counts). released_from (finished (length records) t))
    (c.loop-c.invariant ∙ ap (onward begun) (all ∙ ap (λ (n : ℕ). take n records) c.taken-n.ensures))
    ∙ ap released_from (finishes records)
