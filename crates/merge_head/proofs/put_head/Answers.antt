use Rattle.merge_head.specs.inside.Head.{put_name, put_start, put_total, head_of}
use Rattle.build_counts.specs.of_build_draft.Parts.{put_counts}
use mathlib.Core.Path.{ap, ◌∙◌}
use Rattle.merge_head.proofs.put_head.Goals as goal

pub returns : goal.returns
unfolding head_of
returns c =
    let put-field = c.put_field in
    let put-name = c.put_name in
    let put-start = c.put_start in
    let put-total = c.put_total in
    let s = c.args in
    let a = s.a.now in
    let b = s.b.now in
    c.put_counts.ensures
    ∙ ap (put_counts s.counts) (put-total.ensures
    ∙ ap (put_total a b s.nanos) (put-start.ensures
    ∙ ap (put_start a b) (put-name.ensures ∙ ap (put_name a) put-field.ensures)))
