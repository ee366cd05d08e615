use Rattle.merge_head.specs.inside.Head.{put_start}
use mathlib.Core.Path.{sym, ◌∙◌}
use Rattle.merge_head.proofs.put_start.Goals as goal

pub returns-then-is_second : goal.returns-then-is_second
unfolding put_start
returns-then-is_second c =
    let is-second = c.is_second in
    let if1 = c.if-is_second in
    rw (sym is-second.ensures ∙ if1.true) c.put_stamp.ensures

pub returns : goal.returns
unfolding put_start
returns c =
    let is-second = c.is_second in
    let if1 = c.if-is_second in
    rw (sym is-second.ensures ∙ if1.false) c.put_stamp-2.ensures
