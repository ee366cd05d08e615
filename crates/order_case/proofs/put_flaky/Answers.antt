use mathlib.Core.Path.{◌∙◌}
use Rattle.write_entries.proofs.of_write_table.Writing.{then}
use Rattle.order_case.proofs.put_flaky.Goals as goal

pub shape_of-events : goal.shape_of-events
shape_of-events c =
    let at-put-tag = c in
    let put-opening = at-put-tag.put_opening-opened in
    let put-tag2 = c.put_tag-ended in
    let put-tag3 = c.put_tag in
    put-tag3.auto.events ∙ put-tag2.auto.events ∙ at-put-tag.put_tag-run.auto.events ∙ put-opening.auto.events

pub shape_of-attributes : goal.shape_of-attributes
shape_of-attributes c =
    let at-put-tag = c in
    at-put-tag.put_opening-opened.auto.attributes

pub returns : goal.returns
returns c =
    let at-put-tag = c in
    let put-opening = at-put-tag.put_opening-opened in
    let put-tag2 = c.put_tag-ended in
    let put-tag3 = c.put_tag in
    then put-opening.ensures (then (at-put-tag.put_tag-run.ensures _) (then (put-tag2.ensures _) (put-tag3.ensures _)))
