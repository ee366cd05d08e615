use Rattle.write_slots.proofs.Counting.{element-items}
use Rattle.write_entries.proofs.of_write_table.Writing.{then, said}
use Rattle.write_slots.proofs.put_element.Goals as goal

pub returns : goal.returns
returns c =
    let at-count-slots = c in
    let args = at-count-slots.args in
    let put-tag = c.put_tag-opened in
    let put-slots = c.put_slots in
    said (then (put-tag.ensures _) (put-slots.ensures _)) (element-items _ _ args.text.now args.r.now args.codes.now _ _ at-count-slots.count_slots.ensures.value)
