use Rattle.write_marks.proofs.of_list_text.Putting.{more}
use mathlib.Core.List.{[]}
use Rattle.write_entries.proofs.put_bare.Goals as goal

pub returns : goal.returns
returns c =
    let put-before = c.put_before-from in
    let put-behind = c.put_behind-to in
    λ at. c.store_event.ensures at _ _ [] (more put-before.ensures put-behind.ensures)
