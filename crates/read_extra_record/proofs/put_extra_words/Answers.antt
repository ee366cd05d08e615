use Rattle.read_element.specs.of_tree_put.Put.{put_text}
use mathlib.Core.Path.{ap, ◌∙◌}
use Prim.Native.Nat.{◌-◌}
use Rattle.read_extra_record.proofs.put_extra_words.Goals as goal

pub returns : goal.returns
returns c =
    let put-field = c.put_field in
    let put-text = c.put_text in
    let a = c.args in
    c.put_text-2.ensures ∙ ap (put_text 4 1 a.middle (a.end - a.middle)) (put-text.ensures ∙ ap (put_text 2 0 a.start (a.middle - a.start)) put-field.ensures)
