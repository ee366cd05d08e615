use Rattle.write_document.proofs.Documents.{head-parts}
use Rattle.write_marks.proofs.of_write_table.Writing.{then, said}
use Rattle.write_document.proofs.put_head.Goals as goal

pub returns : goal.returns
returns c =
    let at-put-declaration = c in
    let args = at-put-declaration.args in
    let put-element = c.put_element in
    said (then (at-put-declaration.put_declaration-declared.ensures _) put-element.ensures) (head-parts args.text.now args.r.now)
