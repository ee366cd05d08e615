use Rattle.document_printing.proofs.Trees.{left-refused, tree-written, tree-refused}
use lib.ListN.{length}
use mathlib.Core.Path.{sym}
use Rattle.document_printing.proofs.print_tree.Goals as goal

pub returns-in-Accepted : goal.returns-in-Accepted
returns-in-Accepted c =
    let a = c.args in
    let i = c.write_xml-document in
    let both = tree-written a.records.now a.text.now (length a.out.now) i.result i.ensures.value _ c.in-Accepted.is i.ensures.out_after in record { out = both.0; count = both.1 }

pub returns-in-Refused : goal.returns-in-Refused
returns-in-Refused c =
    let a = c.args in
    let i = c.write_xml-document in
    let both = left-refused (length a.out.now) i.new.out _ _ _ i.auto.out (sym (tree-refused a.records.now a.text.now (length a.out.now)
    i.result i.ensures.value c.in-Refused.is)) c.refuse.ensures.area c.refuse.ensures.count in record { out = both.0; count = both.1 }
