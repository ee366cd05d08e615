use Rattle.write_marks.proofs.of_list_text.Putting.{more, other}
use Rattle.write_marks.proofs.Spelling.{entry-spelt}
use borrow.Author.Tests.{ne_eqb}
use Rattle.write_marks.specs.of_tree_report.Fields.{text_at}
use Rattle.write_marks.specs.of_write_escape.Escape.{escaped}
use Rattle.write_entries.proofs.Entries.{text-alone}
use Rattle.write_entries.proofs.put_text.Goals as goal

pub returns-then-k-eq-TABLE : goal.returns-then-k-eq-TABLE
returns-then-k-eq-TABLE c =
    let args = c.args in
    let if1 = c.if-k-eq-TABLE in
    let put-text-at = c.put_text_at-end in
    λ at. c.store_entry.ensures if1.true at _ _ (escaped (text_at args.text.now args.r.now args.o)) put-text-at.ensures

pub returns : goal.returns
returns c =
    let args = c.args in
    let if1 = c.if-k-eq-TABLE in
    let put-before = c.put_before-from in
    let put-text-at2 = c.put_text_at-to in
    λ at. rw c.entry_more.ensures (entry-spelt args.k put-text-at2.result 0 args.events.now at _ _ (ne_eqb args.k.form 0 if1.false) 3
    (escaped (text_at args.text.now args.r.now args.o))
    (more put-before.ensures (other put-text-at2.ensures (text-alone args.k.form (escaped (text_at args.text.now args.r.now args.o))))))
