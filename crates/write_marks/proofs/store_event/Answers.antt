use Rattle.write_marks.proofs.Spelling.{table-entry, entry-spelt}
use Rattle.write_bytes.proofs.of_list_text.Putting.{other}
use borrow.Author.Tests.{ne_eqb}
use Rattle.write_marks.proofs.store_event.Goals as goal

pub returns-then-k-eq-TABLE : goal.returns-then-k-eq-TABLE
returns-then-k-eq-TABLE c =
    let args = c.args in
    let if1 = c.if-k-eq-TABLE in
    λ at by by' s w. c.store_entry.ensures if1.true at by by' s
    (other w (table-entry args.k.form args.k.level args.kind s if1.true))

pub returns : goal.returns
returns c =
    let args = c.args in
    λ at by by' s w. rw c.entry_more.ensures
    (entry-spelt args.k args.to args.count args.events.now at by by' (ne_eqb args.k.form 0 c.if-k-eq-TABLE.false) args.kind s w)
