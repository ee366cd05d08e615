use Rattle.write_marks.proofs.of_list_text.Putting.{more}
use Rattle.write_marks.proofs.Spelling.{entry-spelt}
use borrow.Author.Tests.{ne_eqb}
use Rattle.write_marks.specs.of_write_items.inside.Values.{tag_name}
use Rattle.write_entries.proofs.put_tag.Goals as goal

pub returns-then-k-eq-TABLE : goal.returns-then-k-eq-TABLE
returns-then-k-eq-TABLE c =
    let args = c.args in
    let if1 = c.if-k-eq-TABLE in
    let put-tag-name = c.put_tag_name-end in
    λ at. c.store_entry.ensures if1.true at _ _ (tag_name args.code) put-tag-name.ensures

pub returns : goal.returns
returns c =
    let args = c.args in
    let if1 = c.if-k-eq-TABLE in
    let put-before = c.put_before-from in
    let put-tag-name2 = c.put_tag_name-named in
    let put-behind = c.put_behind-to in
    λ at. rw c.entry_more.ensures (entry-spelt args.k put-behind.result args.count args.events.now at _ _ (ne_eqb args.k.form 0 if1.false) args.kind
    (tag_name args.code) (more put-before.ensures (more put-tag-name2.ensures put-behind.ensures)))
