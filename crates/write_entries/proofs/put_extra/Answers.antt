use Rattle.write_marks.proofs.of_list_text.Putting.{more, other}
use Rattle.write_marks.proofs.Spelling.{table-key, pair-spelt}
use borrow.Author.Tests.{ne_eqb}
use Rattle.write_marks.specs.of_tree_report.Fields.{text_at}
use Rattle.write_marks.specs.of_tree_record.Words as word
use Rattle.write_marks.specs.of_write_escape.Escape.{escaped}
use Rattle.write_entries.proofs.put_extra.Goals as goal

pub returns-then-k-eq-TABLE : goal.returns-then-k-eq-TABLE
returns-then-k-eq-TABLE c =
    let args = c.args in
    let field = c.field in
    let field2 = c.field-2 in
    let part_of = c.part_of-key in
    let if1 = c.if-k-eq-TABLE in
    let put-raw-key = c.put_raw_key-middle in
    let put-text-at = c.put_text_at-value in
    let key-put = rw (part_of.ensures, field.ensures, field2.ensures) at put-raw-key.ensures in
    λ ev. c.store_pair.ensures if1.true ev _ _ _ (text_at args.text.now args.r.now word.key) (escaped (text_at args.text.now args.r.now word.value))
    (other key-put (table-key args.k.form (text_at args.text.now args.r.now word.key) if1.true)) put-text-at.ensures

pub returns : goal.returns
returns c =
    let args =
    c.args in
    let field = c.field in
    let field2 = c.field-2 in
    let part_of = c.part_of-key in
    let if1 = c.if-k-eq-TABLE in
    let put-raw-key = c.put_raw_key-middle in
    let put-text-at = c.put_text_at-value in
    let key-put = rw (part_of.ensures, field.ensures, field2.ensures) at put-raw-key.ensures in
    let put-quote = c.put_quote-to in
    λ ev. rw c.text_more.ensures (pair-spelt args.k put-quote.result 0 ev args.attributes.now _ _ (ne_eqb args.k.form 0 if1.false) put-raw-key.result _
    (text_at args.text.now args.r.now word.key) (escaped (text_at args.text.now args.r.now word.value)) key-put (more put-text-at.ensures put-quote.ensures))
