use Rattle.write_marks.proofs.of_list_text.Putting.{more, other}
use Rattle.write_marks.proofs.Spelling.{table-key, pair-spelt}
use borrow.Author.Tests.{ne_eqb}
use Rattle.write_marks.specs.of_write_items.inside.Values.{key_name, value_of}
use Rattle.write_entries.proofs.put_attribute.Goals as goal

pub returns-then-k-eq-TABLE : goal.returns-then-k-eq-TABLE
returns-then-k-eq-TABLE c =
    let args = c.args in
    let if1 = c.if-k-eq-TABLE in
    let put-key = c.put_key-middle in
    let put-value = c.put_value-value in
    λ ev. c.store_pair.ensures if1.true ev _ _ _ (key_name args.code) (value_of args.text.now args.r.now args.code)
    (other put-key.ensures (table-key args.k.form (key_name args.code) if1.true)) put-value.ensures

pub returns : goal.returns
returns c =
    let args = c.args in
    let if1 = c.if-k-eq-TABLE in
    let put-key = c.put_key-middle in
    let put-value = c.put_value-value in
    let put-quote = c.put_quote-to in
    λ ev. rw c.text_more.ensures (pair-spelt args.k put-quote.result 0 ev args.attributes.now _ _ (ne_eqb args.k.form 0 if1.false) put-key.result _
    (key_name args.code) (value_of args.text.now args.r.now args.code) put-key.ensures (more put-value.ensures put-quote.ensures))
