use Rattle.write_marks.proofs.Spelling.{table-key, table-value, pair-spelt}
use Rattle.write_bytes.proofs.of_list_text.Putting.{other}
use borrow.Author.Tests.{ne_eqb}
use Rattle.write_marks.proofs.store_attribute.Goals as goal

pub returns-then-k-eq-TABLE : goal.returns-then-k-eq-TABLE
returns-then-k-eq-TABLE c =
    let args = c.args in
    let if1 = c.if-k-eq-TABLE in
    λ ev by by' by'' key value w v. c.store_pair.ensures if1.true ev by by' by'' key value
    (other w (table-key args.k.form key if1.true)) (other v (table-value args.k.form value if1.true))

pub returns : goal.returns
returns c =
    let args = c.args in
    λ ev by by' by'' key value w v. rw c.text_more.ensures
    (pair-spelt args.k args.to 0 ev args.attributes.now by by'' (ne_eqb args.k.form 0 c.if-k-eq-TABLE.false) args.middle by' key value w v)
