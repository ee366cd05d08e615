use Rattle.list_values.proofs.of_list_text.Putting.{other, puts_none}
use Rattle.write_tags.proofs.Tags.{behind-other, behind-none}
use Rattle.write_tags.proofs.put_behind.Goals as goal

pub returns-then-form-eq-TABLE : goal.returns-then-form-eq-TABLE
returns-then-form-eq-TABLE c = rw c.if-form-eq-TABLE.true (puts_none _)

pub returns-then-kind-eq-OTHER : goal.returns-then-kind-eq-OTHER
returns-then-kind-eq-OTHER c =
    let args = c.args in
    let if1 = c.if-form-eq-TABLE in
    let if2 = c.if-kind-eq-OTHER in
    other c.put.ensures (behind-other args.form args.kind if1.false if2.true)

pub returns : goal.returns
returns c = other (puts_none _) (behind-none c.args.form c.args.kind c.if-form-eq-TABLE.false c.if-kind-eq-OTHER.false)
