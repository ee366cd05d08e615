use Rattle.list_values.proofs.of_list_text.Putting.{puts_none}
use Rattle.write_tags.proofs.put_before.Goals as goal

pub returns-then-form-eq-TABLE : goal.returns-then-form-eq-TABLE
returns-then-form-eq-TABLE c = rw c.if-form-eq-TABLE.true (puts_none _)
