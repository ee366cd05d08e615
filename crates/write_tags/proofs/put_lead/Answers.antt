use Rattle.list_values.proofs.of_list_text.Putting.{puts_none}
use Rattle.write_tags.proofs.put_lead.Goals as goal

pub returns-then-form-eq-FREE : goal.returns-then-form-eq-FREE
returns-then-form-eq-FREE c = rw c.if-form-eq-FREE.true (puts_none _)
