use mathlib.Core.Path.{sym}
use lib.Seq.{set_out}
use Rattle.tree_record.proofs.put_field.Goals as goal

pub returns-then-words-o : goal.returns-then-words-o
returns-then-words-o c = sym (set_out c.args.words.now _ _ c.if-words-o.true)
