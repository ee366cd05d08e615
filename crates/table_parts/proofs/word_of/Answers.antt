use mathlib.Core.Path.{sym}
use lib.ListN.{get_or-eq_default}
use Rattle.table_parts.proofs.word_of.Goals as goal

pub returns : goal.returns
returns c = sym (get_or-eq_default c.args.words.now 0 c.if-k-words.false)
