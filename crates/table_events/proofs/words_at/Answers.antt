use Rattle.table_events.proofs.Numbered.{words-past, words-in}
use Rattle.table_events.proofs.words_at.Goals as goal

pub returns-then-n-i : goal.returns-then-n-i
returns-then-n-i c = words-past c.args.events.now c.args.i c.if-n-i.true

pub returns : goal.returns
returns c = words-in c.args.events.now c.args.i c.if-n-i.false
