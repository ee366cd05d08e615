use mathlib.Core.Path.{◌∙◌}
use Rattle.table_events.proofs.Numbered.{kind-past, kind-in}
use Rattle.table_events.proofs.kind_at.Goals as goal

pub returns-then-events-i : goal.returns-then-events-i
returns-then-events-i c = kind-past c.args.events.now c.args.i c.if-events-i.true

pub returns : goal.returns
returns c =
    let args = c.args in
    c.word_of.ensures ∙ kind-in args.events.now args.i c.words_at.result.now c.words_at.ensures c.if-events-i.false
