use mathlib.Core.Path.{sym, ◌∙◌}
use Rattle.table_events.proofs.Numbered.{first-none, first_some}
use Rattle.table_events.proofs.first_at.Goals as goal

pub returns-then-word_of-eq0 : goal.returns-then-word_of-eq0
returns-then-word_of-eq0 c =
    let args = c.args in
    first-none args.events.now args.i c.words_at-words.result.now c.words_at-words.ensures (sym c.word_of.ensures ∙ c.if-word_of-eq0.true)

pub returns : goal.returns
returns c =
    let args = c.args in
    let words-at = c.words_at-words in
    c.wide.ensures ∙ c.word_of-2.ensures
    ∙ first_some args.events.now args.i words-at.result.now words-at.ensures (λ z. c.if-word_of-eq0.false (c.word_of.ensures ∙ z))
