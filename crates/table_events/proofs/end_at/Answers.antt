use mathlib.Core.Path.{sym, ◌∙◌}
use Rattle.table_events.proofs.Numbered.{end_none, end-some}
use Rattle.table_events.proofs.end_at.Goals as goal

pub returns-then-count-eq0 : goal.returns-then-count-eq0
returns-then-count-eq0 c =
    let args = c.args in
    end_none args.events.now args.i c.words_at-words.result.now c.words_at-words.ensures (sym c.word_of-count.ensures ∙ c.if-count-eq0.true)

pub returns : goal.returns
returns c =
    let args = c.args in
    let words-at = c.words_at-words in
    let word_of = c.word_of-count in
    end-some args.events.now args.i words-at.result.now words-at.ensures (λ z. c.if-count-eq0.false (word_of.ensures ∙ z))
    c.wide.result c.wide-2.result (c.wide.ensures ∙ c.word_of.ensures) (c.wide-2.ensures ∙ word_of.ensures)
