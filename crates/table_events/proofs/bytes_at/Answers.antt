use mathlib.Core.Path.{◌∙◌}
use Rattle.table_events.proofs.Numbered.{bytes-lent}
use Rattle.table_events.proofs.bytes_at.Goals as goal

pub returns : goal.returns
returns c =
    let args = c.args in
    let words-at = c.words_at-words in
    let word_of = c.word_of in
    c.bytes_of.ensures ∙ bytes-lent args.events.now args.i words-at.result.now words-at.ensures args.source.now c.wide.result
    c.wide-2.result (c.wide.ensures ∙ word_of.ensures) (c.wide-2.ensures ∙ c.word_of-2.ensures)
