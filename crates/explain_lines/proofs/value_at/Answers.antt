use mathlib.Core.Path.{◌∙◌}
use Rattle.explain_lines.proofs.Attributes.{lent-part, no_value}
use Rattle.explain_lines.proofs.value_at.Goals as goal

pub returns-then-n-j : goal.returns-then-n-j
returns-then-n-j c =
    let args = c.args in
    c.bytes_of.ensures ∙ no_value args.attributes.now args.source.now args.j c.if-n-j.true

pub returns : goal.returns
returns c =
    let args = c.args in
    let word_of = c.word_of in
    (rw (c.wide.ensures, c.wide-2.ensures, word_of.ensures, c.word_of-2.ensures) at c.bytes_of-2.ensures)
    ∙ lent-part args.attributes.now args.source.now args.j 3 4
