use mathlib.Core.Path.{ap, ◌∙◌}
use Rattle.area.proofs.Parts.{rest_part}
use Rattle.list_input.specs.Input.{word_of}
use Rattle.list_input.proofs.numbers_of.Goals as goal

pub returns : goal.returns
returns c =
    let args = c.args in
    let w = c.word_of in
    let wide = c.wide in
    let word-of2 = c.word_of-2 in record { events_value = (wide.ensures.0 ∙ w.ensures, wide.ensures.1); attributes_value = (c.wide-2.ensures.0 ∙ word-of2.ensures ∙ ap word_of (rest_part args.s.now 4), c.wide-2.ensures.1); source_value = (c.wide-3.ensures.0 ∙ c.word_of-3.ensures ∙ ap word_of (rest_part args.s.now 8), c.wide-3.ensures.1) }
