use Prim.Native.Nat.{ℕ}
use mathlib.Core.Path.{ap, ◌∙◌}
use Rattle.explain_text.proofs.of_list_text.Putting.{other}
use Rattle.explain_text.specs.Sentences.{sentence}
use Rattle.explain_lines.specs.Lines.{line_in}
use Rattle.explain_sentence.specs.inside.Place.{place_by}
use Rattle.explain_sentence.proofs.Table.{table, sentence-at}
use Rattle.explain_sentence.proofs.put_sentence.Goals as goal

pub returns : goal.returns
unfolding sentence
returns c =
    let args = c.args in
    let place-of = c.place_of in
    let place-by = c.place_by in
    let place = place-by.ensures ∙ ap (λ (n : ℕ). place_by n args.lent) place-of.ensures in
    other c.put.ensures (c.line_in.ensures ∙ ap (λ (n : ℕ). line_in n table) place ∙ sentence-at args.cause args.lent)
