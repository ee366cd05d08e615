use Prim.Native.Nat.{ℕ}
use mathlib.Core.Path.{ap, ◌∙◌}
use Rattle.list_text.proofs.Putting.{other}
use Rattle.explain_lines.specs.Lines.{line_in}
use Rattle.explain_xml.specs.inside.Place.{place_of}
use Rattle.explain_xml.proofs.Table.{table, sentence-at}
use Rattle.explain_xml.proofs.put_sentence.Goals as goal

pub shape_of-out : goal.shape_of-out
shape_of-out c = c.put.auto.out

pub returns : goal.returns
returns c =
    let args = c.args in
    let short-place = c.short_place-short in
    let place-of = c.place_of in
    other c.put.ensures
    (c.line_in.ensures ∙ ap (λ (n : ℕ). line_in n table) (place-of.ensures ∙ ap (place_of args.number args.ended) short-place.ensures)
    ∙ sentence-at args.number args.ended args.events args.attributes)
