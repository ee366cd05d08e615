use mathlib.Core.Path.{◌∙◌}
use Rattle.explain_sentence.proofs.of_list_text.Putting.{more, other}
use Rattle.explain.proofs.Line.{line-parts}
use Rattle.explain.proofs.put_line.Goals as goal

pub shape_of-out : goal.shape_of-out
shape_of-out c =
    let at-put2 = c in
    let at-put-path = at-put2 in
    let at-put-decimal = at-put-path in
    let put = at-put-decimal.put-opened in
    let put-sentence = c.put_sentence-sentence in
    let put-place = c.put_place-table in
    c.put.auto.out ∙ put-place.auto.out ∙ put-sentence.auto.out ∙ at-put2.put-colon.auto.out ∙ at-put-path.put_path-place.auto.out ∙ at-put-decimal.put_decimal-number.auto.out ∙ put.auto.out

pub returns : goal.returns
returns c =
    let at-put2 = c in
    let at-put-path = at-put2 in
    let at-put-decimal = at-put-path in
    let at-number-of = at-put-decimal in
    let put = at-number-of.put-opened in
    let put-sentence = c.put_sentence-sentence in
    let put-place = c.put_place-table in
    let a = c.args in
    other (more put.ensures (more at-put-decimal.put_decimal-number.ensures
    (more at-put-path.put_path-place.ensures (more at-put2.put-colon.ensures (more put-sentence.ensures (more put-place.ensures c.put.ensures))))))
    (line-parts a.events.now a.attributes.now a.source.now a.refusal a.lent at-number-of.number_of.ensures)
