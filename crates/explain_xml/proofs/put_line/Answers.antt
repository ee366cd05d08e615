use mathlib.Core.Path.{◌∙◌}
use Rattle.list_text.proofs.Putting.{more, other}
use Rattle.explain_xml.proofs.Parts.{line-parts}
use Rattle.explain_xml.proofs.put_line.Goals as goal

pub shape_of-out : goal.shape_of-out
shape_of-out c =
    let at-put-spot = c in
    let at-put-decimal = at-put-spot in
    let put = at-put-decimal.put-opened in
    let put2 = c.put-colon in
    let put-sentence = c.put_sentence-sentence in
    c.put.auto.out ∙ put-sentence.auto.out ∙ put2.auto.out ∙ at-put-spot.put_spot-spot.auto.out ∙ at-put-decimal.put_decimal-told.auto.out ∙ put.auto.out

pub returns : goal.returns
returns c =
    let at-put-spot = c in
    let at-put-decimal = at-put-spot in
    let at-put = at-put-decimal in
    let at-holds-most2 = at-put in
    let at-holds-most = at-holds-most2 in
    let at_wide = at-holds-most in
    let args = at_wide.args in
    let put2 = c.put-colon in
    let put-sentence = c.put_sentence-sentence in
    other (more at-put.put-opened.ensures (more at-put-decimal.put_decimal-told.ensures
    (more at-put-spot.put_spot-spot.ensures (more put2.ensures (more put-sentence.ensures c.put.ensures))))) (line-parts args.source.now args.byte
    args.number at_wide.wide.result args.events args.attributes at_wide.wide.ensures at-holds-most.holds_most-many_events.ensures at-holds-most2.holds_most-many_attributes.ensures)
