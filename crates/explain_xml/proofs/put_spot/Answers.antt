use mathlib.Core.Path.{◌∙◌}
use Rattle.list_text.proofs.Putting.{more, other, puts_none}
use Rattle.explain_xml.proofs.Parts.{no-spot, spot-parts}
use Rattle.explain_xml.proofs.put_spot.Goals as goal

pub returns-then-byte-eq-NOWHERE : goal.returns-then-byte-eq-NOWHERE
returns-then-byte-eq-NOWHERE c = other (puts_none _) (no-spot c.args.source.now c.args.byte c.if-byte-eq-NOWHERE.true)

pub shape_of-out : goal.shape_of-out
shape_of-out c =
    let at-put2 = c in
    let at-put-decimal = at-put2 in
    let put = at-put-decimal.put-opened in
    let put-decimal2 = c.put_decimal-counted in
    let put3 = c.put-parted in
    c.put_decimal.auto.out ∙ put3.auto.out ∙ put-decimal2.auto.out ∙ at-put2.put-lined.auto.out ∙ at-put-decimal.put_decimal-number.auto.out ∙ put.auto.out

pub returns : goal.returns
returns c =
    let at-put2 = c in
    let at-put-decimal = at-put2 in
    let at-put = at-put-decimal in
    let at-column-behind = at-put in
    let at-line-behind = at-column-behind in
    let at-before2 = at-line-behind in
    let at_wide = at-before2 in
    let at-if1 = at_wide in
    let args = at-if1.args in
    let put-decimal2 = c.put_decimal-counted in
    let put3 = c.put-parted in
    other (more at-put.put-opened.ensures
    (more at-put-decimal.put_decimal-number.ensures (more at-put2.put-lined.ensures (more put-decimal2.ensures (more put3.ensures c.put_decimal.ensures)))))
    (spot-parts args.source.now args.byte at-if1.if-byte-eq-NOWHERE.false at_wide.wide.result at-line-behind.line_behind-line.result at-column-behind.column_behind-column.result
    at-before2.before-passed.result.now at_wide.wide.ensures at-before2.before-passed.ensures at-line-behind.line_behind-line.ensures at-column-behind.column_behind-column.ensures)
