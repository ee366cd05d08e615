use mathlib.Core.Path.{◌∙◌}
use Rattle.list_text.proofs.Putting.{more, other}
use Rattle.sheet_text.proofs.Answered.{sheet-parts}
use Rattle.sheet_text.proofs.put_sheet.Goals as goal

pub shape_of-out : goal.shape_of-out
shape_of-out c =
    let at-put-line3 = c in
    let at-put-line2 = at-put-line3 in
    let at-put-line = at-put-line2 in
    let put-line4 = c.put_line-skipped in
    let put-disabled = c.put_disabled-disabled in
    let put-passed = c.put_passed in
    put-passed.auto.out ∙ put-disabled.auto.out ∙ put-line4.auto.out ∙ at-put-line3.put_line-errors.auto.out ∙ at-put-line2.put_line-failures.auto.out ∙ at-put-line.put_line-tests.auto.out

pub returns : goal.returns
returns c =
    let at-put-line3 = c in
    let at-put-line2 = at-put-line3 in
    let at-put-line = at-put-line2 in
    let put-line4 = c.put_line-skipped in
    let put-disabled = c.put_disabled-disabled in
    let put-passed = c.put_passed in
    let args = at-put-line.args in
    other (more at-put-line.put_line-tests.ensures (more at-put-line2.put_line-failures.ensures (more at-put-line3.put_line-errors.ensures (more put-line4.ensures
    (more put-disabled.ensures put-passed.ensures))))) (sheet-parts args.sheet)
