use Rattle.write_form.proofs.Forms.{form-open, form-empty, form-other, form-free, form-same}
use Rattle.write_form.proofs.form_behind.Goals as goal

pub returns-then-kind : goal.returns-then-kind
returns-then-kind c = form-open c.args.form c.args.kind c.if-kind.true

pub returns-then-kind-eq-EMPTY : goal.returns-then-kind-eq-EMPTY
returns-then-kind-eq-EMPTY c = form-empty c.args.form c.args.kind c.if-kind-eq-EMPTY.true

pub returns-then-kind-eq-OTHER : goal.returns-then-kind-eq-OTHER
returns-then-kind-eq-OTHER c = form-other c.args.form c.args.kind c.if-kind-eq-OTHER.true

pub returns-then-is_text-kind : goal.returns-then-is_text-kind
returns-then-is_text-kind c =
    let args = c.args in
    let if1 = c.if-kind in
    form-free args.form args.kind if1.false c.if-kind-eq-EMPTY.false c.if-kind-eq-OTHER.false _ c.is_text.ensures c.if-is_text-kind.true

pub returns-else-is_text-kind : goal.returns-else-is_text-kind
returns-else-is_text-kind c =
    let args = c.args in
    let if1 = c.if-kind in
    form-same args.form args.kind if1.false c.if-kind-eq-EMPTY.false c.if-kind-eq-OTHER.false _ c.is_text.ensures c.if-is_text-kind.false
