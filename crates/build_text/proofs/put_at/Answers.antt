use Rattle.build_draft.proofs.Steps.{handed-on}
use Rattle.build_text.proofs.Putting.{put-nowhere, put_refused, put-longer, put-done}
use mathlib.Core.Path.{sym, ◌∙◌}
use Rattle.build_text.proofs.put_at.Goals as goal

pub returns-then-not-is_record : goal.returns-then-not-is_record
returns-then-not-is_record c =
    let args = c.args in
    put-nowhere args.b args.records.now args.text.now args.s.now args.i args.o args.k
    args.lossy (sym c.is_record.ensures ∙ c.if-not-is_record.true) _ _

pub returns-in_err-c : goal.returns-in_err-c
returns-in_err-c c =
    let args = c.args in
    rw (handed-on c.from_residual.result c.keep.result c.from_residual.ensures.1 c.in_err-c.was)
    (put_refused args.b args.records.now args.text.now args.s.now args.i args.o args.k args.lossy
    (sym c.is_record.ensures ∙ c.if-not-is_record.false) _ _ c.keep.ensures c.in_err-c.was)

pub overflow_sub-c : goal.overflow_sub-c
overflow_sub-c c =
    let args = c.args in
    put-longer args.b args.records.now args.text.now args.s.now args.i args.o args.k args.lossy
    (sym c.is_record.ensures ∙ c.if-not-is_record.false) _ _ c.keep.ensures c.in_ok-c.was

pub returns : goal.returns
returns c =
    let args = c.args in
    put-done args.b args.records.now args.text.now args.s.now args.i args.o args.k args.lossy
    (sym c.is_record.ensures ∙ c.if-not-is_record.false) _ _ c.keep.ensures c.in_ok-c.was c.put_into.ensures
