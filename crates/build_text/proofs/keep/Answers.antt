use native.Mathlib.Omega.{arith}
use mathlib.Core.Path.{◌≡◌}
use Rattle.std.specs.Prelude.{Some}
use Rattle.std.proofs.lemmas.Result.{err_from_is_err_and}
use Rattle.build_draft.specs.of_refusal.declared.Cause.TheVariants as cause
use Rattle.build_text.proofs.Keeping.{kept-foul, kept-behind, kept_full, kept-done}
use Rattle.build_text.proofs.keep.Goals as goal

pub returns-then-is_refused : goal.returns-then-is_refused
returns-then-is_refused c =
    let args = c.args in
    λ words. kept-foul args.b args.text.now args.s.now args.lossy c.is_refused.ensures c.if-is_refused.true words _

pub returns-then-limit-fill : goal.returns-then-limit-fill
returns-then-limit-fill c =
    let args = c.args in
    λ words.
    kept-behind args.b args.text.now args.s.now args.lossy c.is_refused.ensures c.if-is_refused.false c.least-limit.ensures c.if-limit-fill.true words _

pub returns-in_err-n : goal.returns-in_err-n
returns-in_err-n c =
    let args = c.args in
    let full = c.in_err-n.ensures.ok_part in
    let p = err_from_is_err_and c.from_residual.result c.from_residual.ensures.1 in
    let v = rw full at c.in_err-n.ensures.value in
    let e : c.in_err-n.field-0.0 ≡ cause.TextFull = cc in
    rw (p.1, p.2, e)
    (λ words.
    kept_full args.b args.text.now args.s.now args.lossy c.is_refused.ensures c.if-is_refused.false
    c.least-limit.ensures c.if-limit-fill.false full c.store_text.ensures.result_value words _)

pub returns : goal.returns
returns c =
    let args = c.args in
    let v = c.ok_or.ensures.value in
    let w = c.in_ok-n.was in
    let e : c.store_text.result ≡ Some c.in_ok-n.n = grind arith in
    kept-done args.b args.text.now args.s.now args.lossy c.is_refused.ensures c.if-is_refused.false
    c.least-limit.ensures c.if-limit-fill.false e c.store_text.ensures.result_value c.store_text.ensures.out_after
