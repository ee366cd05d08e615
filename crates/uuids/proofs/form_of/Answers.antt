use mathlib.Core.Path.{◌∙◌}
use native.Mathlib.Omega.{arith}
use Rattle.fixed.proofs.Numerals.{field-most}
use Rattle.fixed.specs.Fields.{part}
use Rattle.uuids.proofs.Forms.{form-length, form-first, form-second, form-third, form-fourth, form-fifth, form-last, form-wrong, form-right}
use Rattle.uuids.proofs.form_of.Goals as goal

pub returns-then-s-ne36 : goal.returns-then-s-ne36
returns-then-s-ne36 c = form-length _ c.if-s-ne36.true

pub returns-in_err-first : goal.returns-in_err-first
returns-in_err-first c = c.from_residual.ensures ∙ form-first c.args.s.now c.if-s-ne36.false c.in_err-first.ensures

pub returns-in_err-second : goal.returns-in_err-second
returns-in_err-second c = c.from_residual-in_err-second.ensures ∙ form-second c.args.s.now c.if-s-ne36.false c.in_err-second.ensures

pub returns-in_err-third : goal.returns-in_err-third
returns-in_err-third c = c.from_residual-in_err-third.ensures ∙ form-third c.args.s.now c.if-s-ne36.false c.in_err-third.ensures

pub returns-in_err-fourth : goal.returns-in_err-fourth
returns-in_err-fourth c = c.from_residual-in_err-fourth.ensures ∙ form-fourth c.args.s.now c.if-s-ne36.false c.in_err-fourth.ensures

pub returns-in_err-fifth : goal.returns-in_err-fifth
returns-in_err-fifth c = c.from_residual-in_err-fifth.ensures ∙ form-fifth c.args.s.now c.if-s-ne36.false c.in_err-fifth.ensures

pub returns-in_err-last : goal.returns-in_err-last
returns-in_err-last c = c.from_residual-in_err-last.ensures ∙ form-last c.args.s.now c.if-s-ne36.false c.in_err-last.ensures

pub overflow_mul-result : goal.overflow_mul-result
overflow_mul-result c =
    let s = c.args.s.now in
    let x = field-most 16 0xFFFF (part 9 4 s) _ c.in_ok-second.ensures in
    omega arith

pub overflow_add-result : goal.overflow_add-result
overflow_add-result c =
    let s = c.args.s.now in
    let x = field-most 16 0xFFFF (part 9 4 s) _ c.in_ok-second.ensures in
    let y = field-most 16 0xFFFF (part 14 4 s) _ c.in_ok-third.ensures in
    omega arith

pub overflow_mul-result-then-s : goal.overflow_mul-result-then-s
overflow_mul-result-then-s c =
    let s = c.args.s.now in
    let x = field-most 16 0xFFFF (part 19 4 s) _ c.in_ok-fourth.ensures in
    omega arith

pub overflow_add-result-then-s : goal.overflow_add-result-then-s
overflow_add-result-then-s c =
    let s = c.args.s.now in
    let x = field-most 16 0xFFFF (part 19 4 s) _ c.in_ok-fourth.ensures in
    let y = field-most 16 0xFFFF (part 24 4 s) _ c.in_ok-fifth.ensures in
    omega arith

pub returns-then-s : goal.returns-then-s
returns-then-s c =
    form-right c.args.s.now c.if-s-ne36.false _ _ _ _ _ _ c.in_ok-first.ensures c.in_ok-second.ensures c.in_ok-third.ensures c.in_ok-fourth.ensures c.in_ok-fifth.ensures c.in_ok-last.ensures
    c.if-s.true

pub returns : goal.returns
returns c =
    form-wrong c.args.s.now c.if-s-ne36.false _ _ _ _ _ _ c.in_ok-first.ensures c.in_ok-second.ensures c.in_ok-third.ensures c.in_ok-fourth.ensures c.in_ok-fifth.ensures c.in_ok-last.ensures
    c.if-s.false
