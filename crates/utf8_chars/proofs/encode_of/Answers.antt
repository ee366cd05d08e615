use mathlib.Core.Path.{refl, sym, ◌∙◌}
use native.Mathlib.Omega.{arith}
use Rattle.utf8.proofs.Forms.{form-0, form-1, form-2, form-3, form-4, scalar-most}
use Rattle.utf8_chars.proofs.encode_of.Goals as goal

pub returns-then-not-is_scalar : goal.returns-then-not-is_scalar
returns-then-not-is_scalar c = let e = form-0 c.args.c (sym c.is_scalar.ensures ∙ c.if-not-is_scalar.true) in rw e (refl, refl)

pub returns-then-c-lt128 : goal.returns-then-c-lt128
returns-then-c-lt128 c =
    let args = c.args in
    let e = form-1 args.c (sym c.is_scalar.ensures ∙ c.if-not-is_scalar.false) c.if-c-lt128.true in rw (e, c.low8.ensures) (refl, refl)

pub returns-then-c-lt2048 : goal.returns-then-c-lt2048
returns-then-c-lt2048 c =
    let args = c.args in
    let is-scalar = c.is_scalar in
    let if1 = c.if-not-is_scalar in
    let e = form-2 args.c (sym is-scalar.ensures ∙ if1.false) c.if-c-lt128.false c.if-c-lt2048.true in
    rw (e, c.low8-then-c-lt2048.ensures, c.low8-last.ensures) (refl, refl)

pub returns-then-c-lt65536 : goal.returns-then-c-lt65536
returns-then-c-lt65536 c =
    let args = c.args in
    let is-scalar = c.is_scalar in
    let if1 = c.if-not-is_scalar in
    let low82 = c.low8-last in
    let e = form-3 args.c (sym is-scalar.ensures ∙ if1.false) c.if-c-lt2048.false c.if-c-lt65536.true in
    rw (e, c.low8-then-c-lt65536.ensures, c.low8-third.ensures, low82.ensures) (refl, refl)

pub low8-requires-2 : goal.low8-requires-2
low8-requires-2 c =
    let args = c.args in
    let is-scalar = c.is_scalar in
    let if1 = c.if-not-is_scalar in
    omega (arith, scalar-most args.c (sym is-scalar.ensures ∙ if1.false))

pub returns : goal.returns
returns c =
    let args = c.args in
    let is-scalar = c.is_scalar in
    let if1 = c.if-not-is_scalar in
    let low82 = c.low8-last in
    let e = form-4 args.c (sym is-scalar.ensures ∙ if1.false) c.if-c-lt65536.false in
    rw (e, c.low8-2.ensures, c.low8-3.ensures, c.low8-third.ensures, low82.ensures) (refl, refl)
