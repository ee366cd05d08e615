use Prim.Native.Nat.{ℕ}
use mathlib.Core.List.{List}
use mathlib.Core.Path.{sym, ap, ◌∙◌}
use native.Mathlib.Omega.{arith}
use lib.ListN.{get_or}
use Rattle.utf8.proofs.of_area.Parts.{rest_part}
use Rattle.utf8.specs.Utf8.{runs}
use Rattle.utf8.proofs.Runs.{need-most, width-empty, width-found, width-missed}
use Rattle.utf8_chars.proofs.char_width.Goals as goal

pub returns-then-s-eq0 : goal.returns-then-s-eq0
returns-then-s-eq0 c = sym (width-empty c.args.s.now c.if-s-eq0.true)

pub overflow_add-result : goal.overflow_add-result
overflow_add-result c =
    let args = c.args in
    let need-of = c.need_of-n in
    omega (arith, need-most (get_or args.s.now 0 0), need-of.ensures)

pub returns-then-runs_of : goal.returns-then-runs_of
returns-then-runs_of c =
    let need-of = c.need_of-n in
    let s = c.args.s.now in
    width-found s _ _ _ (omega arith) need-of.ensures c.low_of.ensures c.high_of.ensures _
    (c.runs_of.ensures ∙ ap (λ (l : List ℕ). runs l need-of.result c.low_of.result c.high_of.result) (rest_part s 1)) c.if-runs_of.true

pub returns : goal.returns
returns c =
    let need-of = c.need_of-n in
    let s = c.args.s.now in
    width-missed s _ _ _ (omega arith) need-of.ensures c.low_of.ensures c.high_of.ensures _
    (c.runs_of.ensures ∙ ap (λ (l : List ℕ). runs l need-of.result c.low_of.result c.high_of.result) (rest_part s 1)) c.if-runs_of.false
