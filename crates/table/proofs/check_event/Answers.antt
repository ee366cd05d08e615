use Prim.Native.Nat.{◌*◌}
use mathlib.Core.Path.{sym, ◌∙◌}
use native.Mathlib.Omega.{arith}
use Rattle.table_parts.proofs.of_area.Parts.{rest_part}
use Rattle.table.proofs.Walking.{event-misshapen, event-known, event-hit, event-clear, has-attributes}
use Rattle.table.proofs.ValidTables.{shape-room}
use Rattle.table.proofs.check_event.Goals as goal

pub returns-then-not-is_shape : goal.returns-then-not-is_shape
returns-then-not-is_shape c = let args = c.args in event-misshapen _ _ _ _ _ (rest_part args.events.now (args.i * 5)) (sym c.is_shape.ensures ∙ c.if-not-is_shape.true)

pub returns-then-count-known : goal.returns-then-count-known
returns-then-count-known c =
    let args = c.args in
    let known = c.requires.known_good in
    (event-known _ _ _ _ _ (rest_part args.events.now (args.i * 5)) (sym c.is_shape.ensures ∙ c.if-not-is_shape.false) _ _ c.wide-first.ensures c.wide-count.ensures _ _ known c.if-count-known.true, known)

pub first_bad-bad-requires : goal.first_bad-bad-requires
first_bad-bad-requires c =
    let r = shape-room _ _ _ _ _ (sym c.is_shape.ensures ∙ c.if-not-is_shape.false) c.wide-first.ensures c.wide-count.ensures (has-attributes _ _ c.if-count-known.false) in omega arith

pub overflow_cast-result-then-bad-end-2 : goal.overflow_cast-result-then-bad-end-2
overflow_cast-result-then-bad-end-2 c =
    let r = shape-room _ _ _ _ _ (sym c.is_shape.ensures ∙ c.if-not-is_shape.false) c.wide-first.ensures c.wide-count.ensures (has-attributes _ _ c.if-count-known.false) in omega arith

pub returns-then-bad-end : goal.returns-then-bad-end
returns-then-bad-end c =
    let args = c.args in
    event-hit _ _ _ _ _ (rest_part args.events.now (args.i * 5)) (sym c.is_shape.ensures ∙ c.if-not-is_shape.false) _ _ c.wide-first.ensures c.wide-count.ensures _ c.first_bad-bad.ensures c.if-bad-end.true

pub returns : goal.returns
returns c =
    let args = c.args in
    event-clear _ _ _ _ _ (rest_part args.events.now (args.i * 5)) (sym c.is_shape.ensures ∙ c.if-not-is_shape.false) _ _ c.wide-first.ensures c.wide-count.ensures _ c.first_bad-bad.ensures c.if-bad-end.false
