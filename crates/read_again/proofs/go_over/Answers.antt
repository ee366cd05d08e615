use Rattle.std.specs.Prelude.{Option, Some}
use Rattle.read_again.specs.declared.Again.{Again}
use mathlib.Core.Path.{refl, sym, ap, subst, ◌∙◌}
use mathlib.Core.Bool.{true}
use native.Mathlib.Omega.{arith}
use Rattle.read_pieces.specs.of_area.Area.{stored_answer}
use Rattle.read_pieces.proofs.of_area.Laying.{put-fits}
use Prim.Native.Nat.{◌-◌}
use lib.ListN.{length}
use Rattle.read_pieces.specs.of_table.Event.{tag_kind, piece_kind, piece_bytes}
use Rattle.read_again.specs.Told.{added}
use Rattle.read_pieces.specs.of_read_state.Control.{status}
use Rattle.read_pieces.specs.of_read_state.inside.Coded.{output_of, mode_at}
use Rattle.read_pieces.specs.of_read_rules.Rules.{plan_at}
use Rattle.read_again.specs.declared.Led.{Led}
use Rattle.read_again.specs.inside.Turns.{Leads, Turned}
use Rattle.read_again.proofs.Turning.{in_table, turn-eof, turn-fault, turn-piece, turn-over, turn-to, turn-skip, turn_end}
use Rattle.read_pieces.specs.of_refusal.declared.Cause.TheVariants as cause
use Rattle.read_again.proofs.go_over.Goals as goal

pub returns-then-kind-eq-EOF : goal.returns-then-kind-eq-EOF
returns-then-kind-eq-EOF c =
    let a = c.args in
    (turn-eof a.events.now a.source.now a.at _ c.kind_at-kind.ensures c.if-kind-eq-EOF.true, refl)

pub returns-then-kind-eq-FAULT : goal.returns-then-kind-eq-FAULT
returns-then-kind-eq-FAULT c =
    let start = c in
    let a = start.args in
    let e = c.kind_at-kind.ensures in
    let h = c.if-kind-eq-EOF.false in
    (turn-fault a.events.now a.source.now a.at _ e h c.if-kind-eq-FAULT.true, refl)

pub overflow_add-next : goal.overflow_add-next
overflow_add-next c =
    let start = c in
    let a = start.args in
    let e = c.kind_at-kind.ensures in
    let h = c.if-kind-eq-EOF.false in
    let z = in_table a.events.now a.source.now a.at _ e h in omega arith

pub returns-in_err-n : goal.returns-in_err-n
returns-in_err-n c =
    let a = c.args in
    let e = c.kind_at-kind.ensures in
    let h = c.if-kind-eq-EOF.false in
    let x = c.bytes_at-bytes in
    let g = c.in_err-n.ensures in
    rw c.from_residual.ensures (turn-over a.events.now a.source.now a.at _ e h c.requires.known x.result.now x.ensures
    a.out.now _ (g.out_after (output_of a.at.output)) (sym c.is_piece.ensures ∙ c.if-is_piece.true) (g.result_value (output_of a.at.output)))

pub overflow_add-result : goal.overflow_add-result
overflow_add-result c =
    let a = c.args in
    let k = c.kind_at-kind.result in
    let x = c.bytes_at-bytes in
    let f = put-fits cause.ScratchFull (length a.out.now - a.at.fill) (added (mode_at a.at.mode status (output_of a.at.output)) (piece_kind k) (piece_bytes k x.result.now))
    _ (c.in_ok-n.ensures.result_value (output_of a.at.output)) in
    let y = c.requires.fill_in_bounds in
    omega (arith, f.0, f.1)

pub returns-then-is_piece : goal.returns-then-is_piece
returns-then-is_piece c =
    let a = c.args in
    let e = c.kind_at-kind.ensures in
    let h = c.if-kind-eq-EOF.false in
    let x = c.bytes_at-bytes in
    let g = c.in_ok-n.ensures in
    turn-piece a.events.now a.source.now a.at _ e h c.requires.known x.result.now x.ensures
    a.out.now _ (g.out_after (output_of a.at.output)) (sym c.is_piece.ensures ∙ c.if-is_piece.true) _ (g.result_value (output_of a.at.output))

pub skip_from-requires : goal.skip_from-requires
skip_from-requires c =
    let start = c in
    let a = start.args in
    let e = c.kind_at-kind.ensures in
    let h = c.if-kind-eq-EOF.false in
    in_table a.events.now a.source.now a.at _ e h

pub returns-in-To : goal.returns-in-To
returns-in-To c =
    let kind-at = c.kind_at-kind in
    let is-piece = c.is_piece in
    let if3 = c.if-is_piece in
    let start = c in
    let a = start.args in
    let e = kind-at.ensures in
    let h = c.if-kind-eq-EOF.false in
    let h' = c.if-kind-eq-FAULT.false in
    let x = c.bytes_at-bytes in
    let p = sym is-piece.ensures ∙ if3.false in
    let w = c.lead-led in
    let k = kind-at in
    turn-to a.events.now a.source.now a.at _ e h start.requires.known x.result.now x.ensures p h' a.out.now _ _ (subst (λ (r : Led).
    Leads (plan_at (mode_at a.at.mode status (output_of a.at.output)) true (tag_kind k.result) x.result.now) x.result.now r) c.in-To.is w.ensures)

pub returns-in-Skip : goal.returns-in-Skip
returns-in-Skip c =
    let kind-at = c.kind_at-kind in
    let is-piece = c.is_piece in
    let if3 = c.if-is_piece in
    let start = c in
    let a = start.args in
    let e = kind-at.ensures in
    let h = c.if-kind-eq-EOF.false in
    let h' = c.if-kind-eq-FAULT.false in
    let x = c.bytes_at-bytes in
    let p = sym is-piece.ensures ∙ if3.false in
    let w = c.lead-led in
    let k = kind-at in
    subst (λ (r : Option Again). Turned a.events.now a.source.now a.out.now a.out.now a.at (Some r)) (sym c.turn_behind.ensures)
    (turn-skip a.events.now a.source.now a.at _ e h start.requires.known x.result.now x.ensures p h'
    (subst (λ (r : Led). Leads (plan_at (mode_at a.at.mode status (output_of a.at.output)) true (tag_kind k.result) x.result.now) x.result.now r)
    c.in-Skip.is w.ensures) a.out.now c.skip_from.result c.skip_from.ensures)

pub returns-in-End : goal.returns-in-End
returns-in-End c =
    let kind-at = c.kind_at-kind in
    let is-piece = c.is_piece in
    let start = c in
    let a = start.args in
    let e = kind-at.ensures in
    let h = c.if-kind-eq-EOF.false in
    let h' = c.if-kind-eq-FAULT.false in
    let x = c.bytes_at-bytes in
    let p = sym is-piece.ensures ∙ c.if-is_piece.false in
    let w = c.lead-led in
    let k = kind-at in (
      turn_end a.events.now a.source.now a.at _ e h start.requires.known x.result.now x.ensures p h' (subst (λ (r : Led).
          Leads (plan_at (mode_at a.at.mode status (output_of a.at.output)) true (tag_kind k.result) x.result.now) x.result.now r) c.in-End.is w.ensures),
      refl,
    )
