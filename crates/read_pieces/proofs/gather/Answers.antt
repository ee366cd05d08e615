use Rattle.read_pieces.proofs.Gathering.{over-length}
use Rattle.read_pieces.proofs.Gathering.{over-gathered}
use Rattle.read_scratch.specs.of_read_state.declared.Mode.{Mode as CodedMode}
use Rattle.read_scratch.specs.of_read_content.inside.Holds.{Sized}
use lib.ListN.{length}
use mathlib.Core.Path.{subst}
use Prim.Native.Nat.{ℕ}
use Rattle.read_pieces.proofs.Gathering.{from-fits, piece-fits, piece-told, over-holds, moves, both, neither}
use Rattle.read_scratch.specs.inside.Places.{piece_from}
use Rattle.read_scratch.specs.of_table.Event.{piece_kind, piece_bytes}
use mathlib.Core.Path.{sym, ap, ◌∙◌}
use native.Mathlib.Omega.{arith}
use Rattle.read_pieces.proofs.gather.Goals as goal

pub slice_bounds-gather_piece-count : goal.slice_bounds-gather_piece-count
slice_bounds-gather_piece-count c = let f = from-fits c.args.mode c.args.content
    c.requires.description_in_bounds c.requires.gathered_in_bounds c.piece_from-from.ensures in omega arith

pub slice_bounds-gather_piece-start : goal.slice_bounds-gather_piece-start
slice_bounds-gather_piece-start c = let f = from-fits c.args.mode c.args.content
    c.requires.description_in_bounds c.requires.gathered_in_bounds c.piece_from-from.ensures in omega arith

pub returns-then-is_full-may_move : goal.returns-then-is_full-may_move
returns-then-is_full-may_move c =
    let start = c in
    let piece-from = c.piece_from-from in
    let gather-piece = c.gather_piece-piece in
    let is-full = c.is_full in
    let may-move = c.may_move in
    let if1 = c.if-is_full-may_move in
    let e = moves start.args.mode start.args.content (sym may-move.ensures ∙ both is-full.result may-move.result if1.true) in
    λ rooms p s l o m words text attributes source pa ga hd li sz.
    over-gathered start.args.mode l o m p words text _ attributes source start.args.content s rooms
    (piece_kind start.args.kind) (piece_bytes start.args.kind start.args.bytes.now) _ e li
    (λ x. c.gather_over.ensures rooms p s l o m words text attributes source pa
    (over-holds hd (piece_kind start.args.kind) (piece_bytes start.args.kind start.args.bytes.now) piece-from.result
    (piece-from.ensures ∙ ap (λ (k : CodedMode). piece_from k start.args.content) e) gather-piece.ensures.out_after) x
    (subst (λ (n : ℕ). Sized rooms (length words) (length text) n) (sym (over-length (piece_kind start.args.kind) (piece_bytes start.args.kind start.args.bytes.now)
    start.args.scratch.now piece-from.result (from-fits start.args.mode start.args.content start.requires.description_in_bounds start.requires.gathered_in_bounds piece-from.ensures) gather-piece.ensures.out_after)) sz))

pub told-requires : goal.told-requires
told-requires c =
    let args = c.args in
    let pre = c.requires in
    let piece-from = c.piece_from-from in
    let gather-piece = c.gather_piece-piece in
    let e = piece-from.ensures in
    let h = piece-fits args.scratch.now piece-from.result gather-piece.result (piece_kind args.kind) (piece_bytes args.kind args.bytes.now)
    (from-fits args.mode args.content pre.description_in_bounds pre.gathered_in_bounds e) gather-piece.ensures.result_value in
    omega arith

pub returns : goal.returns
returns c =
    let args = c.args in
    let piece-from = c.piece_from-from in
    let gather-piece = c.gather_piece-piece in
    λ rooms p s l o m words text attributes source pa ga hd li sz.
    piece-told hd sz p pa args.mode l o m ga li (piece_kind args.kind) (piece_bytes args.kind args.bytes.now) piece-from.result piece-from.ensures
    gather-piece.result
    (λ x. sym c.may_move.ensures
    ∙ neither c.is_full.result c.may_move.result c.if-is_full-may_move.false (c.is_full.ensures ∙ x))
    gather-piece.ensures.result_value gather-piece.ensures.out_after c.told.ensures
