use Rattle.read_pieces.proofs.Gathering.{text-gathers}
use Rattle.read_scratch.specs.of_read_content.inside.Holds.{Sized}
use mathlib.Core.Path.{subst}
use Prim.Native.Nat.{ℕ}
use Rattle.read_pieces.proofs.Gathering.{piece-fits, piece-told, fronted-holds, fronted-lists}
use Rattle.read_pieces.specs.inside.Pieces.{told_by}
use Rattle.read_scratch.specs.of_read_content.declared.Content.{Content as CodedContent}
use Rattle.read_scratch.specs.inside.Places.{piece_from, fronted_in}
use Rattle.read_scratch.specs.of_read_state.declared.Mode.TheVariants as mode
use Rattle.read_scratch.specs.of_table.Event.{piece_kind, piece_bytes}
use lib.ListN.{length}
use mathlib.Core.Path.{◌≡◌, refl, sym, ap, ◌∙◌}
use native.Mathlib.Omega.{arith}
use Rattle.read_pieces.proofs.gather_over.Goals as goal

pub told-requires : goal.told-requires
told-requires c =
    let l = c.move_front.new.area in
    let k = c.move_front.auto.area in
    let q = c.requires in
    let f : piece_from mode.Text c.fronted.result
    ≡ piece_from mode.Text (fronted_in c.args.content) =
    ap (piece_from mode.Text) c.fronted.ensures in
    let h = piece-fits l c.args.content.gathered
    c.gather_piece-piece.result
    (piece_kind c.args.kind)
    (piece_bytes c.args.kind
    c.args.bytes.now)
    (omega arith) c.gather_piece-piece.ensures.result_value in
    omega arith

pub returns : goal.returns
returns c =
    let args = c.args in
    let move-front = c.move_front in
    let gather-piece = c.gather_piece-piece in
    λ rooms p s l o m words text attributes source pa hd li sz.
    piece-told (fronted-holds hd move-front.ensures) (subst (λ (n : ℕ). Sized rooms (length words) (length text) n) (sym move-front.auto.area) sz) p pa mode.Text l o m (text-gathers l o)
    (fronted-lists hd l o m li) (piece_kind args.kind) (piece_bytes args.kind args.bytes.now) args.content.gathered (omega arith) gather-piece.result (λ x. refl)
    gather-piece.ensures.result_value gather-piece.ensures.out_after (c.told.ensures ∙ ap (λ (x : CodedContent). told_by mode.Text x gather-piece.result) c.fronted.ensures)
