use Rattle.read_pieces.specs.of_table.Event.{piece_kind, piece_bytes}
use lib.ListN.{length}
use Prim.Native.Nat.{◌-◌}
use mathlib.Core.Logic.{inl, inr}
use Rattle.read_again.proofs.Putting.{none-put, none-laid, piece-answers, piece-area}
use Rattle.read_again.proofs.put_piece.Goals as goal

pub returns-in-At : goal.returns-in-At
returns-in-At c =
    let a = c.args in
    let told = c.in-At.is in
    let g = c.gather_piece in record { result_value = λ o. rw told (piece-answers a.out.now a.k (piece_kind a.kind) (piece_bytes a.kind a.bytes.now) g.result _ g.ensures.result_value c.put_of.ensures); out_after = λ o. rw told (piece-area a.out.now a.k (piece_kind a.kind) (piece_bytes a.kind a.bytes.now) g.ensures.out_after) }

pub returns-in-Text : goal.returns-in-Text
returns-in-Text c =
    let a = c.args in
    elim c.in-Text.is [
      | inl e ↦ record { result_value = λ o. rw e (none-put (length a.out.now - a.k)); out_after = λ o. rw e (none-laid a.out.now a.k) }
      | inr e ↦ record { result_value = λ o. rw e (none-put (length a.out.now - a.k)); out_after = λ o. rw e (none-laid a.out.now a.k) }
    ]
