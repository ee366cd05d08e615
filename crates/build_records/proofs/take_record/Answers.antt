use Rattle.build_records.proofs.Taking.{no_record, one-record}
use Rattle.build_records.proofs.take_record.Goals as goal

pub returns-then-room_for-n : goal.returns-then-room_for-n
returns-then-room_for-n c =
    let args = c.args in
    λ text. no_record args.kind args.b args.records.now text (rw c.room_for.ensures at c.if-room_for-n.true)

pub returns : goal.returns
returns c =
    let args = c.args in
    let room_for = c.room_for in
    let if1 = c.if-room_for-n in
    λ text. one-record args.kind args.b args.records.now text (rw room_for.ensures at if1.false) c.put_field.ensures
