use Rattle.read_free.proofs.Rooms.{roomy, front-zero, whole-zero}
use Rattle.read_free.proofs.MoreKeys.{unrepeated-none}
use lib.Seq.{length-take-le}
use lib.ListN.{length}
use Prim.Native.Nat.{◌-◌}
use mathlib.Core.Path.{sym}
use native.Mathlib.Omega.{arith}
use Rattle.read_free.proofs.free_in_words.Goals as goal

pub returns-then-room-eq0 : goal.returns-then-room-eq0
returns-then-room-eq0 c =
    let start = c in
    record { unrepeated = unrepeated-none start.args.attributes.now start.args.source.now start.args.first; work_after = start.requires.work_value }

pub slice_bounds-free_by_chains-end : goal.slice_bounds-free_by_chains-end
slice_bounds-free_by_chains-end c =
    let args = c.args in
    (roomy (args.end - args.first) (length args.work.now) c.room_of-room.ensures c.if-room-eq0.false).within

pub slice_bounds-free_by_chains-end-2 : goal.slice_bounds-free_by_chains-end-2
slice_bounds-free_by_chains-end-2 c =
    let args = c.args in
    sym (length-take-le c.room_of-room.result args.work.now
    (roomy (args.end - args.first) (length args.work.now) c.room_of-room.ensures c.if-room-eq0.false).within)

pub free_by_chains-requires : goal.free_by_chains-requires
free_by_chains-requires c =
    let args = c.args in
    let pre = c.requires in
    let y = roomy (args.end - args.first) (length args.work.now) c.room_of-room.ensures c.if-room-eq0.false in
    let w = args.work.now in
    let l = length-take-le c.room_of-room.result w y.within in
    record { first_le_end = pre.first_le_end; end_in_bounds = pre.end_in_bounds; first_bound = y.most; first_in_bounds = omega arith; work_value = front-zero w y.within pre.work_value }

pub returns : goal.returns
returns c =
    let start = c in
    let room_of = c.room_of-room in
    let if1 = c.if-room-eq0 in
    let y = roomy (start.args.end - start.args.first) (length start.args.work.now) room_of.ensures if1.false in
    record { unrepeated = c.free_by_chains.ensures.unrepeated; work_after = whole-zero start.args.work.now y.within start.requires.work_value c.free_by_chains.ensures.work_after }
