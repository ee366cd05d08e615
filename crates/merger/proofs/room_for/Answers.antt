use Rattle.merger.proofs.Steps.{report-is, room-known}
use Rattle.merger.proofs.room_for.Goals as goal

pub needs_of-x-requires : goal.needs_of-x-requires
needs_of-x-requires c = c.requires.0

pub needs_of-y-requires : goal.needs_of-y-requires
needs_of-y-requires c = c.requires.1

pub returns : goal.returns
returns c =
    let report-in = c.report_in in
    let name-size = c.name_size-name in
    let s = c.args in
    let x = c.needs_of-x.ensures.records_value in
    let y = c.needs_of-y.ensures.records_value in
    room-known s.first.now s.second.now s.words s.bytes x.0 x.1 y.0 y.1 name-size.ensures.value (report-is s.first.now report-in.ensures) c.room_by.ensures
