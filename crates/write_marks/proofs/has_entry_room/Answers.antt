use Rattle.write_marks.proofs.Storing.{limits-within, limits-over}
use Rattle.write_marks.proofs.has_entry_room.Goals as goal

pub returns-then-count-gt-ENTRIES : goal.returns-then-count-gt-ENTRIES
returns-then-count-gt-ENTRIES c = limits-over c.args.events c.args.bytes c.args.attributes c.args.count c.if-count-gt-ENTRIES.true

pub returns : goal.returns
returns c = limits-within c.args.events c.args.bytes c.args.attributes c.args.count c.if-count-gt-ENTRIES.false
