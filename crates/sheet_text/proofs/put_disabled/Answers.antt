use Rattle.sheet_text.proofs.put_disabled.Goals as goal

pub returns-then-presence : goal.returns-then-presence
returns-then-presence c = rw c.if-presence.true c.put_line.ensures

pub returns : goal.returns
returns c = rw c.if-presence.false c.put.ensures
