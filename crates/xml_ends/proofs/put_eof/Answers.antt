use Rattle.xml_ends.proofs.Answers.{eof-put, eof-full, eof-bad}
use Rattle.xml_ends.proofs.put_eof.Goals as goal

pub returns-in-Go : goal.returns-in-Go
returns-in-Go c =
    let a = c.args in
    eof-put a.st a.events.now c.put_over.new.events c.put_over.ensures c.in-Go.is

pub returns-in-Full : goal.returns-in-Full
returns-in-Full c =
    let a = c.args in
    eof-full a.st a.events.now c.put_over.new.events c.put_over.ensures c.in-Full.is

pub returns-in-Bad : goal.returns-in-Bad
returns-in-Bad c =
    let a = c.args in
    eof-bad a.st a.events.now c.put_over.new.events c.put_over.ensures c.in-Bad.is
