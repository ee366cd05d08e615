-- What the contract of `reader::read` names, of a table and the lengths of areas. Definitions only.
use Rattle.read_machine.specs.Reading.{Read, reading}
use Rattle.read_report.specs.Answer.{Table, Areas}

abbrev pub called : Table → Areas → Read
called t a = reading t.events t.attributes t.source a.words a.text a.scratch
