-- What tokenizing answers other languages. Definitions only.
use Rattle.case_tags.specs.of_refusal.Refusal.{nowhere}
use Rattle.xml_call.specs.of_xml_machine.Tokens.{Answer, done-with, refused}
use Rattle.port_c.specs.declared.documents.KTokenized.{KTokenized}

-- number 0 where the document is tokenized
abbrev pub tokenized_port : Answer → KTokenized
tokenized_port (done-with n k) = record { events = n; attributes = k; number = 0; byte = nowhere }
tokenized_port (refused number byte) = record { events = 0; attributes = 0; number = number; byte = byte }
