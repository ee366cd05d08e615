use lib.ListN.{length}
use Rattle.xml_call.specs.of_xml_machine.Tokens.{tokens}
use Rattle.port_c.proofs.Told.{told-port, port-table, port-refused}
use Rattle.port_c.proofs.documents.kerzhoma_tokenize.Goals as goal

pub returns-in-Table : goal.returns-in-Table
returns-in-Table c = let a = c.args in
    let both = told-port (tokens a.source.now (length a.events.now) (length a.attributes.now)) c.tokenize-answer.ensures _ (port-table c.tokenize-answer.result _ _ c.in-Table.is) in record { value = both.0; events_after = both.1.0; attributes_after = both.1.1 }

pub returns-in-Refused : goal.returns-in-Refused
returns-in-Refused c = let a = c.args in
    let both = told-port (tokens a.source.now (length a.events.now) (length a.attributes.now)) c.tokenize-answer.ensures _ (port-refused c.tokenize-answer.result _ _ c.in-Refused.is) in record { value = both.0; events_after = both.1.0; attributes_after = both.1.1 }
