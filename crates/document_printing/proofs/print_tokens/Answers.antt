use Rattle.document_printing.proofs.Documents.{tokens-table, tokens-refused}
use Rattle.write_printing.proofs.Printing.{same_text}
use lib.ListN.{length}
use Rattle.document_printing.proofs.print_tokens.Goals as goal

pub print_report-requires : goal.print_report-requires
print_report-requires c = tt

pub refuse-requires : goal.refuse-requires
refuse-requires c = tt

pub returns-in-Table : goal.returns-in-Table
returns-in-Table c =
    let events-step = c.table_in in
    let attributes-step = c.table_in-in-Table in
    let a = c.args in
    let both = same_text (length a.out.now)
    (tokens-table (length a.out.now) a.events.now a.attributes.now a.source.now a.told _ _ c.in-Table.is
    events-step.result.now attributes-step.result.now events-step.ensures attributes-step.ensures)
    (c.print_report.ensures.out, c.print_report.ensures.count) in record { out = both.0; count = both.1 }

pub returns-in-Refused : goal.returns-in-Refused
returns-in-Refused c =
    let a = c.args in
    let both = same_text (length a.out.now) (tokens-refused (length a.out.now) a.events.now a.attributes.now a.source.now a.told _ _ c.in-Refused.is)
    (c.refuse.ensures.area, c.refuse.ensures.count) in record { out = both.0; count = both.1 }
