use lib.ListN.{length, take}
use Rattle.xml_call.specs.of_xml_listing.XmlListing.{lent}
use Rattle.xml_printing.proofs.Documents.{same_text, too_long, printed}
use Rattle.xml_printing.proofs.print_document.Goals as goal

pub returns-then-document-gt-BUFFER : goal.returns-then-document-gt-BUFFER
returns-then-document-gt-BUFFER c = let a = c.args in
    let b = lent a.records.now a.text.now a.scratch.now a.out.now in
    let both = same_text _ _ _ _ _ (too_long (length a.events.now) (length a.attributes.now) b c.front-document.result.now (take a.n a.input.now) c.front-document.ensures c.if-document-gt-BUFFER.true) (c.refuse.ensures.area, c.refuse.ensures.count) in record { out = both.0; count = both.1 }

pub returns : goal.returns
returns c = let a = c.args in
    let b = lent a.records.now a.text.now a.scratch.now a.out.now in
    let both = same_text _ _ _ _ _ (printed (length a.events.now) (length a.attributes.now) b c.front-document.result.now (take a.n a.input.now) c.front-document.ensures c.if-document-gt-BUFFER.false) (c.list_xml.ensures.out, c.list_xml.ensures.count) in record { out = both.0; count = both.1 }
