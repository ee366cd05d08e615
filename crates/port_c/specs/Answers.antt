-- What listing, writing and explaining answer other languages. Definitions only.
use Rattle.std.specs.Prelude.{ℕ}
use Rattle.case_tags.specs.of_refusal.Refusal.{Outcome}
use Rattle.xml_call.specs.of_lister.declared.Listing.{Listing}
use Rattle.xml_call.specs.of_lister.Answer.{listing_from}
use Rattle.xml_writer.specs.of_write_answer.Answer.{Sizes}
use Rattle.xml_writer.specs.of_writer.declared.Writing.{Writing}
use Rattle.xml_writer.specs.of_writer.Answer.{writing_from}
use Rattle.xml_writer.specs.declared.Document.{Document}
use Rattle.xml_writer.specs.Answer.{document_from}
use Rattle.explain.specs.declared.Explained.{Explained}
use Rattle.explain.specs.Answer.{explained_from}
use Rattle.port_values.specs.of_port_refusal.Port.{port_refusal}
use Rattle.port_c.specs.declared.tables.KListing.{KListing}
use Rattle.port_c.specs.declared.tables.KWriting.{KWriting}
use Rattle.port_c.specs.declared.tables.KDocument.{KDocument}
use Rattle.port_c.specs.declared.tables.KExplained.{KExplained}

abbrev pub port_listing : Listing → KListing
port_listing a = record { length = a.length; refusal = port_refusal a.verdict a.refusal }

abbrev pub listing_port : Outcome ℕ → KListing
listing_port o = port_listing (listing_from o)

abbrev pub port_writing : Writing → KWriting
port_writing a = record { events = a.events; attributes = a.attributes; bytes = a.bytes; refusal = port_refusal a.verdict a.refusal }

abbrev pub writing_port : Outcome Sizes → KWriting
writing_port o = port_writing (writing_from o)

abbrev pub port_document : Document → KDocument
port_document a = record { length = a.length; refusal = port_refusal a.verdict a.refusal }

abbrev pub document_port : Outcome ℕ → KDocument
document_port o = port_document (document_from o)

abbrev pub port_explained : Explained → KExplained
port_explained a = record { length = a.length; refusal = port_refusal a.verdict a.refusal }

abbrev pub explained_port : Outcome ℕ → KExplained
explained_port o = port_explained (explained_from o)
