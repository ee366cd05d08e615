-- What the program prints for a document (rule N12). Definitions only.
use Rattle.std.specs.Prelude.{ℕ, List, cond, length, ltb}
use Rattle.xml_call.specs.of_public_claims.PublicListing.{refused_text}
use Rattle.xml_call.specs.of_xml_listing.XmlListing.{Lent, xml_listing}

-- the bytes of a buffer
abbrev pub buffer : ℕ
buffer = 65536

-- a document that fills more than one buffer gets `(refused)`, too; with areas of m and n words for events and attributes
unfoldable pub xml_printed : (m n : ℕ) → Lent → List ℕ → List ℕ
xml_printed m n b document = cond (ltb buffer (length document)) refused_text (xml_listing document m n b)

-- a buffer each: 65,536 bytes or 16,384 words
abbrev pub buffers : Lent
buffers = record { records = 16384; text = 65536; scratch = 65536; out = 65536 }

-- rule N12
abbrev pub program_prints : List ℕ → List ℕ
program_prints document = xml_printed 16384 16384 buffers document
