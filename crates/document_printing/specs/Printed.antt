-- What the program that writes documents prints: the XML document of its input's report, or `(refused)` (rules P2, P3 and P6).
-- Definitions only.
use Rattle.std.specs.Prelude.{ℕ, List, cond, ltb, length}
use Rattle.std.proofs.Math.Option.{Option, none, some}
use Rattle.xml_writer.specs.of_area.Answer.{Answer, gives, refuses}
use Rattle.write_printing.specs.of_list_input.Input as input
use Rattle.xml_listing.specs.of_read_machine.Reading.{Read, reading}
use Rattle.xml_listing.specs.of_public_claims.PublicListing.{refused_text, behind_reading}
use Rattle.tokenizer.specs.of_xml_machine.Tokens as token
use Rattle.xml_listing.specs.XmlListing.{table_in}
use Rattle.xml_writer.specs.of_xml_answer.Answer.{document_of, document_answer}

-- a buffer each: 65,536 bytes or 16,384 words (rule P3)
abbrev pub buffer_words : ℕ
buffer_words = 16384

abbrev pub buffer_bytes : ℕ
buffer_bytes = 65536

-- `(refused)` where writing refuses (rule P6)
abbrev pub answer_bytes : Answer ℕ → List ℕ → List ℕ
answer_bytes (gives n) f = f
answer_bytes (refuses c) f = refused_text

-- the document of two areas of a tree, in n bytes
unfoldable pub tree_printed : (n : ℕ) (words text : List ℕ) → List ℕ
tree_printed n words text = answer_bytes (document_answer words text n) (document_of words text)

-- `(refused)` where reading refuses, and else by the areas as reading left them (rule P6)
abbrev pub read_printed : ℕ → Read → List ℕ
read_printed n r = behind_reading r.outcome (tree_printed n r.words r.text)

-- by what the tokenizer answered: `(refused)` where it refuses
abbrev pub tokens_by : ℕ → token.Answer → (events attributes source : List ℕ) → List ℕ
tokens_by n (token.done-with m k) events attributes source = read_printed n (reading (table_in m events) (table_in k attributes) source buffer_words buffer_bytes buffer_bytes)
tokens_by n (token.refused number byte) events attributes source = refused_text

abbrev pub tokens_printed : ℕ → token.Result → List ℕ → List ℕ
tokens_printed n r source = tokens_by n r.answer r.events r.attributes source

-- a document that is longer than a buffer gets `(refused)`, too
unfoldable pub document_printed : ℕ → List ℕ → List ℕ
document_printed n source = cond (ltb buffer_bytes (length source)) refused_text (tokens_printed n (token.tokens source buffer_words buffer_words) source)

-- an input that is no table by rule P2 is taken for a document
unfoldable pub found_printed : ℕ → Option input.Table → List ℕ → List ℕ
found_printed n none source = document_printed n source
found_printed n (some t) source = read_printed n (reading t.events t.attributes t.source buffer_words buffer_bytes buffer_bytes)

-- the whole (rule P6); what stands behind the table is ignored (rule P1)
abbrev pub program_spells : List ℕ → List ℕ
program_spells s = found_printed buffer_bytes (input.input_of buffer_words buffer_words s) s
