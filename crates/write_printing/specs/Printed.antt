-- What the program that writes prints: the table that its input's report is written as, in the form of its input, or `(refused)`
-- (rules P2, P3 and P5). Definitions only.
use Rattle.std.specs.Prelude.{ℕ, List}
use Rattle.std.proofs.Math.Option.{Option, none, some}
use Rattle.writer.specs.of_area.Answer.{Answer, gives, refuses}
use Rattle.list_printing.specs.of_list_input.Input as input
use Rattle.list_printing.specs.of_read_machine.Reading.{Read, reading}
use Rattle.list_printing.specs.of_public_claims.PublicListing.{refused_text, behind_reading}
use Rattle.write_words.specs.of_write_table.Laid.{Table}
use Rattle.writer.specs.of_write_answer.Answer.{Sizes, table_of, writing_answer}
use Rattle.write_words.specs.Bytes.{table_bytes}

-- a buffer each: 65,536 bytes or 16,384 words (rule P3)
abbrev pub buffer_words : ℕ
buffer_words = 16384

abbrev pub buffer_bytes : ℕ
buffer_bytes = 65536

-- `(refused)` where writing refuses (rule P5)
abbrev pub answer_bytes : Answer Sizes → Table → List ℕ
answer_bytes (gives s) t = table_bytes t
answer_bytes (refuses c) t = refused_text

-- the table that two areas of a tree are written as
unfoldable pub tree_printed : (words text : List ℕ) → List ℕ
tree_printed words text = answer_bytes (writing_answer words text buffer_words buffer_words buffer_bytes) (table_of words text)

-- `(refused)` where reading refuses, and else by the areas as reading left them (rule P5)
abbrev pub read_printed : Read → List ℕ
read_printed r = behind_reading r.outcome (tree_printed r.words r.text)

-- an input that is no table gets `(refused)`, too (rule P2)
unfoldable pub found_printed : Option input.Table → List ℕ
found_printed none = refused_text
found_printed (some t) = read_printed (reading t.events t.attributes t.source buffer_words buffer_bytes buffer_bytes)

-- the whole (rule P5); what stands behind the table is ignored (rule P1)
abbrev pub program_writes : List ℕ → List ℕ
program_writes s = found_printed (input.input_of buffer_words buffer_words s)
