-- A piece of text put into scratch. Definitions only.
use Rattle.std.specs.Prelude.{Ok, Err, ℕ, ◌+◌, List, Bool, true, false, cond, eqb, Result}
use Rattle.fronting.specs.of_area.Answer.{Answer, gives}
use Rattle.fronting.specs.of_area.Area.{placing, laid}
use Rattle.read_scratch.specs.of_table.Event.{PieceKind}
use Rattle.read_scratch.specs.of_table.Event as event
use Rattle.text_pieces.specs.Gather.{text_of, text_laid, cdata_of, cdata_laid, reference_of, reference_laid}
use Rattle.read_scratch.specs.of_read_state.declared.Mode.{Mode as CodedMode}
use Rattle.read_scratch.specs.of_read_state.declared.Mode.TheVariants.{At, Text, List as Listing}
use Rattle.read_scratch.specs.of_read_content.declared.Content.{Content as CodedContent}
use Rattle.fronting.specs.of_refusal.declared.Cause.TheVariants as cause
use Rattle.read_scratch.specs.of_read_content.inside.Holds.{Performed, fault_of, content}
use Rattle.text_pieces.specs.of_text.declared.kept.Unkept.{Unkept}
use Rattle.text_pieces.specs.of_text.declared.kept.Unkept.TheVariants as kept

-- the answer and the scratch behind a piece that is put into scratch from its mark on, n bytes are left
abbrev pub piece_answer : PieceKind → ℕ → List ℕ → Answer ℕ
piece_answer event.Text n s = text_of n s
piece_answer event.CData n s = cdata_of n s
piece_answer event.Ref n s = reference_of n s
piece_answer event.Indent n s = placing cause.ScratchFull n s
piece_answer event.Other n s = gives 0

abbrev pub piece_laid : PieceKind → List ℕ → List ℕ → List ℕ
piece_laid event.Text out s = text_laid out s
piece_laid event.CData out s = cdata_laid out s
piece_laid event.Ref out s = reference_laid out s
piece_laid event.Indent out s = laid out s
piece_laid event.Other out s = out

-- n bytes more, of the open description or of the text of a child
abbrev pub described_by : ℕ → CodedContent → CodedContent
described_by n c =
    record {
      used = c.used;
      fill = c.fill;
      description = c.description + n;
      gathered = c.gathered;
      child = cond (eqb c.child c.description) (c.description + n) c.child;
      report_at = c.report_at;
      suite_list = c.suite_list;
      case_list = c.case_list;
      free = c.free;
    }

abbrev pub lengthened_by : ℕ → CodedContent → CodedContent
lengthened_by n c = content c.used c.fill c.description (c.gathered + n) c.report_at c.suite_list c.case_list c

abbrev pub joined_by : CodedMode → ℕ → CodedContent → CodedContent
joined_by At n c = described_by n c
joined_by Text n c = lengthened_by n c
joined_by Listing n c = c

-- what a piece comes to
abbrev pub is_full : Result ℕ Unkept → Bool
is_full (Ok n) = false
is_full (Err kept.Full) = true
is_full (Err kept.NotUtf8) = false
is_full (Err kept.BadReference) = false
is_full (Err kept.UnknownName) = false

abbrev pub kept_length : Result ℕ Unkept → ℕ
kept_length (Ok n) = n
kept_length (Err kept.Full) = 0
kept_length (Err kept.NotUtf8) = 0
kept_length (Err kept.BadReference) = 0
kept_length (Err kept.UnknownName) = 0

abbrev pub told_by : CodedMode → CodedContent → Result ℕ Unkept → Performed
told_by m c (Ok n) = Ok (joined_by m n c)
told_by m c (Err kept.Full) = Err (fault_of cause.ScratchFull)
told_by m c (Err kept.NotUtf8) = Err (fault_of cause.NotUtf8)
told_by m c (Err kept.BadReference) = Err (fault_of cause.BadReference)
told_by m c (Err kept.UnknownName) = Err (fault_of cause.UnknownEntity)
