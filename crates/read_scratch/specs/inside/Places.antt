-- Where the texts that are being gathered lie in scratch. Definitions only.
use Rattle.std.specs.Prelude.{ℕ, ◌+◌, Bool, false, leb}
use Rattle.read_content.specs.of_read_state.declared.Mode.{Mode as CodedMode}
use Rattle.read_content.specs.of_read_state.declared.Mode.TheVariants.{At, Text, List as Listing}
use Rattle.read_content.specs.declared.Content.{Content as CodedContent}

-- where a piece goes
abbrev pub piece_from : CodedMode → CodedContent → ℕ
piece_from At c = c.description
piece_from Text c = c.child + c.gathered
piece_from Listing c = 0

-- the text of a child that isn't at the front
abbrev pub may_move : CodedMode → CodedContent → Bool
may_move At c = false
may_move Text c = leb 1 c.child
may_move Listing c = false

-- the text of a child is at the front, over the description
abbrev pub fronted_in : CodedContent → CodedContent
fronted_in c =
    record {
      used = c.used;
      fill = c.fill;
      description = c.description;
      gathered = c.gathered;
      child = 0;
      report_at = c.report_at;
      suite_list = c.suite_list;
      case_list = c.case_list;
      free = c.free;
    }
