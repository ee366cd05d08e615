-- What writing a report's XML document answers and leaves in its area (rules W20 and F13). Definitions only.
use Rattle.std.specs.Prelude.{ℕ, min, List, false, cond}
use Rattle.list_text.specs.of_area.Answer.{Answer, refuses}
use Rattle.list_text.specs.of_area.Area.{placing}
use Rattle.list_text.specs.of_area.Limits.{most_bytes}
use Rattle.list_text.specs.of_refusal.Refusal.{Outcome}
use Rattle.list_text.specs.of_tree_report.Report.{Report}
use Rattle.list_text.specs.of_tree_report.Layout.{layout}
use Rattle.list_text.specs.Listing.{outcome_of, output_for}
use Rattle.write_answer.specs.of_write_report.Written.{written}
use Rattle.write_answer.specs.of_write_spelled.Spelled.{spelled}
use Rattle.write_answer.specs.Answer.{events_of}
use Rattle.list_text.specs.of_refusal.declared.Cause.TheVariants as cause

-- the bytes of a report's document: its events, however many, spelled out (rule W17)
unfoldable pub document : Report → List ℕ
document r = spelled 0 false (written r)

-- those of the report that two areas hold
unfoldable pub document_of : (words text : List ℕ) → List ℕ
document_of words text = spelled 0 false (events_of words text)

-- 15: not a layout, then 16: longer than the n bytes of the area, of which those up to the limit are used (rule W20)
unfoldable pub document_answer : (words text : List ℕ) (n : ℕ) → Answer ℕ
document_answer words text n = cond (layout words text) (placing cause.OutputFull (min n most_bytes) (document_of words text)) (refuses cause.NotLayout)

-- rule W20
abbrev pub wrote_xml : (words text : List ℕ) (n : ℕ) → Outcome ℕ
wrote_xml words text n = outcome_of (document_answer words text n)

-- the area afterwards: the document with zeros behind it, or zeros throughout at a refusal (rule F13)
unfoldable pub document_left : (words text : List ℕ) (n : ℕ) → List ℕ
document_left words text n = output_for (document_answer words text n) n (document_of words text)
