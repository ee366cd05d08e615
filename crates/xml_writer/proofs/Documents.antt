-- What is put for a tree is its document. Assumes nothing.
use Prim.Native.Nat.{ℕ}
use mathlib.Core.Path.{◌≡◌, refl, sym, ap, ◌∙◌}
use mathlib.Core.List.{List, [], ◌∷◌, ◌++◌, append-nil}
use mathlib.Core.Option.{Option, none, some}
use Rattle.writer.specs.of_names.Bytes.{bytes}
use Rattle.writer.specs.of_table.Event.{Event, Eof}
use Rattle.writer.specs.of_tree_report.Report.{Report}
use Rattle.writer.specs.of_tree_report.ReportOf.{report_of}
use Rattle.writer.specs.of_write_report.Written.{each, start_tag, end_tag, indent, report_attributes, declaration, serialize_test_suite, serialize_report, written}
use Rattle.writer.specs.of_write_table.Laid.{items_of}
use Rattle.writer.specs.of_write_table.inside.Forms.{closing, form_behind}
use Rattle.writer.proofs.of_write_table.Writing.{items_append}
use Rattle.writer.proofs.of_write_table.Spelling.{items_text, last_form, items-spelled, form-append}
use Rattle.writer.proofs.of_write_items.Documents.{items-numbered}
use Rattle.writer.specs.of_write_answer.Answer.{written_or, events_of}
use Rattle.xml_answer.specs.Answer.{document_of}

-- the report's End, Eof and Indent
abbrev back : List Event
back = end_tag (bytes "testsuites") ∷ Eof ∷ indent ∷ []

abbrev front : Report → List Event
front r = declaration ∷ start_tag (bytes "testsuites") (report_attributes r) ∷ each serialize_test_suite r.suites

ends : (form : ℕ) → last_form form (items_of back) ≡ 4
unfolding items_of last_form form_behind
ends form = refl

whole : (r : Report) → serialize_report r ≡ front r ++ back
unfolding serialize_report
whole r = refl

-- no tag is left open
report-ends : (r : Report) → last_form 4 (items_of (written r)) ≡ 4
unfolding written
report-ends r =
    ap (last_form 4) (items-numbered 0 (serialize_report r) ∙ ap items_of (whole r) ∙ items_append (front r) back)
    ∙ form-append 4 (items_of (front r)) (items_of back)
    ∙ ends (last_form 4 (items_of (front r)))

events-end : (o : Option Report) → last_form 4 (items_of (written_or o)) ≡ 4
unfolding items_of last_form
events-end none = refl
events-end (some r) = report-ends r

pub document-text : (words text : List ℕ) → items_text 4 0 (items_of (events_of words text)) ≡ document_of words text
unfolding events_of document_of
document-text words text =
    let es = written_or (report_of words text) in
    sym (append-nil (items_text 4 0 (items_of es)))
    ∙ ap (λ (n : ℕ). items_text 4 0 (items_of es) ++ closing n) (sym (events-end (report_of words text)))
    ∙ items-spelled 4 0 es
