-- What is put from the parts of both areas that are used. Assumes nothing.
use Prim.Native.Nat.{ℕ, min}
use mathlib.Core.Path.{◌≡◌, refl, ap, ◌∙◌}
use mathlib.Core.List.{List}
use mathlib.Core.Option.{Option, none, some}
use lib.ListN.{length, take}
use Rattle.area.specs.Limits.{most_words, most_bytes}
use Rattle.tree_layout.specs.of_tree_report.Report.{Report}
use Rattle.tree_layout.specs.of_tree_report.Layout.{used_words, used_text, records_of}
use Rattle.tree_layout.specs.of_tree_report.ReportOf.{report_of}
use Rattle.write_document.proofs.of_list_values.Cutting.{take-least}
use Rattle.write_document.specs.of_list_sums.inside.Rows.{records_in}
use Rattle.write_document.proofs.of_list_sums.Used.{records-used}
use Rattle.write_answer.specs.of_write_table.Laid.{items_of}
use Rattle.write_marks.specs.of_write_items.inside.Document.{document_in}
use Rattle.write_marks.proofs.of_write_items.Documents.{tree-items, no_items}
use Rattle.write_answer.specs.Answer.{written_or, events_of}

document-events : (words text : List ℕ) → document_in (used_text text) (records_of words) ≡ items_of (events_of words text)
unfolding events_of
document-events words text = go (report_of words text) refl
  where
    go : (r : Option Report) → report_of words text ≡ r → document_in (used_text text) (records_of words) ≡ items_of (written_or r)
    go none e = no_items words text e
    go (some r) e = tree-items words text r e

pub used-items : (words text : List ℕ) (limit bytes : ℕ) → limit ≡ min (length words) most_words → bytes ≡ min (length text) most_bytes
    → document_in (take bytes text) (records_in (take limit words)) ≡ items_of (events_of words text)
used-items words text limit bytes p q =
    let w : take limit words ≡ used_words words = ap (λ (n : ℕ). take n words) p ∙ take-least words most_words in
    let t : take bytes text ≡ used_text text = ap (λ (n : ℕ). take n text) q ∙ take-least text most_bytes in
    ap (λ (l : List ℕ). document_in l (records_in (take limit words))) t
    ∙ ap (λ (l : List ℕ). document_in (used_text text) (records_in l)) w
    ∙ ap (document_in (used_text text)) (records-used words)
    ∙ document-events words text
