-- What writing a document leaves in its area is the report's document. Assumes nothing.
use Prim.Native.Nat.{ℕ, ◌-◌, min, ◌≤◌}
use mathlib.Core.Path.{◌≡◌, refl, sym, ap, ◌∙◌}
use mathlib.Core.List.{List}
use mathlib.Core.Bool.{Bool, true, false, cond}
use mathlib.Core.Option.{Option, some}
use native.Mathlib.Omega.{arith}
use borrow.Author.Tests.{leb-true}
use lib.Dec.{leb}
use lib.ListN.{length, take}
use lib.Seq.{take_at}
use Rattle.xml_answer.specs.of_area.Answer.{Answer, gives, refuses}
use Rattle.xml_answer.specs.of_area.Area.{zeros, placing}
use Rattle.xml_answer.specs.of_area.Limits.{most_bytes}
use Rattle.xml_answer.proofs.of_area.Laying.{laid-zeros}
use Rattle.xml_answer.specs.of_refusal.Refusal.{Outcome, accepted, refused, late}
use Rattle.xml_answer.specs.of_tree_report.Report.{Report}
use Rattle.xml_answer.specs.of_tree_report.Layout.{layout}
use Rattle.round_claims.specs.of_read_report.Answer.{Holds}
use Rattle.xml_answer.specs.of_list_text.Listing.{outcome_of, output_for}
use Rattle.xml_answer.specs.of_write_report.Written.{written}
use Rattle.xml_answer.specs.of_write_answer.Answer.{written_or, events_of}
use Rattle.xml_answer.specs.of_write_spelled.Spelled.{spelled}
use Rattle.xml_answer.specs.Answer.{document, document_of, document_answer, wrote_xml, document_left}
use Rattle.xml_answer.specs.of_refusal.declared.Cause.TheVariants as cause

-- an answer that is accepted gives its number
gives-only : (a : Answer ℕ) (n : ℕ) → outcome_of a ≡ accepted n → a ≡ gives n
gives-only (gives k) n e = let z : k ≡ n = cc in ap gives z
gives-only (refuses c) n e = let z : ◌≡◌ {A = ℕ} 0 1 = cc in absurd (omega arith)

-- what is placed is within the limit
placed-only : (x : Bool) (k n : ℕ) → cond x (gives k) (refuses cause.OutputFull) ≡ gives n → (x ≡ true) × (k ≡ n)
placed-only true k n e = (refl, cc)
placed-only false k n e = let z : ◌≡◌ {A = ℕ} 0 1 = cc in absurd (omega arith)

module _ (words text : List ℕ) (r : Report) (h : Holds r words text) (n : ℕ) (e : wrote_xml words text most_bytes ≡ accepted n) where
  pub document-of : document_of words text ≡ document r
  unfolding document_of document events_of
  document-of = ap (λ (q : Option Report). spelled 0 false (written_or q)) h.report

  answered : document_answer words text most_bytes ≡ gives n
  answered = gives-only (document_answer words text most_bytes) n e

  placed : placing cause.OutputFull (min most_bytes most_bytes) (document r) ≡ gives n
  unfolding document_answer
  placed =
      ap (λ (s : List ℕ). placing cause.OutputFull (min most_bytes most_bytes) s) (sym document-of)
      ∙ ap (λ (b : Bool). cond b (placing cause.OutputFull (min most_bytes most_bytes) (document_of words text)) (refuses cause.NotLayout)) (sym h.whole)
      ∙ answered

  pub document-length : length (document r) ≡ n
  document-length = (placed-only (leb (length (document r)) (min most_bytes most_bytes)) (length (document r)) n placed).1

  pub document-within : length (document r) ≤ most_bytes
  document-within =
      let l = leb-true (length (document r)) (min most_bytes most_bytes) (placed-only (leb (length (document r)) (min most_bytes most_bytes)) (length (document r)) n placed).0 in
      omega arith

  -- the bytes in use are the document
  pub document-used : take n (document_left words text most_bytes) ≡ document r
  unfolding document_left
  document-used =
      ap (λ (a : Answer ℕ). take n (output_for a most_bytes (document_of words text))) answered
      ∙ ap (λ (s : List ℕ). take n (output_for (gives n) most_bytes s)) document-of
      ∙ ap (take n) (laid-zeros most_bytes (document r) document-within)
      ∙ take_at (document r) (zeros (most_bytes - length (document r))) n document-length
