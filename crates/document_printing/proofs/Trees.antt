-- What is printed of a tree, by what writing its document answered. Assumes nothing.
use Prim.Native.Nat.{ℕ, ◌≤◌, min}
use mathlib.Core.Path.{◌≡◌, refl, sym, ap, ◌∙◌}
use mathlib.Core.List.{List}
use mathlib.Core.Bool.{Bool, true, false, cond}
use native.Mathlib.Omega.{arith}
use lib.ListN.{length}
use Rattle.xml_writer.specs.of_area.Answer.{Answer, gives, refuses}
use Rattle.xml_writer.specs.of_area.Area.{zeros, placing, laid}
use Rattle.xml_writer.specs.of_area.Limits.{most_bytes}
use Rattle.xml_writer.proofs.of_area.Laying.{put-fits}
use Rattle.xml_writer.specs.of_refusal.declared.Verdict.TheVariants.{Accepted, Refused as IsRefused}
use Rattle.xml_writer.specs.of_refusal.declared.Cause.TheVariants as cause
use Rattle.xml_writer.specs.of_tree_report.Layout.{layout}
use Rattle.xml_writer.specs.of_list_text.Listing.{outcome_of, output_for}
use Rattle.xml_writer.specs.of_xml_answer.Answer.{document_of, document_answer, wrote_xml, document_left}
use Rattle.xml_writer.specs.declared.Document.{Document}
use Rattle.xml_writer.specs.Answer.{document_from}
use Rattle.xml_listing.specs.of_public_claims.PublicListing.{refused_text}
use Rattle.write_printing.proofs.Printing.{Prints}
use Rattle.document_printing.specs.Printed.{answer_bytes, tree_printed}

-- a refusal, put into an area that another call left
pub left-refused : (k : ℕ) (x out f : List ℕ) (n : ℕ) → length x ≡ k → f ≡ refused_text → out ≡ laid (zeros (length x)) refused_text → n ≡ min (length x) (length refused_text)
    → Prints k f out n
left-refused k x out f n s e p q = (p ∙ rw (s, e) refl, q ∙ rw (s, e) refl)

module _ (words text : List ℕ) (n : ℕ) where
  abbrev f : List ℕ
  f = document_of words text

  -- a length that is given is the document's
  given-fits : (m : ℕ) → document_answer words text n ≡ gives m → (length f ≤ min n most_bytes) × (m ≡ length f)
  unfolding document_answer
  given-fits m e = go (layout words text) e
    where
      go : (b : Bool) → cond b (placing cause.OutputFull (min n most_bytes) f) (refuses cause.NotLayout) ≡ gives m → (length f ≤ min n most_bytes) × (m ≡ length f)
      go true q = put-fits cause.OutputFull (min n most_bytes) f m (sym q)
      go false q = let z : ◌≡◌ {A = ℕ} 0 1 = cc in absurd (omega arith)

  module _ (x : Document) (q : x ≡ document_from (wrote_xml words text n)) where
    -- the document was put
    pub tree-written : (out : List ℕ) → x.verdict ≡ Accepted → out ≡ document_left words text n → Prints n (tree_printed n words text) out x.length
    unfolding document_left tree_printed
    tree-written out v l = go (document_answer words text n) refl
      where
        go : (o : Answer ℕ) → document_answer words text n ≡ o → Prints n (answer_bytes (document_answer words text n) f) out x.length
        go (gives m) p =
            let g = given-fits m p in
            let k : x.length ≡ m = ap (λ (y : Document). y.length) q ∙ ap (λ (o : Answer ℕ). (document_from (outcome_of o)).length) p in
            rw p (l ∙ ap (λ (o : Answer ℕ). output_for o n f) p, omega (arith, k, g.0, g.1))
        go (refuses c) p =
            let w : x.verdict ≡ IsRefused = ap (λ (y : Document). y.verdict) q ∙ ap (λ (o : Answer ℕ). (document_from (outcome_of o)).verdict) p in
            let z : ◌≡◌ {A = ℕ} 0 1 = cc in absurd (omega arith)

    pub tree-refused : x.verdict ≡ IsRefused → refused_text ≡ tree_printed n words text
    unfolding tree_printed
    tree-refused v = go (document_answer words text n) refl
      where
        go : (o : Answer ℕ) → document_answer words text n ≡ o → refused_text ≡ answer_bytes (document_answer words text n) f
        go (refuses c) p = sym (ap (λ (o : Answer ℕ). answer_bytes o f) p)
        go (gives m) p =
            let w : x.verdict ≡ Accepted = ap (λ (y : Document). y.verdict) q ∙ ap (λ (o : Answer ℕ). (document_from (outcome_of o)).verdict) p in
            let z : ◌≡◌ {A = ℕ} 0 1 = cc in absurd (omega arith)
