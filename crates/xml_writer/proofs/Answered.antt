-- The whole answer of writing a document, from its length or cause. Assumes nothing.
use Prim.Native.Nat.{ℕ}
use mathlib.Core.Path.{◌≡◌, refl, ap, ◌∙◌}
use mathlib.Core.List.{List}
use Rattle.writer.specs.of_refusal.Refusal.{refused, late, no_refusal}
use Rattle.writer.specs.of_refusal.declared.Cause.{Cause}
use Rattle.writer.specs.of_refusal.declared.Refusal.{Refusal}
use Rattle.writer.specs.of_refusal.declared.Verdict.TheVariants.{Accepted}
use Rattle.writer.specs.of_area.Answer.{Answer, gives, refuses}
use Rattle.xml_answer.specs.of_list_text.Listing.{outcome_of}
use Rattle.xml_answer.specs.Answer.{wrote_xml, document_left}
use Rattle.xml_writer.specs.declared.Document.{Document}
use Rattle.xml_writer.specs.Answer.{document_from}
use Rattle.xml_writer.proofs.Leaving.{Left}

module _ (words text : List ℕ) (n : ℕ) where
  abbrev pub Whole : Document → List ℕ → Type 0
  Whole r out = (r ≡ document_from (wrote_xml words text n)) × (out ≡ document_left words text n)

  pub refused-whole : {r : Document} {c : Cause} {out : List ℕ} → r ≡ document_from (refused (late c)) → Left words text n (refuses c) out → Whole r out
  refused-whole q p = (q ∙ ap (λ (o : Answer ℕ). document_from (outcome_of o)) p.answer, p.area)

  pub written-whole : {f : Refusal} {k : ℕ} {out : List ℕ} → f ≡ no_refusal → Left words text n (gives k) out
      → Whole (record { verdict = Accepted; length = k; refusal = f }) out
  written-whole {f} {k} q p = (whole q ∙ ap (λ (o : Answer ℕ). document_from (outcome_of o)) p.answer, p.area)
    where
      whole : f ≡ no_refusal → ◌≡◌ {A = Document} (record { verdict = Accepted; length = k; refusal = f }) (document_from (outcome_of (gives k)))
      whole q = rw q refl
